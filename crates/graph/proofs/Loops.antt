-- The loop test, one stage passed after another.
use Rattle.std.proofs.Common.{◌≡◌, ℕ, zero, suc, ◌-◌, ◌<◌, ◌≤◌, Bool, true, false, ◌||◌, List, Decides, sym, refl, ap, ◌∙◌, subst, inl, inr, ⊎_elim, arith}
use mathlib.Core.Path.{fun_ext}
use Rattle.std.proofs.lemmas.Bool.{both_ways, cases_lt}
use Rattle.theory.specs.Loops.{Links, Loop, Within}
use Rattle.theory.specs.Moves.{passed}
use Rattle.theory.specs.LoopTests.{looped}
use Rattle.theory.proofs.Deciding.{loop_test_decides}
use Rattle.graph.specs.Marks.{linked}
use Rattle.graph.proofs.Rows.{Rows, past_rows}

pub same_looped : (n : ℕ) (L M : Links) → ((a b : ℕ) → L a b ≡ M a b) → looped n L ≡ looped n M
same_looped n L M e = ap (looped n) (fun_ext (λ a. fun_ext (λ b. e a b)))

-- a stage without a self-link is passed
pub looped_less : (L M : Links) (v : ℕ) → 0 < v → L (v - 1) (v - 1) ≡ false → ((a b : ℕ) → M a b ≡ passed L (v - 1) a b) → looped (v - 1) M ≡ looped v L
looped_less L M zero h f e = absurd (omega arith)
looped_less L M (suc k) h f e =
    let p : suc k - 1 ≡ k = omega arith in
    let f' : L k k ≡ false = subst (λ x. L x x ≡ false) p f in
    let e' : (a b : ℕ) → M a b ≡ passed L k a b = subst (λ x. (a b : ℕ) → M a b ≡ passed L x a b) p e in
    ap (λ x. looped x M) p ∙ same_looped k M (passed L k) e' ∙ sym (ap (λ x. x || looped k (passed L k)) f')

-- a stage has a self-link
pub looped_here : (L : Links) (v : ℕ) → 0 < v → L (v - 1) (v - 1) ≡ true → looped v L ≡ true
looped_here L zero h t = absurd (omega arith)
looped_here L (suc k) h t =
    let p : suc k - 1 ≡ k = omega arith in
    let t' : L k k ≡ true = subst (λ x. L x x ≡ true) p t in
    ap (λ x. x || looped k (passed L k)) t'

pub looped_none : (L : Links) (v : ℕ) → v ≤ 0 → looped v L ≡ false
looped_none L zero h = refl
looped_none L (suc k) h = absurd (omega arith)

pub within_rows : (xs : List ℕ) → Rows xs → Within 64 (linked xs)
within_rows xs r a b h = (
  ⊎_elim (λ l. l) (λ (l : 64 ≤ a). absurd (both_ways _ (past_rows xs r a b (inl l)) h)) (cases_lt a 64),
  ⊎_elim (λ l. l) (λ (l : 64 ≤ b). absurd (both_ways _ (past_rows xs r a b (inr l)) h)) (cases_lt b 64),
)

pub rows_decide : (xs : List ℕ) → Rows xs → (t : Bool) → looped 64 (linked xs) ≡ t → Decides t (Loop (linked xs))
rows_decide xs r t e = subst (λ x. Decides x (Loop (linked xs))) e (loop_test_decides 64 (linked xs) (within_rows xs r))
