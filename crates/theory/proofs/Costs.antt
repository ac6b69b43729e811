-- The cost of a set when a stage joins or leaves it, and the cheapest breaking set.
use Rattle.std.proofs.Common.{◌≡◌, ℕ, zero, suc, ◌<◌, ◌≤◌, Bool, true, false, cond, ◌&&◌, eqb, ltb, ◌≢◌, ◌⊎◌, sym, refl, ap, ◌∙◌, subst, inl, inr, ⊎_elim, arith}
use mathlib.Core.Path.{fun_ext}
use Rattle.std.proofs.lemmas.Bool.{and_parts, cases_Bool, cases_eq, cases_lt, both_ways, or_cases, eq-eqb, ne_eqb, lt-ltb, le-ltb, ltb-true}
use Rattle.std.proofs.lemmas.Bool.Decides.{nat_tests}
use Rattle.theory.specs.Loops.{Links, Stages, Breaks, Within}
use Rattle.theory.specs.Moves.{with_stage, without_stage}
use Rattle.theory.specs.LoopTests.{broken}
use Rattle.theory.specs.Prices.{Kind, Lawful, cost}
use Rattle.theory.specs.Cheapest.{AddingMakesNoSetCheaper, Cheapest, CheapestSetExists, SwapMakesNoSetDearer}
use Rattle.theory.proofs.Through.{breaks_by, each_closed, got_one}
use Rattle.theory.proofs.Deciding.{breaking_test_decides}

module _ (P : Type 0) (K : Kind P) (laws : Lawful K) (price : ℕ → P) where
  pub leq_refl : (a : P) → K.leq a a ≡ true
  leq_refl a = ⊎_elim (λ e. e) (λ e. e) (or_cases _ _ (laws.total a a))

  plus_swap : (a b c : P) → K.plus (K.plus a b) c ≡ K.plus (K.plus a c) b
  plus_swap a b c = laws.assoc a b c ∙ ap (K.plus a) (laws.comm b c) ∙ sym (laws.assoc a c b)

  pub leq_plus : (a b : P) → K.leq a (K.plus a b) ≡ true
  leq_plus a b = rw (laws.comm K.nothing a ∙ laws.neutral a, laws.comm b a) at (laws.mono _ _ a (laws.least b))

  pub plus_leq : (a b c : P) → K.leq b c ≡ true → K.leq (K.plus a b) (K.plus a c) ≡ true
  plus_leq a b c h = rw (laws.comm b a, laws.comm c a) at (laws.mono b c a h)

  -- only the marks below n count
  pub cost_same : (n : ℕ) (S Z : Stages) → ((s : ℕ) → s < n → S s ≡ Z s) → cost K price n S ≡ cost K price n Z
  cost_same zero S Z f = refl
  cost_same (suc n) S Z f = rw (f n (omega arith), cost_same n S Z (λ s h. f s (omega arith)))

  -- a stage that is not in the set joins it
  pub cost_with : (n v : ℕ) (S : Stages) → v < n → S v ≡ false → cost K price n (with_stage S v) ≡ K.plus (cost K price n S) (price v)
  cost_with zero v S h ni = absurd (omega arith)
  cost_with (suc n) v S h ni = ⊎_elim here (λ ne. there ne (cost_with n v S (omega arith) ni) (cases_Bool (S n))) (cases_eq v n)
    where
      same : v ≡ n → cost K price n (with_stage S v) ≡ cost K price n S
      same e = cost_same n (with_stage S v) S (λ s h. grind (arith, nat_tests))

      here : v ≡ n → cost K price (suc n) (with_stage S v) ≡ K.plus (cost K price (suc n) S) (price v)
      here e =
          let a : S n ≡ false = subst (λ z. S z ≡ false) e ni in
          rw (same e, a, eq-eqb n v (sym e), e)

      there : v ≢ n → cost K price n (with_stage S v) ≡ K.plus (cost K price n S) (price v) → (S n ≡ true) ⊎ (S n ≡ false)
          → cost K price (suc n) (with_stage S v) ≡ K.plus (cost K price (suc n) S) (price v)
      there ne ih (inl t) = rw (t, ih) (plus_swap _ (price v) (price n))
      there ne ih (inr f) = rw (f, ne_eqb n v (λ e. ne (sym e))) ih

  -- a stage of the set leaves it
  pub cost_without : (n v : ℕ) (S : Stages) → v < n → S v ≡ true → cost K price n S ≡ K.plus (cost K price n (without_stage S v)) (price v)
  cost_without n v S h i =
      cost_same n S (with_stage (without_stage S v) v) (λ s _. grind (arith, nat_tests))
      ∙ cost_with n v (without_stage S v) h (grind (arith, nat_tests))

  pub leq_without : (n v : ℕ) (S : Stages) → v < n → K.leq (cost K price n (without_stage S v)) (cost K price n S) ≡ true
  leq_without n v S h =
      ⊎_elim
      (λ (i : S v ≡ true). rw (cost_without n v S h i) (leq_plus _ _))
      (λ (o : S v ≡ false). rw (cost_same n (without_stage S v) S (λ s _. grind (arith, nat_tests))) (leq_refl _))
      (cases_Bool (S v))

  pub leq_with : (n v : ℕ) (S : Stages) → v < n → K.leq (cost K price n (with_stage S v)) (K.plus (cost K price n S) (price v)) ≡ true
  leq_with n v S h =
      ⊎_elim
      (λ (i : S v ≡ true). rw (cost_same n (with_stage S v) S (λ s _. grind (arith, nat_tests))) (leq_plus _ _))
      (λ (o : S v ≡ false). rw (cost_with n v S h o) (leq_refl _))
      (cases_Bool (S v))

  -- a stage of the set makes way for one that is not dearer
  pub leq_swap : (n v w : ℕ) (S : Stages) → v < n → w < n → S v ≡ true → K.leq (price w) (price v) ≡ true
      → K.leq (cost K price n (with_stage (without_stage S v) w)) (cost K price n S) ≡ true
  leq_swap n v w S hv hw i p =
      rw (cost_without n v S hv i)
      (laws.trans _ _ _ (leq_with n w (without_stage S v) hw) (plus_leq _ _ _ p))

  -- one stage more, in the set or not, of the graph or not
  pub leq_more : (n v : ℕ) (S : Stages) → K.leq (cost K price n S) (cost K price n (with_stage S v)) ≡ true
  leq_more n v S = go (cases_Bool (S v)) (cases_lt v n)
    where
      go : (S v ≡ true) ⊎ (S v ≡ false) → (v < n) ⊎ (n ≤ v) → K.leq (cost K price n S) (cost K price n (with_stage S v)) ≡ true
      go (inl i) k = rw (cost_same n (with_stage S v) S (λ s _. grind (arith, nat_tests))) (leq_refl _)
      go (inr o) (inl l) = rw (cost_with n v S l o) (leq_plus _ _)
      go (inr o) (inr l) = rw (cost_same n (with_stage S v) S (λ s h. grind (arith, nat_tests))) (leq_refl _)

  -- the cheapest of all sets that agree with B from k on
  put : Stages → ℕ → Bool → Stages
  put B k t s = cond (eqb s k) t (B s)

  Agree : ℕ → Stages → Stages → Type 0
  Agree k B Z = (s : ℕ) → k ≤ s → Z s ≡ B s

  module _ (n : ℕ) (Q : Stages → Type 0) (dec : (S : Stages) → (Q S) ⊎ (Q S → ⊥)) where
    Found : ℕ → Stages → Type 0
    Found k B = ((S : Stages) × Q S × ((Z : Stages) → Agree k B Z → Q Z → K.leq (cost K price n S) (cost K price n Z) ≡ true)) ⊎ ((Z : Stages) → Agree k B Z → Q Z → ⊥)

    agree_put : (k : ℕ) (B Z : Stages) (t : Bool) → Z k ≡ t → Agree (suc k) B Z → Agree k (put B k t) Z
    unfolding Agree put
    agree_put k B Z t e f s h =
        ⊎_elim
        (λ (q : s ≡ k). rw (q, eq-eqb k k refl) e)
        (λ (q : s ≢ k). rw (ne_eqb s k q) (f s (omega arith)))
        (cases_eq s k)

    -- what holds of the sets with k, and of those without k, holds of all
    at_k : (k : ℕ) (B : Stages) (X : Stages → Type 0) → ((Z : Stages) → Agree k (put B k true) Z → Q Z → X Z) → ((Z : Stages) → Agree k (put B k false) Z → Q Z → X Z)
        → (Z : Stages) → Agree (suc k) B Z → Q Z → X Z
    at_k k B X x y Z a q =
        ⊎_elim (λ (e : Z k ≡ true). x Z (agree_put k B Z true e a) q) (λ (e : Z k ≡ false). y Z (agree_put k B Z false e a) q) (cases_Bool (Z k))

    both : (k : ℕ) (B : Stages) → Found k (put B k true) → Found k (put B k false) → Found (suc k) B
    unfolding Found
    both k B (inl x) (inl y) = go (or_cases _ _ (laws.total (cost K price n x.0) (cost K price n y.0)))
      where
        go : (K.leq (cost K price n x.0) (cost K price n y.0) ≡ true) ⊎ (K.leq (cost K price n y.0) (cost K price n x.0) ≡ true) → Found (suc k) B
        go (inl l) = inl (x.0, x.1, at_k k B (λ Z. K.leq (cost K price n x.0) (cost K price n Z) ≡ true) x.2 (λ Z a q. laws.trans _ _ _ l (y.2 Z a q)))
        go (inr l) = inl (y.0, y.1, at_k k B (λ Z. K.leq (cost K price n y.0) (cost K price n Z) ≡ true) (λ Z a q. laws.trans _ _ _ l (x.2 Z a q)) y.2)
    both k B (inl x) (inr y) = inl (x.0, x.1, at_k k B _ x.2 (λ Z a q. absurd (y Z a q)))
    both k B (inr x) (inl y) = inl (y.0, y.1, at_k k B _ (λ Z a q. absurd (x Z a q)) y.2)
    both k B (inr x) (inr y) = inr (at_k k B _ x y)

    find : (k : ℕ) (B : Stages) → Found k B
    unfolding Found Agree
    find zero B = go (dec B)
      where
        go : (Q B) ⊎ (Q B → ⊥) → Found zero B
        go (inl q) = inl (B, q, λ Z a qz. rw (cost_same n Z B (λ s _. a s (omega arith))) (leq_refl _))
        go (inr nq) = inr (λ Z a qz. nq (subst Q (fun_ext (λ s. a s (omega arith))) qz))
    find (suc k) B = both k B (find k (put B k true)) (find k (put B k false))

-- only the marks of the graph's stages matter
pub breaks_same : (n : ℕ) (L : Links) (S Z : Stages) → Within n L → ((s : ℕ) → s < n → S s ≡ Z s) → Breaks L S → Breaks L Z
breaks_same n L S Z f e =
    breaks_by L L S Z
    (each_closed _ _ (λ a b h. let p = f a b h.0 in got_one _ a b (h.0, e a p.0 ∙ h.1, e b p.1 ∙ h.2)))

clip : ℕ → Stages → Stages
clip n Z s = ltb s n && Z s

all_break : (L : Links) → Breaks L (λ _. true)
all_break L l = refl

pub cheapest_exists : (P : Type 0) (K : Kind P) → Lawful K → CheapestSetExists K
unfolding clip Found Agree
cheapest_exists P K laws price n L f = go (find P K laws price n (Breaks L) dec n (λ _. false))
  where
    dec : (S : Stages) → (Breaks L S) ⊎ (Breaks L S → ⊥)
    dec S =
        ⊎_elim (λ (e : broken n L S ≡ true). inl ((breaking_test_decides n L S f).0 e))
        (λ (e : broken n L S ≡ false). inr (λ k. both_ways _ e ((breaking_test_decides n L S f).1 k))) (cases_Bool (broken n L S))

    clipped : (Z : Stages) (s : ℕ) → s < n → clip n Z s ≡ Z s
    clipped Z s h = rw (lt-ltb s n h)

    agrees : (Z : Stages) → Agree P K laws price n (λ _. false) (clip n Z)
    agrees Z s h = rw (le-ltb s n h)

    clip_breaks : (Z : Stages) → Breaks L Z → Breaks L (clip n Z)
    clip_breaks Z = breaks_same n L Z (clip n Z) f (λ s h. sym (clipped Z s h))

    clip_cost : (Z : Stages) → cost K price n (clip n Z) ≡ cost K price n Z
    clip_cost Z = cost_same P K laws price n (clip n Z) Z (clipped Z)

    go : Found P K laws price n (Breaks L) dec n (λ _. false) → (S : Stages) × Cheapest K price n L S
    go (inl x) = (
      clip n x.0,
      record {
        of_stages = λ s t. ltb-true s n (and_parts _ _ t).0;
        breaks = clip_breaks x.0 x.1;
        cheapest = λ Z k. rw (clip_cost x.0) (rw (clip_cost Z) at (x.2 (clip n Z) (agrees Z) (clip_breaks Z k)));
      },
    )
    go (inr none) = absurd (none (clip n (λ _. true)) (agrees (λ _. true)) (clip_breaks (λ _. true) (all_break L)))

pub swap_makes_no_set_dearer : (P : Type 0) (K : Kind P) → Lawful K → SwapMakesNoSetDearer K
swap_makes_no_set_dearer P K laws price = leq_swap P K laws price

pub adding_makes_no_set_cheaper : (P : Type 0) (K : Kind P) → Lawful K → AddingMakesNoSetCheaper K
adding_makes_no_set_cheaper P K laws price = leq_more P K laws price
