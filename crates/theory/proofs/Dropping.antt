-- Links that are dropped freely: a closed walk over such a link goes round it, or there is one of mates.
use Rattle.std.proofs.Common.{◌≡◌, ℕ, true, false, ◌≢◌, ◌⊎◌, List, [], ◌∷◌, sym, subst, inl, inr, ⊎_elim, arith}
use Rattle.std.proofs.lemmas.Bool.{cases_eq, cases_Bool}
use Rattle.std.proofs.lemmas.Bool.Decides.{nat_tests}
use Rattle.theory.specs.Loops.{Links, Link, Stages, Chain}
use Rattle.theory.specs.Walks.{Free, Walk, ClosedWalk}
use Rattle.theory.specs.Moves.{dropped}
use Rattle.theory.specs.Mates.{DominatedBefore, DominatedAfter, mates, unpaired}
use Rattle.theory.specs.Kept.{DominatedDropsFreely, DropsFreely, OffUnpairedLoopsDropsFreely}
use Rattle.theory.proofs.Walking.{chain_map}
use Rattle.theory.proofs.Through.{Got, got_one, got_two, through, join, each_closed, breaks_by}
use Rattle.theory.proofs.Reaching.{self_loop, walk_loop}

-- an unpaired link
abbrev Unpaired : Links → ℕ → ℕ → Type 0
Unpaired L = Link (unpaired L)

-- a graph with a link dropped has no more closed walks
fewer : (L : Links) (u v : ℕ) (S : Stages) → ClosedWalk (Free (dropped L u v) S) → ClosedWalk (Free L S)
fewer L u v S = each_closed _ _ (λ a b h. got_one _ a b (grind (arith, nat_tests)))

two : (Q : ℕ → ℕ → Type 0) (a b : ℕ) → Q a b → Q b a → ClosedWalk Q
two Q a b q r = (a, (b ∷ [], (q, r)))

module _ (L : Links) (u v : ℕ) (ne : u ≢ v) (l : Unpaired L u v) (S : Stages) where
  -- the links that stay
  stay : (a b : ℕ) → (a ≢ u) ⊎ (b ≢ v) → Free L S a b → Free (dropped L u v) S a b
  stay a b d h = grind (arith, nat_tests)

  no_back : L v u ≡ false
  no_back = grind (arith, nat_tests)

  module _ (dome : DominatedBefore L u v) where
    via_in : (p y : ℕ) → p ≢ u → y ≢ u → Free L S p u → Free L S u y → Got (Free (dropped L u v) S) p y
    via_in p y np ny h k =
        ⊎_elim
        (λ (e : y ≡ v).
        ⊎_elim
        (λ (t : L u p ≡ true). inl (two _ p u (stay p u (inl np) h) (stay u p (inr (grind (arith, no_back))) (grind arith))))
        (λ (f : L u p ≡ false).
        let s : L p v ≡ true = dome p (grind (arith, nat_tests)) in
        got_one _ p y (stay p y (inl np) (grind (arith, nat_tests))))
        (cases_Bool (L u p)))
        (λ (n : y ≢ v). got_two _ p u y (stay p u (inl np) h) (stay u y (inr n) k))
        (cases_eq y v)

    pub dome_in : ClosedWalk (Free L S) → ClosedWalk (Free (dropped L u v) S)
    dome_in = through _ _ u (λ h. (u, ([], stay u u (inr ne) h))) (λ a b na nb h. got_one _ a b (stay a b (inl na) h)) via_in

  module _ (dome : DominatedAfter L u v) where
    via_out : (p y : ℕ) → p ≢ v → y ≢ v → Free L S p v → Free L S v y → Got (Free (dropped L u v) S) p y
    via_out p y np ny h k =
        ⊎_elim
        (λ (e : p ≡ u).
        ⊎_elim
        (λ (t : L y v ≡ true). inl (two _ y v (stay y v (inl (grind (arith, no_back))) (grind arith)) (stay v y (inr ny) k)))
        (λ (f : L y v ≡ false).
        let s : L u y ≡ true = dome y (grind (arith, nat_tests)) in
        got_one _ p y (stay p y (inr ny) (grind (arith, nat_tests))))
        (cases_Bool (L y v)))
        (λ (n : p ≢ u). got_two _ p v y (stay p v (inl n) h) (stay v y (inr ny) k))
        (cases_eq p u)

    pub dome_out : ClosedWalk (Free L S) → ClosedWalk (Free (dropped L u v) S)
    dome_out = through _ _ v (λ h. (v, ([], stay v v (inl (λ e. ne (sym e))) h))) (λ a b na nb h. got_one _ a b (stay a b (inr nb) h)) via_out

pub dominated : DominatedDropsFreely
dominated L u v ne l (inl d) S =
    (breaks_by L (dropped L u v) S S (fewer L u v S), breaks_by (dropped L u v) L S S (dome_in L u v ne l S d))
dominated L u v ne l (inr d) S =
    (breaks_by L (dropped L u v) S S (fewer L u v S), breaks_by (dropped L u v) L S S (dome_out L u v ne l S d))

-- a ≡ b, or a walk
Reach : (ℕ → ℕ → Type 0) → ℕ → ℕ → Type 0
Reach R a b = (a ≡ b) ⊎ Walk R a b

reach_step : (R : ℕ → ℕ → Type 0) (a b c : ℕ) → R a b → Reach R b c → Reach R a c
unfolding Reach
reach_step R a b c r (inl e) = inr ([], subst (λ z. R a z) e r)
reach_step R a b c r (inr w) = inr (b ∷ w.0, (r, w.1))

reach_join : (R : ℕ → ℕ → Type 0) (a b c : ℕ) → Reach R a b → Reach R b c → Reach R a c
unfolding Reach
reach_join R a b c (inl e) h = subst (λ z. Reach R z c) (sym e) h
reach_join R a b c (inr w) (inl e) = inr (subst (λ z. Walk R a z) e w)
reach_join R a b c (inr w) (inr v) = inr (join R a b c w v)

module _ (L : Links) (u v : ℕ) (ne : u ≢ v) (l : Unpaired L u v) (off : Walk (Unpaired L) v u → ⊥) (S : Stages) where
  -- a free link that is unpaired
  abbrev Bare : ℕ → ℕ → Type 0
  Bare a b = Free L S a b × Unpaired L a b

  is_bare : (a b : ℕ) → Free L S a b → ClosedWalk (Free (dropped L u v) S) ⊎ Bare a b
  is_bare a b h =
      ⊎_elim
      (λ (t : mates L a b ≡ true). inl (two _ a b (grind (arith, nat_tests)) (grind (arith, nat_tests))))
      (λ (f : mates L a b ≡ false). inr (h, grind (arith, nat_tests)))
      (cases_Bool (mates L a b))

  bare : (xs : List ℕ) (a b : ℕ) → Chain (Free L S) a xs b → ClosedWalk (Free (dropped L u v) S) ⊎ Chain Bare a xs b
  bare [] a b w = is_bare a b w
  bare (x ∷ xs) a b w = go (is_bare a x w.0) (bare xs x b w.1)
    where
      go : ClosedWalk (Free (dropped L u v) S) ⊎ Bare a x → ClosedWalk (Free (dropped L u v) S) ⊎ Chain Bare x xs b → ClosedWalk (Free (dropped L u v) S) ⊎ (Bare a x × Chain Bare x xs b)
      go (inl r) k = inl r
      go (inr h) (inl r) = inl r
      go (inr h) (inr c) = inr (h, c)

  is_stay : (a b : ℕ) → Bare a b → (Free (dropped L u v) S a b) ⊎ ((a ≡ u) × (v ≡ b))
  is_stay a b h = grind (arith, nat_tests)

  -- it stays, or it has gone over the link
  over_it : (xs : List ℕ) (a b : ℕ) → Chain Bare a xs b → Walk (Free (dropped L u v) S) a b ⊎ (Reach (Unpaired L) a u × Reach (Unpaired L) v b)
  unfolding Reach
  over_it [] a b w = go (is_stay a b w)
    where
      go : (Free (dropped L u v) S a b) ⊎ ((a ≡ u) × (v ≡ b)) → Walk (Free (dropped L u v) S) a b ⊎ (Reach (Unpaired L) a u × Reach (Unpaired L) v b)
      go (inl f) = inl ([], f)
      go (inr e) = inr (inl e.0, inl e.1)
  over_it (x ∷ xs) a b w = go (is_stay a x w.0) (over_it xs x b w.1)
    where
      go : (Free (dropped L u v) S a x) ⊎ ((a ≡ u) × (v ≡ x)) → Walk (Free (dropped L u v) S) x b ⊎ (Reach (Unpaired L) x u × Reach (Unpaired L) v b)
          → Walk (Free (dropped L u v) S) a b ⊎ (Reach (Unpaired L) a u × Reach (Unpaired L) v b)
      go k (inr r) = inr (reach_step (Unpaired L) a x u w.0.1 r.0, r.1)
      go (inl f) (inl t) = inl (x ∷ t.0, (f, t.1))
      go (inr e) (inl t) = inr (inl e.0, subst (λ z. Reach (Unpaired L) z b) (sym e.1) (inr (xs, chain_map Bare (Unpaired L) (λ _ _ h. h.1) x b xs w.1)))

  pie_closed : ClosedWalk (Free L S) → ClosedWalk (Free (dropped L u v) S)
  unfolding Reach
  pie_closed (a, (xs, w)) = go (bare xs a a w)
    where
      none : Reach (Unpaired L) v u → ⊥
      none (inl e) = ne (sym e)
      none (inr k) = off k

      last : Walk (Free (dropped L u v) S) a a ⊎ (Reach (Unpaired L) a u × Reach (Unpaired L) v a) → ClosedWalk (Free (dropped L u v) S)
      last (inl t) = (a, t)
      last (inr r) = absurd (none (reach_join (Unpaired L) v a u r.1 r.0))

      go : ClosedWalk (Free (dropped L u v) S) ⊎ Chain Bare a xs a → ClosedWalk (Free (dropped L u v) S)
      go (inl r) = r
      go (inr c) = last (over_it xs a a c)

off_walks : (L : Links) (u v : ℕ) → u ≢ v → Unpaired L u v → (Walk (Unpaired L) v u → ⊥) → DropsFreely L u v
off_walks L u v ne l off S =
    (breaks_by L (dropped L u v) S S (fewer L u v S), breaks_by (dropped L u v) L S S (pie_closed L u v ne l off S))

-- a self-link is a loop by itself, so a link on no loop is none
pub off_loops : OffUnpairedLoopsDropsFreely
off_loops L u v l off =
    ⊎_elim
    (λ (e : u ≡ v). absurd (off (self_loop (unpaired L) u v e l)))
    (λ (n : u ≢ v). off_walks L u v n l (λ w. off (walk_loop (unpaired L) u v n l w)))
    (cases_eq u v)
