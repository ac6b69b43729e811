-- The loop test decides loops, since passing a stage without a self-link keeps and makes no closed walk.
use Rattle.std.proofs.Common.{◌≡◌, ℕ, zero, suc, ◌<◌, true, false, ◌||◌, ◌≢◌, ◌⊎◌, List, [], ◌∷◌, Decides, refl, inl, inr, ⊎_elim, arith}
use Rattle.std.proofs.lemmas.Bool.{cases_Bool, both_ways, not-true, not_from_false, or_cases, or_left, or_right}
use Rattle.std.proofs.lemmas.Bool.Decides.{nat_tests, Decides-like}
use Rattle.theory.specs.Loops.{Chain, Links, Stages, Link, Loop, Breaks, Within, outside}
use Rattle.theory.specs.Walks.{Free, ClosedWalk}
use Rattle.theory.specs.Moves.{passed}
use Rattle.theory.specs.LoopTests.{looped, broken, LoopTestDecides, BreakingTestDecides}
use Rattle.theory.proofs.Walking.{simple, breaks_iff_no_closed_walk_avoids_lem}
use Rattle.theory.proofs.Through.{got_one, got_two, through, each_closed}

via_out : (L : Links) (v a b : ℕ) → Link (passed L v) a b → (Link L a b) ⊎ (Link L a v × Link L v b)
via_out L v a b h = grind (arith, nat_tests)

via_in : (L : Links) (v a b : ℕ) → a ≢ v → b ≢ v → Link L a b ⊎ (Link L a v × Link L v b) → Link (passed L v) a b
via_in L v a b na nb h = grind (arith, nat_tests)

pub within_passed : (n : ℕ) (L : Links) → Within (suc n) L → Within n (passed L n)
within_passed n L f a b h = go (via_out L n a b h)
  where
    apart : (a ≢ n) × (b ≢ n)
    apart = grind (arith, nat_tests)

    go : (Link L a b) ⊎ (Link L a n × Link L n b) → (a < n) × (b < n)
    go (inl k) = let p = f a b k in omega (arith, apart)
    go (inr k) = let p = f a n k.0 in let q = f n b k.1 in omega (arith, apart)

no_walk : (L : Links) → Within zero L → (xs : List ℕ) (a b : ℕ) → Chain (Link L) a xs b → ⊥
no_walk L f [] a b w = let p = f a b w in omega arith
no_walk L f (x ∷ xs) a b w = no_walk L f xs x b w.1

module _ (L : Links) (n : ℕ) (ih : Decides (looped n (passed L n)) (ClosedWalk (Link (passed L n)))) where
  step_there : (L n n ≡ true) ⊎ (looped n (passed L n) ≡ true) → ClosedWalk (Link L)
  step_there (inl e) = (n, ([], e))
  step_there (inr e) = each_closed _ _ (λ a b h. ⊎_elim (λ (k : Link L a b). got_one _ a b k) (λ (k : Link L a n × Link L n b). got_two _ a n b k.0 k.1) (via_out L n a b h)) (ih.0 e)

  step_back : ClosedWalk (Link L) → (L n n ≡ true) ⊎ (L n n ≡ false) → (L n n || looped n (passed L n)) ≡ true
  step_back r (inl e) = or_left _ _ e
  step_back r (inr e) =
      or_right _ _
      (ih.1
      (through _ _ n (λ h. absurd (both_ways _ e h)) (λ a b na nb h. got_one _ a b (via_in L n a b na nb (inl h)))
      (λ a b na nb h k. got_one _ a b (via_in L n a b na nb (inr (h, k)))) r))

pub looped_walks : (n : ℕ) (L : Links) → Within n L → Decides (looped n L) (ClosedWalk (Link L))
looped_walks zero L f = (λ e. absurd (both_ways false refl e), λ r. absurd (no_walk L f r.1.0 r.0 r.0 r.1.1))
looped_walks (suc n) L f =
    let ih = looped_walks n (passed L n) (within_passed n L f) in
    (λ e. step_there L n ih (or_cases _ _ e), λ r. step_back L n ih r (cases_Bool (L n n)))

-- a closed walk comes round by a loop, and a loop is a closed walk
pub loop_of : (L : Links) → ClosedWalk (Link L) → Loop L
loop_of L r =
    let s = simple (Link L) r.0 r.0 r.1.0 r.1.1 in
    record { first = r.0; rest = s.0; apart = s.2; closed = s.1 }

walk_of : (L : Links) → Loop L → ClosedWalk (Link L)
walk_of L l = (l.first, (l.rest, l.closed))

pub loop_test_decides : LoopTestDecides
loop_test_decides n L f = Decides-like (looped n L) (loop_of L) (walk_of L) (looped_walks n L f)

out_free : (L : Links) (S : Stages) (a b : ℕ) → Link (outside L S) a b → Free L S a b
out_free L S a b h = grind arith

free_out : (L : Links) (S : Stages) (a b : ℕ) → Free L S a b → Link (outside L S) a b
free_out L S a b h = grind arith

pub breaking_test_decides : BreakingTestDecides
breaking_test_decides n L S f = (there, back)
  where
    d : Decides (looped n (outside L S)) (ClosedWalk (Link (outside L S)))
    d = looped_walks n (outside L S) (λ a b h. f a b (out_free L S a b h).0)

    there : broken n L S ≡ true → Breaks L S
    there e = (breaks_iff_no_closed_walk_avoids_lem L S).1 (λ r. both_ways _ (not-true _ e) (d.1 (each_closed _ _ (λ a b h. got_one _ a b (free_out L S a b h)) r)))

    back : Breaks L S → broken n L S ≡ true
    back k = ⊎_elim
        (λ (e : looped n (outside L S) ≡ true). absurd ((breaks_iff_no_closed_walk_avoids_lem L S).0 k (each_closed _ _ (λ a b h. got_one _ a b (out_free L S a b h)) (d.0 e))))
        (λ (e : looped n (outside L S) ≡ false). not_from_false _ e)
        (cases_Bool (looped n (outside L S)))
