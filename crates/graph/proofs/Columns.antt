-- The column of a digraph, taken row by row, and what its stages reach.
use Rattle.std.proofs.Common.{◌≡◌, ℕ, zero, suc, ◌+◌, ◌<◌, ◌≤◌, Bool, true, false, ◌&&◌, ◌||◌, eqb, ltb, ◌≢◌, Decides, ◌∙◌, ⊎_elim, add-one, arith}
use Rattle.std.proofs.lemmas.Bool.{and_from, and_parts, cases_eq, cases_lt, lt-ltb, or_cases}
use Rattle.std.proofs.lemmas.Bool.Decides.{nat_tests}
use Rattle.theory.specs.Loops.{Links, Link, Stages}
use Rattle.theory.specs.Reach.{reaches}
use Rattle.theory.specs.Walks.{Walk}
use Rattle.theory.proofs.Reaching.{reaching_decides_walks}
use Rattle.graph.specs.declared.digraph.Digraph.{Digraph}
use Rattle.graph.specs.Digraphs.{links}
use Rattle.graph.specs.StageSets.{words}
use Rattle.graph.proofs.Loops.{within_rows}
use Rattle.graph.proofs.Rows.{rows_of}

module _ (F M : ℕ → Bool) (u : ℕ) (inv : (s : ℕ) → M s ≡ (ltb s u && F s)) where
  -- stage u passes the test and is taken
  pub taken_more : (N : ℕ → Bool) → u < 64 → F u ≡ true → ((s : ℕ) → N s ≡ (M s || eqb s u && ltb u 64)) → (s : ℕ) → N s ≡ (ltb s (u + 1) && F s)
  taken_more N h t f s =
      f s
      ∙ rw (inv s, lt-ltb u 64 h)
      (⊎_elim (λ (e : s ≡ u). let q : F s ≡ true = rw e t in grind (arith, nat_tests)) (λ (n : s ≢ u). grind (arith, nat_tests)) (cases_eq s u))

  -- stage u does not, and is left out
  pub left_out : F u ≡ false → (s : ℕ) → M s ≡ (ltb s (u + 1) && F s)
  left_out t s =
      rw (inv s)
      (⊎_elim (λ (e : s ≡ u). let q : F s ≡ false = rw e t in grind (arith, nat_tests)) (λ (n : s ≢ u). grind (arith, nat_tests)) (cases_eq s u))

  -- all 64 stages are asked
  pub taken_all : 64 ≤ u → ((s : ℕ) → 64 ≤ s → F s ≡ false) → (s : ℕ) → M s ≡ F s
  taken_all h none s =
      inv s ∙ ⊎_elim (λ (l : s < 64). rw (lt-ltb s u (omega arith))) (λ (l : 64 ≤ s). rw (none s l) (grind (arith, nat_tests))) (cases_lt s 64)

-- one stage more is gone through
pub reaches_more : (L F G : Links) (k : ℕ) → ((a b : ℕ) → F a b ≡ reaches k L a b) → ((a b : ℕ) → G a b ≡ (F a b || F a k && F k b)) → (a b : ℕ) → G a b ≡ reaches (k + 1) L a b
reaches_more L F G k f g a b = g a b ∙ rw (add-one k, f a b, f a k, f k b)

-- what is reached is within the stages that the links are within
pub reaches_inside : (L : Links) (S : Stages) → ((a b : ℕ) → L a b ≡ true → (S a && S b) ≡ true) → (k a b : ℕ) → reaches k L a b ≡ true → (S a && S b) ≡ true
reaches_inside L S f zero a b e = f a b e
reaches_inside L S f (suc k) a b e =
    ⊎_elim
    (λ (h : reaches k L a b ≡ true). reaches_inside L S f k a b h)
    (λ (h : (reaches k L a k && reaches k L k b) ≡ true).
    let p = and_parts _ _ h in
    and_from _ _ (and_parts (S a) (S k) (reaches_inside L S f k a k p.0)).0 (and_parts (S k) (S b) (reaches_inside L S f k k b p.1)).1)
    (or_cases _ _ e)

pub reach_walks : (g : Digraph) (a b : ℕ) → Decides (reaches 64 (links g) a b) (Walk (Link (links g)) a b)
reach_walks g = reaching_decides_walks 64 (links g) (within_rows (words g.rows) (rows_of g))
