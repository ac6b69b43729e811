-- A closed walk holds a loop, so a set breaks a graph exactly if no closed walk avoids it.
use Rattle.std.proofs.Common.{◌≡◌, ℕ, true, false, eqb, ◌⊎◌, List, [], ◌∷◌, sym, refl, subst, inl, inr}
use Rattle.std.proofs.lemmas.Bool.{both_ways, eqb-true, cases_Bool, and_from, and_parts, or_parts, or_cases, or_from, not_from_false}
use Rattle.theory.specs.Loops.{Links, Stages, Chain, among, different, meets, Link, Loop, Breaks}
use Rattle.theory.specs.Walks.{Free, ClosedWalk, BreaksIffNoClosedWalkAvoids}

-- a walk without repeated stages
abbrev pub Simple : (ℕ → ℕ → Type 0) → ℕ → ℕ → Type 0
Simple R a b = (xs : List ℕ) × Chain R a xs b × (different (a ∷ xs) ≡ true)

module _ (R : ℕ → ℕ → Type 0) where
  -- where a stands among the stages of a simple walk, the walk from there on
  cut : (a b x : ℕ) (xs : List ℕ) → Chain R x xs b → different (x ∷ xs) ≡ true → among a (x ∷ xs) ≡ true → Simple R a b
  cut a b x [] w d m = go (or_cases _ _ m)
    where
      go : (eqb a x ≡ true) ⊎ (false ≡ true) → Simple R a b
      go (inl e) = subst (λ z. Simple R z b) (sym (eqb-true a x e)) ([], w, d)
      go (inr f) = absurd (both_ways false refl f)
  cut a b x (y ∷ ys) w d m = go (or_cases _ _ m) (λ m'. cut a b y ys w.1 (and_parts _ _ d).1 m')
    where
      go : (eqb a x ≡ true) ⊎ (among a (y ∷ ys) ≡ true) → (among a (y ∷ ys) ≡ true → Simple R a b) → Simple R a b
      go (inl e) r = subst (λ z. Simple R z b) (sym (eqb-true a x e)) (y ∷ ys, w, d)
      go (inr f) r = r f

  pub simple : (a b : ℕ) (xs : List ℕ) → Chain R a xs b → Simple R a b
  simple a b [] w = ([], w, refl)
  simple a b (x ∷ xs) w = go (simple x b xs w.1) (cases_Bool _)
    where
      go : (s : Simple R x b) → ((among a (x ∷ s.0) ≡ true) ⊎ (among a (x ∷ s.0) ≡ false)) → Simple R a b
      go s (inl m) = cut a b x s.0 s.1 s.2 m
      go s (inr n) = (x ∷ s.0, (w.0, s.1), and_from _ _ (not_from_false _ n) s.2)

-- a chain in another relation
pub chain_map : (R Q : ℕ → ℕ → Type 0) → ((x y : ℕ) → R x y → Q x y) → (a b : ℕ) (xs : List ℕ) → Chain R a xs b → Chain Q a xs b
chain_map R Q f a b [] w = f a b w
chain_map R Q f a b (x ∷ xs) w = (f a x w.0, chain_map R Q f x b xs w.1)

module _ (L : Links) (S : Stages) where
  -- a chain of free links meets the set nowhere
  clear : (a b : ℕ) (xs : List ℕ) → Chain (Free L S) a xs b → meets S (a ∷ xs) ≡ false
  clear a b [] w = or_from _ _ w.1 refl
  clear a b (x ∷ xs) w = or_from _ _ w.0.1 (clear x b xs w.1)

  free : (a b : ℕ) (xs : List ℕ) → S b ≡ false → Chain (Link L) a xs b → meets S (a ∷ xs) ≡ false → Chain (Free L S) a xs b
  free a b [] nb w n = (w, (or_parts _ _ n).0, nb)
  free a b (x ∷ xs) nb w n =
      let p = or_parts _ _ n in
      ((w.0, p.0, (or_parts _ _ p.1).0), free x b xs nb w.1 p.1)

pub breaks_iff_no_closed_walk_avoids_lem : BreaksIffNoClosedWalkAvoids
breaks_iff_no_closed_walk_avoids_lem L S = (there, back)
  where
    there : Breaks L S → ClosedWalk (Free L S) → ⊥
    there k r =
        let s = simple (Free L S) r.0 r.0 r.1.0 r.1.1 in
        let l : Loop L = record { first = r.0; rest = s.0; apart = s.2; closed = chain_map (Free L S) (Link L) (λ x y h. h.0) r.0 r.0 s.0 s.1 } in
        both_ways _ (clear L S r.0 r.0 s.0 s.1) (k l)

    back : (ClosedWalk (Free L S) → ⊥) → Breaks L S
    back none l = go (cases_Bool _)
      where
        go : (meets S (l.first ∷ l.rest) ≡ true) ⊎ (meets S (l.first ∷ l.rest) ≡ false) → meets S (l.first ∷ l.rest) ≡ true
        go (inl t) = t
        go (inr n) = absurd (none (l.first, (l.rest, free L S l.first l.first l.rest (or_parts _ _ n).0 l.closed n)))
