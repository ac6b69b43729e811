-- Walks that go through one stage, step by step taken over into another relation.
use Rattle.std.proofs.Common.{◌≡◌, ℕ, ◌≢◌, ◌⊎◌, List, [], ◌∷◌, ◌++◌, subst, inl, inr, ⊎_elim}
use Rattle.std.proofs.lemmas.Bool.{cases_eq}
use Rattle.theory.specs.Loops.{Links, Stages, Chain, Breaks}
use Rattle.theory.specs.Walks.{Free, Walk, ClosedWalk}
use Rattle.theory.proofs.Walking.{breaks_iff_no_closed_walk_avoids_lem}

pub chain_join : (R : ℕ → ℕ → Type 0) (a b c : ℕ) (xs ys : List ℕ) → Chain R a xs b → Chain R b ys c → Chain R a (xs ++ b ∷ ys) c
chain_join R a b c [] ys w v = (w, v)
chain_join R a b c (x ∷ xs) ys w v = (w.0, chain_join R x b c xs ys w.1 v)

pub join : (R : ℕ → ℕ → Type 0) (a b c : ℕ) → Walk R a b → Walk R b c → Walk R a c
join R a b c w v = (w.0 ++ b ∷ v.0, chain_join R a b c w.0 v.0 w.1 v.1)

-- a closed walk, or a walk from a to b
abbrev pub Got : (ℕ → ℕ → Type 0) → ℕ → ℕ → Type 0
Got Q a b = ClosedWalk Q ⊎ Walk Q a b

pub got_join : (Q : ℕ → ℕ → Type 0) (a b c : ℕ) → Got Q a b → Got Q b c → Got Q a c
got_join Q a b c (inl r) h = inl r
got_join Q a b c (inr w) (inl r) = inl r
got_join Q a b c (inr w) (inr v) = inr (join Q a b c w v)

pub got_one : (Q : ℕ → ℕ → Type 0) (a b : ℕ) → Q a b → Got Q a b
got_one Q a b q = inr ([], q)

pub got_two : (Q : ℕ → ℕ → Type 0) (a b c : ℕ) → Q a b → Q b c → Got Q a c
got_two Q a b c q r = inr (b ∷ [], (q, r))

pub got_closed : (Q : ℕ → ℕ → Type 0) (a : ℕ) → Got Q a a → ClosedWalk Q
got_closed Q a (inl r) = r
got_closed Q a (inr w) = (a, w)

module _ (R Q : ℕ → ℕ → Type 0) (m : ℕ) (self : R m m → ClosedWalk Q)
    (direct : (p x : ℕ) → p ≢ m → x ≢ m → R p x → Got Q p x)
    (via : (p y : ℕ) → p ≢ m → y ≢ m → R p m → R m y → Got Q p y) where
  mutual
    past : (xs : List ℕ) (a b : ℕ) → a ≢ m → b ≢ m → Chain R a xs b → Got Q a b
    past [] a b na nb w = direct a b na nb w
    past (x ∷ xs) a b na nb w =
        ⊎_elim
        (λ (e : x ≡ m). over xs a b na nb (subst (λ z. R a z) e w.0) (subst (λ z. Chain R z xs b) e w.1))
        (λ (n : x ≢ m). got_join Q a x b (direct a x na n w.0) (past xs x b n nb w.1))
        (cases_eq x m)

    over : (xs : List ℕ) (p b : ℕ) → p ≢ m → b ≢ m → R p m → Chain R m xs b → Got Q p b
    over [] p b np nb r w = via p b np nb r w
    over (y ∷ ys) p b np nb r w =
        ⊎_elim
        (λ (e : y ≡ m). inl (self (subst (λ z. R m z) e w.0)))
        (λ (n : y ≢ m). got_join Q p y b (via p y np n r w.0) (past ys y b n nb w.1))
        (cases_eq y m)

  at_m : (xs : List ℕ) → Chain R m xs m → ClosedWalk Q
  at_m [] w = self w
  at_m (x ∷ xs) w =
      ⊎_elim
      (λ (e : x ≡ m). self (subst (λ z. R m z) e w.0))
      (λ (n : x ≢ m). got_closed Q x (past (xs ++ m ∷ []) x x n n (chain_join R x m x xs [] w.1 w.0)))
      (cases_eq x m)

  pub through : ClosedWalk R → ClosedWalk Q
  through (a, (xs, w)) =
      ⊎_elim
      (λ (e : a ≡ m). at_m xs (subst (λ z. Chain R z xs z) e w))
      (λ (n : a ≢ m). got_closed Q a (past xs a a n n w))
      (cases_eq a m)

-- each link of a closed walk taken over by itself
pub each : (R Q : ℕ → ℕ → Type 0) → ((p x : ℕ) → R p x → Got Q p x) → (xs : List ℕ) (a b : ℕ) → Chain R a xs b → Got Q a b
each R Q f [] a b w = f a b w
each R Q f (x ∷ xs) a b w = got_join Q a x b (f a x w.0) (each R Q f xs x b w.1)

pub each_closed : (R Q : ℕ → ℕ → Type 0) → ((p x : ℕ) → R p x → Got Q p x) → ClosedWalk R → ClosedWalk Q
each_closed R Q f (a, (xs, w)) = got_closed Q a (each R Q f xs a a w)

-- what breaks one graph breaks another, since a closed walk of the other gives one of the first
pub breaks_by : (L L' : Links) (S S' : Stages) → (ClosedWalk (Free L' S') → ClosedWalk (Free L S)) → Breaks L S → Breaks L' S'
breaks_by L L' S S' f k = (breaks_iff_no_closed_walk_avoids_lem L' S').1 (λ r. (breaks_iff_no_closed_walk_avoids_lem L S).0 k (f r))
