-- Walks, which may come to a stage more than once, and the sets that they avoid.
use Rattle.std.specs.Prelude.{◌≡◌, ℕ, true, false, ◌↔◌, List}
use Rattle.theory.specs.Loops.{Links, Stages, Chain, Breaks}

-- A link between two stages outside of the set.
abbrev pub Free : Links → Stages → ℕ → ℕ → Type 0
Free L S a b = (L a b ≡ true) × (S a ≡ false) × (S b ≡ false)

-- A walk from a to b: one or more steps, each by R, through any stages.
abbrev pub Walk : (ℕ → ℕ → Type 0) → ℕ → ℕ → Type 0
Walk R a b = (xs : List ℕ) × Chain R a xs b

-- A closed walk: from some stage back to it.
abbrev pub ClosedWalk : (ℕ → ℕ → Type 0) → Type 0
ClosedWalk R = (a : ℕ) × Walk R a a

-- A set breaks a graph exactly if no closed walk avoids it.
abbrev pub BreaksIffNoClosedWalkAvoids : Type 0
BreaksIffNoClosedWalkAvoids = (L : Links) (S : Stages) → Breaks L S ↔ (ClosedWalk (Free L S) → ⊥)
