-- Stages, links, loops, and the sets of stages that break every loop.
use Rattle.std.specs.Prelude.{◌≡◌, ℕ, ◌<◌, Bool, true, false, not, ◌&&◌, ◌||◌, List, [], ◌∷◌, ◌==◌}

-- The links of a graph: whether there is a link from the first stage to the second.
abbrev pub Links : Type 0
Links = ℕ → ℕ → Bool

-- A set of stages: whether a stage is in it.
abbrev pub Stages : Type 0
Stages = ℕ → Bool

-- There is a link from a to b.
abbrev pub Link : Links → ℕ → ℕ → Type 0
Link L a b = L a b ≡ true

-- From a, through the stages of the list in turn, to b, each step by R.
abbrev pub Chain : (ℕ → ℕ → Type 0) → ℕ → List ℕ → ℕ → Type 0
Chain R a [] b = R a b
Chain R a (x ∷ xs) b = R a x × Chain R x xs b

-- Stage a is on the list.
abbrev pub among : ℕ → List ℕ → Bool
among a [] = false
among a (x ∷ xs) = a == x || among a xs

-- No stage is on the list twice.
abbrev pub different : List ℕ → Bool
different [] = true
different (x ∷ xs) = not (among x xs) && different xs

-- Some stage of the list is in the set.
abbrev pub meets : Stages → List ℕ → Bool
meets S [] = false
meets S (x ∷ xs) = S x || meets S xs

-- A loop: a closed chain of links through one or more different stages. A self-link is a loop, with nothing
-- after its first stage.
pub record Loop (L : Links) : Type 0 where
  pub first : ℕ
  pub rest : List ℕ
  pub apart : different (first ∷ rest) ≡ true
  pub closed : Chain (Link L) first rest first

-- A set breaks a graph: each loop passes through a stage of the set.
abbrev pub Breaks : Links → Stages → Type 0
Breaks L S = (l : Loop L) → meets S (l.first ∷ l.rest) ≡ true

-- No link leaves the stages below n.
abbrev pub Within : ℕ → Links → Type 0
Within n L = (a b : ℕ) → L a b ≡ true → (a < n) × (b < n)

-- The links between two stages of a set.
abbrev pub between : Links → Stages → Links
between L S a b = L a b && S a && S b

-- The links between two stages outside of a set.
abbrev pub outside : Links → Stages → Links
outside L S a b = L a b && not (S a) && not (S b)
