-- Mates, unpaired links, and the unpaired links that other links stand in for.
use Rattle.std.specs.Prelude.{ℕ, not, ◌&&◌, ◌⊎◌, ◌==◌}
use Rattle.theory.specs.Loops.{Links, Link}

-- Stages a and b are mates: two different stages with a link each way.
abbrev pub mates : Links → Links
mates L a b = L a b && L b a && not (a == b)

-- The unpaired links: those that are not between mates. A self-link is unpaired.
abbrev pub unpaired : Links → Links
unpaired L a b = L a b && not (mates L a b)

-- The link from u to v is dominated from before: each stage with an unpaired link to u has a link to v.
abbrev pub DominatedBefore : Links → ℕ → ℕ → Type 0
DominatedBefore L u v = (p : ℕ) → Link (unpaired L) p u → Link L p v

-- It is dominated from after: each stage with an unpaired link from v has a link from u.
abbrev pub DominatedAfter : Links → ℕ → ℕ → Type 0
DominatedAfter L u v = (y : ℕ) → Link (unpaired L) v y → Link L u y

-- It is dominated from before or from after.
abbrev pub Dominated : Links → ℕ → ℕ → Type 0
Dominated L u v = DominatedBefore L u v ⊎ DominatedAfter L u v
