-- Which stages a walk leads to, computed, and the loops over a link.
use Rattle.std.specs.Prelude.{◌≡◌, ℕ, zero, suc, Bool, true, ◌&&◌, ◌||◌, List, [], ◌∷◌, Decides, ◌==◌}
use Rattle.theory.specs.Loops.{Links, Link, Loop, Within}
use Rattle.theory.specs.Walks.{Walk}

-- A walk leads from a to b, and each stage on the way, both ends left out, is below k. For k + 1: one leads
-- there by stages below k, or one leads so to stage k and one so on from k.
abbrev pub reaches : ℕ → Links → Links
reaches zero L a b = L a b
reaches (suc k) L a b = reaches k L a b || reaches k L a k && reaches k L k b

-- The link from u to v is a step of the chain from a through the stages of the list to b.
abbrev pub steps : ℕ → ℕ → ℕ → List ℕ → ℕ → Bool
steps u v a [] b = a == u && b == v
steps u v a (x ∷ xs) b = a == u && x == v || steps u v x xs b

-- The link from u to v lies on some loop.
abbrev pub OnLoop : Links → ℕ → ℕ → Type 0
OnLoop L u v = (l : Loop L) × (steps u v l.first l.rest l.first ≡ true)

-- In a graph of n stages, reachability as computed is exactly the existence of a walk.
abbrev pub ReachingDecidesWalks : Type 0
ReachingDecidesWalks = (n : ℕ) (L : Links) → Within n L → (a b : ℕ) → Decides (reaches n L a b) (Walk (Link L) a b)

-- A link lies on a loop exactly if its end reaches its start.
abbrev pub OnLoopIffReachedBack : Type 0
OnLoopIffReachedBack =
    (n : ℕ) (L : Links) → Within n L → (u v : ℕ) → L u v ≡ true → Decides (reaches n L v u) (OnLoop L u v)
