-- Tests that compute whether there is a loop, and whether a set breaks every loop.
use Rattle.std.specs.Prelude.{ℕ, zero, suc, Bool, false, not, ◌||◌, Decides}
use Rattle.theory.specs.Loops.{Links, Stages, Loop, Breaks, Within, outside}
use Rattle.theory.specs.Moves.{passed}

-- Whether the links among the stages below n close a loop: the last stage has a self-link, or a loop is left
-- when that stage is passed.
abbrev pub looped : ℕ → Links → Bool
looped zero L = false
looped (suc n) L = L n n || looped n (passed L n)

-- Whether a set breaks a graph of n stages: no loop is left outside of the set.
abbrev pub broken : ℕ → Links → Stages → Bool
broken n L S = not (looped n (outside L S))

-- The test answers yes exactly if there is a loop.
abbrev pub LoopTestDecides : Type 0
LoopTestDecides = (n : ℕ) (L : Links) → Within n L → Decides (looped n L) (Loop L)

-- The test answers yes exactly if the set breaks the graph.
abbrev pub BreakingTestDecides : Type 0
BreakingTestDecides = (n : ℕ) (L : Links) (S : Stages) → Within n L → Decides (broken n L S) (Breaks L S)
