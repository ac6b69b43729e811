-- Plans of a graph.
use Rattle.std.specs.Prelude.{◌≡◌, ℕ, true, false, not, ◌&&◌, nat_lt}
use Rattle.theory.specs.Loops.{Breaks, Stages}
use Rattle.graph.specs.Graphs.{PlainGraph, Sound, links_of, live_of}

-- A plan: a set that breaks the graph and contains no live stage.
pub record Plan (g : PlainGraph) (S : Stages) : Type 0 where
  pub breaks : Breaks (links_of g) S
  pub no_live_stage : (s : ℕ) → live_of g s ≡ true → S s ≡ false

-- The stages of a graph that are not live.
abbrev pub not_live : PlainGraph → Stages
not_live g s = nat_lt s g.n && not (live_of g s)

-- The stages that are not live are a plan, so every graph has one.
abbrev pub NotLiveStagesAreAPlan : Type 0
NotLiveStagesAreAPlan = (g : PlainGraph) → Sound g → Plan g (not_live g)
