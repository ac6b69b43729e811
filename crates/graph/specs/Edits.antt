-- What the edits of a graph refuse and change, in the words of stages, links, marks and loops.
use Rattle.std.specs.Prelude.{◌≡◌, ℕ, ◌<◌, true, ◌↔◌, Some, None, Option, ◌≢◌}
use Rattle.theory.specs.Loops.{Links, Stages, Loop, between}
use Rattle.theory.specs.Moves.{dropped, with_link, with_stage, without_stage}
use Rattle.graph.specs.declared.fault.Cause.{Cause}
use Rattle.graph.specs.declared.fault.Cause.TheVariants.{NoSuchStage, AlreadyThere, LiveLoop, NotThere}
use Rattle.graph.specs.Graphs.{PlainGraph, links_of, live_of}

-- An edit that adds something, where `there` says that the stages it names are there, `already` that what it
-- adds is there, and `live_links` are the links between live stages once it is added: refused for the first of
-- the three causes that applies, and else accepted.
pub record Adds (refusal : Option Cause) (there already : Type 0) (live_links : Links) : Type 0 where
  pub no_such_stage : (refusal ≡ Some NoSuchStage) ↔ (there → ⊥)
  pub already_there : (refusal ≡ Some AlreadyThere) ↔ (there × already)
  pub live_loop : (refusal ≡ Some LiveLoop) ↔ (there × (already → ⊥) × Loop live_links)
  pub accepted : (refusal ≡ None) ↔ (there × (already → ⊥) × (Loop live_links → ⊥))

-- An edit that takes something off, likewise.
pub record TakesOff (refusal : Option Cause) (there present : Type 0) : Type 0 where
  pub no_such_stage : (refusal ≡ Some NoSuchStage) ↔ (there → ⊥)
  pub not_there : (refusal ≡ Some NotThere) ↔ (there × (present → ⊥))
  pub accepted : (refusal ≡ None) ↔ (there × present)

-- Graph h has the stages of g, these links and these live stages.
pub record Changed (g h : PlainGraph) (L : Links) (S : Stages) : Type 0 where
  pub same_stages : h.n ≡ g.n
  pub links : (a b : ℕ) → links_of h a b ≡ L a b
  pub live : (s : ℕ) → live_of h s ≡ S s

-- What an edit leaves: a refused one the graph as it was, and an accepted one its stages, these links and these
-- live stages.
abbrev pub Leaves : PlainGraph → Option Cause → PlainGraph → Links → Stages → Type 0
Leaves g refusal h L S = ((refusal ≢ None) → h ≡ g) × (refusal ≡ None → Changed g h L S)

-- Linking u to v.
abbrev pub LinksUp : PlainGraph → ℕ → ℕ → Option Cause → PlainGraph → Type 0
LinksUp g u v refusal h =
    Adds refusal ((u < g.n) × (v < g.n)) (links_of g u v ≡ true) (between (with_link (links_of g) u v) (live_of g))
    × Leaves g refusal h (with_link (links_of g) u v) (live_of g)

-- Taking the link from u to v off.
abbrev pub Unlinks : PlainGraph → ℕ → ℕ → Option Cause → PlainGraph → Type 0
Unlinks g u v refusal h =
    TakesOff refusal ((u < g.n) × (v < g.n)) (links_of g u v ≡ true)
    × Leaves g refusal h (dropped (links_of g) u v) (live_of g)

-- Marking stage s live.
abbrev pub MarksLive : PlainGraph → ℕ → Option Cause → PlainGraph → Type 0
MarksLive g s refusal h =
    Adds refusal (s < g.n) (live_of g s ≡ true) (between (links_of g) (with_stage (live_of g) s))
    × Leaves g refusal h (links_of g) (with_stage (live_of g) s)

-- Taking the live mark of stage s off.
abbrev pub Frees : PlainGraph → ℕ → Option Cause → PlainGraph → Type 0
Frees g s refusal h =
    TakesOff refusal (s < g.n) (live_of g s ≡ true) × Leaves g refusal h (links_of g) (without_stage (live_of g) s)
