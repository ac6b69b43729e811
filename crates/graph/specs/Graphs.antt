-- Graphs with live marks: their figures, what always holds of them, and what their edits refuse and make.
use Rattle.std.specs.Prelude.{◌≡◌, ℕ, ◌+◌, ◌-◌, ◌^◌, ◌<◌, ◌≤◌, Bool, true, cond, not, ◌&&◌, List, length, replicate, Some, None, Option, bit_and, bit_or, nat_lt, slice_index, slice_set}
use Rattle.theory.specs.Loops.{Links, Stages, Loop, Within, between}
use Rattle.theory.specs.LoopTests.{looped}
use Rattle.graph.specs.declared.fault.Cause.{Cause}
use Rattle.graph.specs.declared.fault.Cause.TheVariants.{TooManyStages, NoSuchStage, AlreadyThere, LiveLoop, NotThere}
use Rattle.graph.specs.declared.graph.Graph.{Graph}
use Rattle.graph.specs.Faults.{unless}
use Rattle.graph.specs.Marks.{linked, marked}
use Rattle.graph.specs.StageSets.{words}

-- A graph's figures, without the facts that its type carries: the number of its stages, their rows of links,
-- and the word of its live marks.
pub record PlainGraph : Type 0 where
  pub n : ℕ
  pub rows : List ℕ
  pub live : ℕ

-- The figures of a graph.
abbrev pub plain : Graph → PlainGraph
plain g = record { n = g.n; rows = words g.links.rows; live = g.live.word }

-- The links of a graph.
abbrev pub links_of : PlainGraph → Links
links_of g = linked g.rows

-- The live stages of a graph.
abbrev pub live_of : PlainGraph → Stages
live_of g = marked g.live

-- The links between two live stages of a graph.
abbrev pub live_links : PlainGraph → Links
live_links g = between (links_of g) (live_of g)

-- What holds of every graph: at most 64 stages; 64 rows, each a word of 64 marks, as the live marks are; no
-- link leaves its stages; live marks are on stages; live stages alone contain no loop.
pub record Sound (g : PlainGraph) : Type 0 where
  pub few : g.n ≤ 64
  pub long : length g.rows ≡ 64
  pub fit : (u : ℕ) → slice_index g.rows u < 2 ^ 64
  pub inside : Within g.n (links_of g)
  pub live_fits : g.live < 2 ^ 64
  pub live_stages : (s : ℕ) → live_of g s ≡ true → s < g.n
  pub no_live_loop : Loop (live_links g) → ⊥

-- Whether live stages alone contain a loop.
abbrev pub live_looped : PlainGraph → Bool
live_looped g = looped g.n (live_links g)

-- ---- what edits make, and the first cause for which they are refused, if any

-- The word with stage s marked.
abbrev pub with_mark : ℕ → ℕ → ℕ
with_mark word s = bit_or word (2 ^ s)

-- The word with stage s, below 64, not marked.
abbrev pub without_mark : ℕ → ℕ → ℕ
without_mark word s = bit_and word (2 ^ 64 - 1 - 2 ^ s)

-- The graph with n stages, no link and no live mark.
abbrev pub bare : ℕ → PlainGraph
bare n = record { n = n; rows = replicate 64 0; live = 0 }

-- The graph with one stage more, the last.
abbrev pub one_more : PlainGraph → PlainGraph
one_more g = record { n = g.n + 1; rows = g.rows; live = g.live }

-- Why a stage more is refused, if it is: there are 64.
abbrev pub stage_refusal : PlainGraph → Option Cause
stage_refusal g = unless (nat_lt g.n 64) TooManyStages None

-- The graph with a link from u to v too.
abbrev pub linked_too : PlainGraph → ℕ → ℕ → PlainGraph
linked_too g u v = record { n = g.n; rows = slice_set g.rows u (with_mark (slice_index g.rows u) v); live = g.live }

-- Why linking u to v is refused, if it is: one is no stage, the link is there, or live stages alone would contain a loop.
abbrev pub link_refusal : PlainGraph → ℕ → ℕ → Option Cause
link_refusal g u v =
    unless (nat_lt u g.n && nat_lt v g.n) NoSuchStage
    (unless (not (links_of g u v)) AlreadyThere (unless (not (live_looped (linked_too g u v))) LiveLoop None))

-- The graph without the link from u to v.
abbrev pub unlinked : PlainGraph → ℕ → ℕ → PlainGraph
unlinked g u v = record { n = g.n; rows = slice_set g.rows u (without_mark (slice_index g.rows u) v); live = g.live }

-- Why taking the link from u to v off is refused, if it is: one is no stage, or the link is not there.
abbrev pub unlink_refusal : PlainGraph → ℕ → ℕ → Option Cause
unlink_refusal g u v = unless (nat_lt u g.n && nat_lt v g.n) NoSuchStage (unless (links_of g u v) NotThere None)

-- The graph with stage s live too.
abbrev pub live_too : PlainGraph → ℕ → PlainGraph
live_too g s = record { n = g.n; rows = g.rows; live = with_mark g.live s }

-- Why marking stage s live is refused, if it is: it is no stage, it is live, or live stages alone would contain a loop.
abbrev pub live_refusal : PlainGraph → ℕ → Option Cause
live_refusal g s =
    unless (nat_lt s g.n) NoSuchStage
    (unless (not (live_of g s)) AlreadyThere (unless (not (live_looped (live_too g s))) LiveLoop None))

-- The graph with stage s not live.
abbrev pub freed : PlainGraph → ℕ → PlainGraph
freed g s = record { n = g.n; rows = g.rows; live = without_mark g.live s }

-- Why taking the live mark of stage s off is refused, if it is: it is no stage, or it is not live.
abbrev pub free_refusal : PlainGraph → ℕ → Option Cause
free_refusal g s = unless (nat_lt s g.n) NoSuchStage (unless (live_of g s) NotThere None)

-- The graph with n stages and nothing else, where n is at most 64.
abbrev pub sized : ℕ → Option PlainGraph
sized n = cond (nat_lt 64 n) None (Some (bare n))
