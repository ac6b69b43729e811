-- A graph's figures, on which rules are defined.
use Rattle.std.specs.Prelude.{◌≡◌, ℕ, ◌^◌, ◌<◌, true, ◌&&◌, List, length, slice_index}
use Rattle.theory.specs.Loops.{Links, Stages}
use Rattle.graph.proofs.Rows.{rows_of}
use Rattle.graph.specs.Marks.{linked, marked}
use Rattle.graph.specs.StageSets.{words}
use Rattle.graph.specs.declared.digraph.Digraph.{Digraph}

-- The word of a graph's stages, and the words of its rows.
pub record Net : Type 0 where
  pub stages : ℕ
  pub rows : List ℕ

-- The figures of a digraph.
abbrev pub net : Digraph → Net
net g = record { stages = g.stages.word; rows = words g.rows }

-- The stages that are there.
abbrev pub stage_in : Net → Stages
stage_in g = marked g.stages

-- The links.
abbrev pub links_in : Net → Links
links_in g = linked g.rows

-- What holds of the figures of each digraph: there are 64 rows, each a word of 64 marks, the stages are a word of
-- 64 marks, and each link is between two of the stages.
pub record Inside (g : Net) : Type 0 where
  pub long : length g.rows ≡ 64
  pub rows_fit : (u : ℕ) → slice_index g.rows u < 2 ^ 64
  pub stages_fit : g.stages < 2 ^ 64
  pub ends_there : (u w : ℕ) → links_in g u w ≡ true → (stage_in g u && stage_in g w) ≡ true

-- the figures of a digraph are such
pub inside : (g : Digraph) → Inside (net g)
inside g = record { long = (rows_of g).long; rows_fit = (rows_of g).fit; stages_fit = g.stages.fits; ends_there = g.inside }
