-- The links of a digraph.
use Rattle.theory.specs.Loops.{Links}
use Rattle.graph.specs.Marks.{linked}
use Rattle.graph.specs.StageSets.{words}
use Rattle.graph.specs.declared.digraph.Digraph.{Digraph}

-- There is a link from u to w: row u marks w.
abbrev pub links : Digraph → Links
links g = linked (words g.rows)
