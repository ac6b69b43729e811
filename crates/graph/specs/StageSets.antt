-- The stages in a set.
use Rattle.std.specs.Prelude.{ℕ, List, map}
use Rattle.theory.specs.Loops.{Stages}
use Rattle.graph.specs.Marks.{marked}
use Rattle.graph.specs.declared.stage_set.StageSet.{StageSet}

-- The stages that are in the set: those that its word marks.
abbrev pub stages : StageSet → Stages
stages set = marked set.word

-- The words of sets, by which rows of sets are read as rows of marks.
abbrev pub words : List StageSet → List ℕ
words sets = map (λ (set : StageSet). set.word) sets
