use Rattle.std.proofs.Common.{◌≡◌}
use Rattle.theory.specs.LoopTests.{looped}
use Rattle.graph.specs.Marks.{linked}
use Rattle.graph.specs.StageSets.{words}
use Rattle.graph.proofs.digraph.Digraph.has_loop.Given as goal

abbrev pub invariant-loop-v : goal.invariant-loop-v
invariant-loop-v l = looped l.v (linked (words l.rows)) ≡ looped 64 (linked (words l.self.rows))
