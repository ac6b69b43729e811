use Rattle.std.proofs.Common.{◌≡◌, ℕ, length}
use Rattle.theory.specs.Reach.{reaches}
use Rattle.graph.specs.Marks.{linked}
use Rattle.graph.specs.StageSets.{words}
use Rattle.graph.proofs.digraph.Digraph.reach.Given as goal

abbrev pub invariant-loop-k : goal.invariant-loop-k
invariant-loop-k l = record {
  long : length l.rows ≡ 64;
  so_far : (a b : ℕ) → linked (words l.rows) a b ≡ reaches l.k (linked (words l.self.rows)) a b;
}
