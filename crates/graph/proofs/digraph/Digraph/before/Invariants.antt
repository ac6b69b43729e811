use Rattle.std.proofs.Common.{◌≡◌, ℕ, ◌&&◌, ltb}
use Rattle.graph.specs.Digraphs.{links}
use Rattle.graph.specs.StageSets.{stages}
use Rattle.graph.proofs.digraph.Digraph.before.Given as goal

abbrev pub invariant-loop-u : goal.invariant-loop-u
invariant-loop-u l = (s : ℕ) → stages l.set s ≡ (ltb s l.u && links l.self s l.v)
