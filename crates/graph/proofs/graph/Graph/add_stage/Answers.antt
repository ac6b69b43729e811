use Rattle.std.proofs.Common.{arith}
use Rattle.std.proofs.lemmas.Bool.Decides.{nat_tests}
use Rattle.graph.proofs.graph.Graph.add_stage.Goals as goal

pub invariant_of-self : goal.invariant_of-self
invariant_of-self c =
    let g = c.args.self.now in record { few = omega arith; numbered = λ s. let e = c.add_stage.ensures.stages s in let n = g.numbered s in grind (arith, nat_tests); live_stages = λ s h. let l = g.live_stages s h in omega arith; no_live_loop = rw c.add_stage.ensures.links g.no_live_loop }
