use Rattle.std.proofs.Common.{arith}
use Rattle.std.proofs.lemmas.Bool.Decides.{nat_tests}
use Rattle.graph.proofs.digraph.Digraph.mates.Goals as goal

pub returns : goal.returns
returns c s =
    let w = c.without.ensures s in
    let i = c.intersection.ensures s in
    let a = c.after.ensures s in
    let b = c.before-2.ensures s in
    grind (arith, nat_tests)
