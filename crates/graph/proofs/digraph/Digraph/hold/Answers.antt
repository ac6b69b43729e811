use Rattle.std.proofs.Common.{◌∙◌, arith}
use Rattle.std.proofs.lemmas.Bool.Decides.{nat_tests}
use Rattle.graph.proofs.digraph.Digraph.hold.Goals as goal

pub returns : goal.returns
returns c = record {
  stages = λ s. let x = c.without.ensures s in c.among.ensures.stages s ∙ grind (arith, nat_tests);
  links = λ a b.
      let x = c.without.ensures a in
      let y = c.without.ensures b in
      let i = c.args.self.now.inside a b in
      c.among.ensures.links a b ∙ grind (arith, nat_tests);
}
