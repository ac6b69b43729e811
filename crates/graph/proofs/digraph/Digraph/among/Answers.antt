use Rattle.std.proofs.Common.{◌∙◌, arith, rules}
use Rattle.std.proofs.lemmas.Bool.Decides.{nat_tests}
use Rattle.graph.proofs.digraph.Digraph.among.Goals as goal

pub invariant_of-result : goal.invariant_of-result
invariant_of-result c = record { long = search rules; inside = λ u w h. let e = c.rows_among.ensures u w in grind (arith, nat_tests) }

pub returns : goal.returns
returns c = record {
  stages = c.intersection-stages.ensures;
  links = λ a b.
      let e = c.rows_among.ensures a b in
      let x = c.intersection-stages.ensures a in
      let y = c.intersection-stages.ensures b in
      let i = c.args.self.now.inside a b in
      e ∙ grind (arith, nat_tests);
}
