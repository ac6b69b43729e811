use Rattle.std.proofs.Common.{sym, refl, ◌∙◌, arith, rules}
use Rattle.std.proofs.lemmas.Bool.{and_left, and_right, not_from_true}
use Rattle.std.proofs.lemmas.Bool.Decides.{nat_tests}
use Rattle.graph.proofs.digraph.Digraph.pass.Goals as goal
use Rattle.graph.proofs.digraph.Digraph.pass.Goals.{then-not-has-via-then-not-has, then-not-has-via-else-not-has+then-is_linked}

pub invariant_of-self : goal.invariant_of-self
invariant_of-self c = record {
  long = search rules;
  inside = λ u w h.
      let p = c.rows_past.ensures u w in
      let x = c.without.ensures u in
      let y = c.without.ensures w in
      let i = c.args.self.now.inside u w in
      let j = c.args.self.now.inside u c.args.v in
      let k = c.args.self.now.inside c.args.v w in
      grind (arith, nat_tests);
}

pub returns-then-not-has : goal.returns-then-not-has
returns-then-not-has c = record {
  answer = elim c.then-not-has.branch [
    | then-not-has-via-then-not-has w ↦ sym (and_left _ _ (sym w.if-not-has.ensures))
    | then-not-has-via-else-not-has+then-is_linked w ↦ sym (and_right _ _ (not_from_true _ (sym w.is_linked.ensures ∙ w.if-is_linked.true)))
  ];
  stages = λ s. refl;
  links = λ a b. refl;
}

pub returns : goal.returns
returns c = record { answer = let x = c.if-not-has.ensures in let y = c.is_linked.ensures in let z = c.if-is_linked.false in grind (arith, nat_tests); stages = c.without.ensures; links = c.rows_past.ensures }
