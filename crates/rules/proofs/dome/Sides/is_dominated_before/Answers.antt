use Rattle.std.proofs.Common.{◌∙◌}
use Rattle.rules.proofs.WithinSets.{same_each_in}
use Rattle.rules.proofs.dome.Sides.is_dominated_before.Goals as goal

pub returns : goal.returns
returns c =
    let sides = c.args.self.now in
    c.is_within.ensures
    ∙ same_each_in _ _ _ _ (λ p. c.column.ensures p ∙ sides.are_unpaired_before c.args.u p ∙ sides.are_unpaired p c.args.u)
    (λ p. c.column-2.ensures p ∙ sides.are_before c.args.v p)
