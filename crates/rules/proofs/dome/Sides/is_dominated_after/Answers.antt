use Rattle.std.proofs.Common.{◌∙◌}
use Rattle.rules.proofs.WithinSets.{same_each_in}
use Rattle.rules.proofs.dome.Sides.is_dominated_after.Goals as goal

pub returns : goal.returns
returns c =
    c.is_within.ensures ∙ same_each_in _ _ _ _ (λ y. c.after.ensures y ∙ c.args.self.now.are_unpaired c.args.v y) c.after-2.ensures
