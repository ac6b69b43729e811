use Rattle.theory.proofs.Moving.{holding, passing}
use Rattle.theory.proofs.holding_and_passing_keep_breaking_sets.Goals as goal

pub returns : goal.returns
returns c = record { holding = holding; passing = passing }
