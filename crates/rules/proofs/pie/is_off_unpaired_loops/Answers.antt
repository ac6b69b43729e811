use Rattle.std.proofs.Common.{◌∙◌}
use Rattle.std.proofs.lemmas.Bool.Decides.{Decides-at}
use Rattle.rules.specs.LinkLaws.{off_unpaired_loop_decides}
use Rattle.rules.specs.Nets.{inside, net}
use Rattle.rules.proofs.LinkAnswers.{leads_away_test}
use Rattle.rules.proofs.pie.is_off_unpaired_loops.Goals as goal

pub returns-clause-test : goal.returns-clause-test
returns-clause-test c =
    c.leads_away.ensures
    ∙ leads_away_test c.args.graph.now c.unpaired-unpaired.result c.reach.result c.unpaired-unpaired.ensures.links c.reach.ensures.walks c.args.u c.args.w

pub returns-clause-in_words : goal.returns-clause-in_words
returns-clause-in_words c =
    let g = c.args.graph.now in
    Decides-at _ _ (returns-clause-test c) (off_unpaired_loop_decides (net g) (inside g) c.args.u c.args.w)
