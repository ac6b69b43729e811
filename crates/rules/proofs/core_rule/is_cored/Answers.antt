use Rattle.std.proofs.lemmas.Bool.Decides.{Decides-at}
use Rattle.graph.specs.StageSets.{stages}
use Rattle.rules.proofs.CoreAnswers.{tested_linked, tested_not_linked}
use Rattle.rules.specs.CoreLaws.{cored_decides}
use Rattle.rules.specs.Nets.{inside, net}
use Rattle.rules.proofs.core_rule.is_cored.Goals as goal

pub returns-then-are_all_linked-clause-test : goal.returns-then-are_all_linked-clause-test
returns-then-are_all_linked-clause-test g c =
    tested_linked g.P.Price.kind c.args.prices.now (net c.args.graph.now) c.args.v (stages c.mates-mates.result) c.mates-mates.ensures
    _ _ c.are_all_linked.ensures c.if-are_all_linked.true c.are_fit.ensures

pub returns-then-are_all_linked-clause-in_words : goal.returns-then-are_all_linked-clause-in_words
returns-then-are_all_linked-clause-in_words g c =
    Decides-at _ _ (returns-then-are_all_linked-clause-test g c) (cored_decides g.P.Price.kind c.args.prices.now (net c.args.graph.now) (inside c.args.graph.now) c.args.v)

pub returns-else-are_all_linked-clause-test : goal.returns-else-are_all_linked-clause-test
returns-else-are_all_linked-clause-test g c =
    tested_not_linked g.P.Price.kind c.args.prices.now (net c.args.graph.now) c.args.v (stages c.mates-mates.result) c.mates-mates.ensures
    _ c.are_all_linked.ensures c.if-are_all_linked.false

pub returns-else-are_all_linked-clause-in_words : goal.returns-else-are_all_linked-clause-in_words
returns-else-are_all_linked-clause-in_words g c =
    Decides-at _ _ (returns-else-are_all_linked-clause-test g c) (cored_decides g.P.Price.kind c.args.prices.now (net c.args.graph.now) (inside c.args.graph.now) c.args.v)
