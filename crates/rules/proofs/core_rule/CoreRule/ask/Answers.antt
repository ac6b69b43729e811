use Rattle.std.proofs.Common.{◌≡◌, rules}
use Rattle.rules.specs.CoreRules.{core_answer}
use Rattle.rules.specs.Nets.{net}
use Rattle.rules.proofs.NeighbourAnswers.{core_in_words}
use Rattle.rules.proofs.core_rule.CoreRule.ask.Goals as goal

pub returns-clause-in_words : goal.returns-clause-in_words
returns-clause-in_words g c =
    let K = g.P.Price.kind in
    let graph = c.args.graph.now in
    let answer : c.map.result ≡ core_answer K c.args.prices.now (net graph) = search rules in
    core_in_words K c.args.prices.now graph c.map.result answer

pub returns-in_err-stage-clause-in_words : goal.returns-in_err-stage-clause-in_words
returns-in_err-stage-clause-in_words g c =
    let K = g.P.Price.kind in
    let graph = c.args.graph.now in
    let answer : c.from_residual.result ≡ core_answer K c.args.prices.now (net graph) = search rules in
    core_in_words K c.args.prices.now graph c.from_residual.result answer
