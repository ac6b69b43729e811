use Rattle.std.proofs.Common.{◌≡◌, rules}
use Rattle.rules.specs.NeighbourRules.{out1_answer}
use Rattle.rules.specs.Nets.{net}
use Rattle.rules.proofs.NeighbourAnswers.{out1_in_words}
use Rattle.rules.proofs.out1.Out1Rule.ask.Goals as goal

pub returns-clause-in_words : goal.returns-clause-in_words
returns-clause-in_words g c =
    let K = g.P.Price.kind in
    let graph = c.args.graph.now in
    let answer : c.map.result ≡ out1_answer K c.args.prices.now (net graph) = search rules in
    out1_in_words K c.args.prices.now graph c.map.result answer
