use Rattle.std.proofs.Common.{◌≡◌, rules}
use Rattle.rules.specs.NeighbourRules.{in1_answer}
use Rattle.rules.specs.Nets.{net}
use Rattle.rules.proofs.NeighbourAnswers.{in1_in_words}
use Rattle.rules.proofs.in1.In1Rule.ask.Goals as goal

pub returns-clause-in_words : goal.returns-clause-in_words
returns-clause-in_words g c =
    let K = g.P.Price.kind in
    let graph = c.args.graph.now in
    let answer : c.map.result ≡ in1_answer K c.args.prices.now (net graph) = search rules in
    in1_in_words K c.args.prices.now graph c.map.result answer
