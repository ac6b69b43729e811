use Rattle.std.proofs.Common.{◌≡◌, rules}
use Rattle.rules.specs.Nets.{net}
use Rattle.rules.specs.StageRules.{in0_answer}
use Rattle.rules.proofs.StageAnswers.{in0_in_words}
use Rattle.rules.proofs.in0.In0Rule.ask.Goals as goal

pub returns-clause-in_words : goal.returns-clause-in_words
returns-clause-in_words g c =
    let graph = c.args.graph.now in
    let answer : c.map.result ≡ in0_answer (net graph) = search rules in
    in0_in_words graph c.map.result answer
