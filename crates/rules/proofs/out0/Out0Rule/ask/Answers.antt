use Rattle.std.proofs.Common.{◌≡◌, rules}
use Rattle.rules.specs.Nets.{net}
use Rattle.rules.specs.StageRules.{out0_answer}
use Rattle.rules.proofs.StageAnswers.{out0_in_words}
use Rattle.rules.proofs.out0.Out0Rule.ask.Goals as goal

pub returns-clause-in_words : goal.returns-clause-in_words
returns-clause-in_words g c =
    let graph = c.args.graph.now in
    let answer : c.map.result ≡ out0_answer (net graph) = search rules in
    out0_in_words graph c.map.result answer
