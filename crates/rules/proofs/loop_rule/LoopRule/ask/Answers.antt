use Rattle.std.proofs.Common.{◌≡◌, rules}
use Rattle.rules.specs.Nets.{net}
use Rattle.rules.specs.StageRules.{loop_answer}
use Rattle.rules.proofs.StageAnswers.{loop_in_words}
use Rattle.rules.proofs.loop_rule.LoopRule.ask.Goals as goal

pub returns-clause-in_words : goal.returns-clause-in_words
returns-clause-in_words g c =
    let graph = c.args.graph.now in
    let answer : c.map.result ≡ loop_answer (net graph) = search rules in
    loop_in_words graph c.map.result answer
