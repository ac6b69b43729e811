use Rattle.std.proofs.Common.{◌≡◌, ap, ◌∙◌, rules}
use Rattle.std.specs.Option.{option_map}
use Rattle.rules.specs.LinkRules.{drop_link}
use Rattle.rules.proofs.LinkAnswers.{dome_in_words}
use Rattle.rules.proofs.dome.DomeRule.ask.Goals as goal

pub returns-clause-answer : goal.returns-clause-answer
returns-clause-answer g c =
    let mapped : c.map.result ≡ option_map drop_link c.lowest_link.result = search rules in
    mapped ∙ ap (option_map drop_link) (c.lowest_link.ensures _ (λ u v b hu hv p. search rules))

pub returns-clause-in_words : goal.returns-clause-in_words
returns-clause-in_words g c = dome_in_words c.args.graph.now c.map.result (returns-clause-answer g c)
