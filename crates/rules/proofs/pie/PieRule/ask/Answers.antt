use Rattle.std.proofs.Common.{◌≡◌, ap, ◌∙◌, rules}
use Rattle.std.specs.Option.{option_map}
use Rattle.rules.specs.LinkRules.{drop_link}
use Rattle.rules.proofs.LinkAnswers.{leads_away_test, pie_in_words}
use Rattle.rules.proofs.pie.PieRule.ask.Goals as goal

pub returns-clause-answer : goal.returns-clause-answer
returns-clause-answer g c =
    let mapped : c.map.result ≡ option_map drop_link c.lowest_link.result = search rules in
    mapped
    ∙ ap (option_map drop_link)
    (c.lowest_link.ensures _
    (λ u w b hu hw p.
    search rules
    ∙ leads_away_test c.args.graph.now c.unpaired-unpaired.result c.reach-reach.result c.unpaired-unpaired.ensures.links c.reach-reach.ensures.walks u w))

pub returns-clause-in_words : goal.returns-clause-in_words
returns-clause-in_words g c = pie_in_words c.args.graph.now c.map.result (returns-clause-answer g c)
