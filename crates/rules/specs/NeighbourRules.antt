-- What the rules on a stage with one neighbour answer.
use Rattle.std.specs.Prelude.{Option, List}
use Rattle.std.specs.Option.{option_map}
use Rattle.theory.specs.Prices.{Kind}
use Rattle.rules.specs.declared.action.Action.{Action}
use Rattle.rules.specs.declared.action.Action.TheVariants.{Pass}
use Rattle.rules.specs.Nets.{Net}
use Rattle.rules.specs.NeighbourTests.{fed_by_one, read_by_one}
use Rattle.rules.specs.Searches.{lowest}

-- IN1 passes a stage whose only link in is from another stage that is not dearer.
abbrev pub in1_answer : {P : Type 0} → Kind P → List P → Net → Option Action
in1_answer K prices g = option_map Pass (lowest (fed_by_one K prices g))

-- OUT1 passes a stage whose only link out is to another stage that is not dearer.
abbrev pub out1_answer : {P : Type 0} → Kind P → List P → Net → Option Action
out1_answer K prices g = option_map Pass (lowest (read_by_one K prices g))
