-- What the rules on single stages answer: an action on the lowest stage that passes the rule's test.
use Rattle.std.specs.Prelude.{◌≡◌, ℕ, ◌<◌, ◌⊎◌, Option, None, Some}
use Rattle.std.specs.Option.{option_map}
use Rattle.rules.specs.declared.action.Action.{Action}
use Rattle.rules.specs.declared.action.Action.TheVariants.{Hold, Pass}
use Rattle.rules.specs.Nets.{Net}
use Rattle.rules.specs.Searches.{lowest}
use Rattle.rules.specs.StageTests.{self_linked, none_before, none_after}

-- LOOP holds a stage with a self-link.
abbrev pub loop_answer : Net → Option Action
loop_answer g = option_map Hold (lowest (self_linked g))

-- IN0 passes a stage without links in.
abbrev pub in0_answer : Net → Option Action
in0_answer g = option_map Pass (lowest (none_before g))

-- OUT0 passes a stage without links out.
abbrev pub out0_answer : Net → Option Action
out0_answer g = option_map Pass (lowest (none_after g))

-- In words: an answer is the action on the lowest stage of which X holds, or none where X holds of no stage.
abbrev pub OnLowest : (ℕ → Action) → (ℕ → Type 0) → Option Action → Type 0
OnLowest act X answer =
    ((s : ℕ) × (answer ≡ Some (act s)) × X s × ((t : ℕ) → t < s → X t → ⊥))
    ⊎ ((answer ≡ None) × ((s : ℕ) → X s → ⊥))
