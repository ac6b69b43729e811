-- What CORE answers.
use Rattle.std.specs.Prelude.{◌≡◌, ℕ, ◌<◌, true, false, ◌⊎◌, Option, List, None, Some}
use Rattle.std.specs.Option.{option_and_then, option_map}
use Rattle.theory.specs.Prices.{Kind}
use Rattle.rules.specs.declared.action.Action.{Action}
use Rattle.rules.specs.declared.action.Action.TheVariants.{Hold}
use Rattle.rules.specs.CoreTests.{Cored, cored, mates_of}
use Rattle.rules.specs.Nets.{Net}
use Rattle.rules.specs.Searches.{lowest}

-- CORE holds the lowest mate of the lowest stage that passes its test.
abbrev pub core_answer : {P : Type 0} → Kind P → List P → Net → Option Action
core_answer K prices g = option_and_then (λ v. option_map Hold (lowest (mates_of g v))) (lowest (cored K prices g))

-- In words: an answer is to hold the lowest mate of the lowest stage that is so, or none where no stage is.
abbrev pub HoldsLowestMate : {P : Type 0} → Kind P → List P → Net → Option Action → Type 0
HoldsLowestMate K prices g answer =
    ((v m : ℕ) × (answer ≡ Some (Hold m)) × Cored K prices g v × ((t : ℕ) → t < v → Cored K prices g t → ⊥) × (mates_of g v m ≡ true) × ((t : ℕ) → t < m → mates_of g v t ≡ false))
    ⊎ ((answer ≡ None) × ((v : ℕ) → Cored K prices g v → ⊥))
