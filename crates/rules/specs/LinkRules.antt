-- What the rules on links answer: to drop the lowest link that passes the rule's test.
use Rattle.std.specs.Prelude.{◌≡◌, ℕ, ◌⊎◌, Option, None, Some}
use Rattle.std.specs.Option.{option_map}
use Rattle.rules.specs.declared.action.Action.{Action}
use Rattle.rules.specs.declared.action.Action.TheVariants.{DropLink}
use Rattle.rules.specs.LinkSearches.{ComesBefore, lowest_link}
use Rattle.rules.specs.LinkTests.{dominated_link, off_unpaired_loop}
use Rattle.rules.specs.Nets.{Net}

-- To drop a link.
abbrev pub drop_link : ℕ × ℕ → Action
drop_link (u, w) = DropLink u w

-- PIE drops an unpaired link between different stages that lies on no loop of unpaired links.
abbrev pub pie_answer : Net → Option Action
pie_answer g = option_map drop_link (lowest_link (off_unpaired_loop g))

-- DOME drops an unpaired link between different stages that is dominated.
abbrev pub dome_answer : Net → Option Action
dome_answer g = option_map drop_link (lowest_link (dominated_link g))

-- In words: an answer is to drop the lowest link of which X holds, or none where X holds of no link.
abbrev pub DropsLowest : (ℕ → ℕ → Type 0) → Option Action → Type 0
DropsLowest X answer =
    ((u w : ℕ) × (answer ≡ Some (DropLink u w)) × X u w × ((t x : ℕ) → ComesBefore t x u w → X t x → ⊥))
    ⊎ ((answer ≡ None) × ((u w : ℕ) → X u w → ⊥))
