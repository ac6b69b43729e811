-- Why what a pile of two rules answers is allowed.
use Rattle.std.specs.Prelude.{List, Option, None, Some}
use Rattle.std.specs.Option.{option_or}
use Rattle.theory.specs.Prices.{Kind}
use Rattle.rules.specs.declared.action.Action.{Action}
use Rattle.rules.specs.Actions.{Allowed}
use Rattle.rules.specs.Nets.{Net}

-- if each of two answers is allowed, so is the one that is taken
pub first_allowed : {P : Type 0} (K : Kind P) (prices : List P) (g : Net) (a b : Option Action)
    → Allowed K prices g a → Allowed K prices g b → Allowed K prices g (option_or a b)
first_allowed K prices g None b p q = q
first_allowed K prices g (Some a) b p q = p
