-- Why the answer of a rule that can be switched off is allowed.
use Rattle.std.specs.Prelude.{Bool, true, false, cond, List, Option, None}
use Rattle.theory.specs.Prices.{Kind}
use Rattle.rules.specs.declared.action.Action.{Action}
use Rattle.rules.specs.Actions.{Allowed}
use Rattle.rules.specs.Nets.{Net}

-- switched on it is the other rule's answer, and switched off there is none
pub switched_lawful : {P : Type 0} (K : Kind P) (prices : List P) (g : Net) (on : Bool) (answer : Option Action)
    → Allowed K prices g answer → Allowed K prices g (cond on answer None)
switched_lawful K prices g true answer a = a
switched_lawful K prices g false answer a = tt
