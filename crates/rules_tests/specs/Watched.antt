-- The answer of a rule that looks at one stage, and why it is allowed.
use Rattle.std.specs.Prelude.{◌≡◌, ℕ, true, false, cond, ◌⊎◌, List, Option, None, Some}
use Rattle.std.proofs.Common.{[], refl, inl, inr}
use Rattle.std.proofs.Math.Bool.{or-false}
use Rattle.std.proofs.lemmas.Bool.{and_parts, cases_Bool}
use Rattle.theory.specs.Prices.{Kind, Lawful}
use Rattle.rules.specs.declared.action.Action.{Action}
use Rattle.rules.specs.declared.action.Action.TheVariants.{Hold}
use Rattle.rules.specs.Actions.{Allowed}
use Rattle.rules.specs.Laws.{some_cheapest}
use Rattle.rules.specs.Nets.{Inside, Net}
use Rattle.rules.specs.StageTests.{self_linked}

-- To hold stage s, where it has a self-link.
abbrev pub watched_answer : Net → ℕ → Option Action
watched_answer g s = cond (self_linked g s) (Some (Hold s)) None

-- a self-link is a loop of its stage alone, so each breaking set contains that stage, and a cheapest one does
pub watched_lawful : {P : Type 0} (K : Kind P) (laws : Lawful K) (prices : List P) (g : Net) → Inside g → (s : ℕ) → Allowed K prices g (watched_answer g s)
watched_lawful K laws prices g i s = go (cases_Bool (self_linked g s))
  where
    hold : self_linked g s ≡ true → Allowed K prices g (Some (Hold s))
    hold e =
        let p = and_parts _ _ e in
        let S = some_cheapest K laws prices g i in
        let met = S.1.cheapest.breaks (record { first = s; rest = []; apart = refl; closed = p.1 }) in
        record { there = p.0; cheapest = (S.0, S.1, rw or-false at met) }

    go : (self_linked g s ≡ true) ⊎ (self_linked g s ≡ false) → Allowed K prices g (watched_answer g s)
    go (inl e) = rw e (hold e)
    go (inr e) = rw e tt
