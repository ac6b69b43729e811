-- What a rule owes of its answer.
use Rattle.std.specs.Prelude.{◌≡◌, ℕ, true, false, List, Option, None, Some}
use Rattle.theory.specs.Cheapest.{Cheapest}
use Rattle.theory.specs.Kept.{DropsFreely}
use Rattle.theory.specs.Loops.{Stages}
use Rattle.theory.specs.Prices.{Kind}
use Rattle.price.specs.Costs.{price_at}
use Rattle.rules.specs.declared.action.Action.{Action}
use Rattle.rules.specs.declared.action.Action.TheVariants.{Hold, Pass, DropLink}
use Rattle.rules.specs.Nets.{Net, stage_in, links_in}

-- A set of the graph's stages is a cheapest one that breaks it, at the prices of a table: no set that breaks it costs
-- less. A stage with no price there costs nothing.
pub record CheapestAt {P : Type 0} (K : Kind P) (prices : List P) (g : Net) (S : Stages) : Type 0 where
  pub of_stages : (s : ℕ) → S s ≡ true → stage_in g s ≡ true
  pub cheapest : Cheapest K (price_at prices K.nothing) 64 (links_in g) S

-- A stage may be held: it is there, and some cheapest breaking set contains it.
pub record Holdable {P : Type 0} (K : Kind P) (prices : List P) (g : Net) (v : ℕ) : Type 0 where
  pub there : stage_in g v ≡ true
  pub cheapest : (S : Stages) × CheapestAt K prices g S × (S v ≡ true)

-- A stage may be passed: it is there, it has no self-link, and some cheapest breaking set lacks it.
pub record Passable {P : Type 0} (K : Kind P) (prices : List P) (g : Net) (v : ℕ) : Type 0 where
  pub there : stage_in g v ≡ true
  pub no_self_link : links_in g v v ≡ false
  pub cheapest : (S : Stages) × CheapestAt K prices g S × (S v ≡ false)

-- A link may be dropped: it is there, and without it the same sets break the graph.
pub record Droppable (g : Net) (u w : ℕ) : Type 0 where
  pub there : links_in g u w ≡ true
  pub freely : DropsFreely (links_in g) u w

-- What an answer has to be: none, or an action that may be taken.
abbrev pub Allowed : {P : Type 0} → Kind P → List P → Net → Option Action → Type 0
Allowed K prices g None = Unit {0}
Allowed K prices g (Some (Hold v)) = Holdable K prices g v
Allowed K prices g (Some (Pass v)) = Passable K prices g v
Allowed K prices g (Some (DropLink u w)) = Droppable g u w
