-- Cheapest breaking sets, and what a set costs when a stage joins it or makes way for another.
use Rattle.std.specs.Prelude.{◌≡◌, ℕ, ◌<◌, true}
use Rattle.theory.specs.Loops.{Links, Stages, Breaks, Within}
use Rattle.theory.specs.Moves.{with_stage, without_stage}
use Rattle.theory.specs.Prices.{Kind, cost}

-- A set of stages below n, each in the graph or not, is a cheapest one that breaks the graph: no set that breaks it
-- costs less.
pub record Cheapest {P : Type 0} (K : Kind P) (price : ℕ → P) (n : ℕ) (L : Links) (S : Stages) : Type 0 where
  pub of_stages : (s : ℕ) → S s ≡ true → s < n
  pub breaks : Breaks L S
  pub cheapest : (Z : Stages) → Breaks L Z → K.leq (cost K price n S) (cost K price n Z) ≡ true

-- At all prices of the kind, each graph of n stages has a cheapest breaking set.
abbrev pub CheapestSetExists : {P : Type 0} → Kind P → Type 0
CheapestSetExists {P} K = (price : ℕ → P) (n : ℕ) (L : Links) → Within n L → (S : Stages) × Cheapest K price n L S

-- A stage w in the place of a stage v of the set, where w is not dearer than v, makes the set not dearer.
abbrev pub SwapMakesNoSetDearer : {P : Type 0} → Kind P → Type 0
SwapMakesNoSetDearer {P} K =
    (price : ℕ → P) (n v w : ℕ) (S : Stages) → v < n → w < n → S v ≡ true → K.leq (price w) (price v) ≡ true
    → K.leq (cost K price n (with_stage (without_stage S v) w)) (cost K price n S) ≡ true

-- One stage more makes no set cheaper.
abbrev pub AddingMakesNoSetCheaper : {P : Type 0} → Kind P → Type 0
AddingMakesNoSetCheaper {P} K =
    (price : ℕ → P) (n v : ℕ) (S : Stages) → K.leq (cost K price n S) (cost K price n (with_stage S v)) ≡ true
