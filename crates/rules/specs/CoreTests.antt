-- The test of CORE: a stage that is linked with its mates alone, which are all mates of each other.
use Rattle.std.specs.Prelude.{◌≡◌, ℕ, Bool, true, false, not, ◌&&◌, ◌||◌, ◌≢◌, ◌==◌, List}
use Rattle.theory.specs.Loops.{Link, Stages}
use Rattle.theory.specs.Mates.{mates}
use Rattle.theory.specs.Prices.{Kind}
use Rattle.rules.specs.Nets.{Net, links_in}
use Rattle.rules.specs.NeighbourTests.{not_dearer}
use Rattle.rules.specs.Searches.{none_passes}

-- The mates of a stage.
abbrev pub mates_of : Net → ℕ → Stages
mates_of g v = mates (links_in g) v

-- Stage w has no self-link and a link to each other stage of a set, and is not dearer than v.
abbrev pub fits : {P : Type 0} → Kind P → List P → Net → Stages → ℕ → ℕ → Bool
fits K prices g S v w =
    not (links_in g w w) && (none_passes (λ t. (S t && not (t == w)) && not (links_in g w t)) && not_dearer K prices w v)

-- Each stage of a set fits among them.
abbrev pub all_fit : {P : Type 0} → Kind P → List P → Net → Stages → ℕ → Bool
all_fit K prices g S v = none_passes (λ w. S w && not (fits K prices g S v w))

-- A set has a stage, and no stage but those of the set is linked with v.
abbrev pub all_linked : Net → Stages → ℕ → Bool
all_linked g S v = not (none_passes S) && none_passes (λ w. (links_in g v w || links_in g w v) && not (S w))

-- Stage v has a mate, no stage but its mates is linked with it, and each of its mates fits among them.
abbrev pub cored : {P : Type 0} → Kind P → List P → Net → ℕ → Bool
cored K prices g v = all_linked g (mates_of g v) v && all_fit K prices g (mates_of g v) v

-- In words: v has a mate, all links of v are paired, its mates are all mates of each other, no self-link is on v or
-- among them, and no mate is dearer than v.
pub record Cored {P : Type 0} (K : Kind P) (prices : List P) (g : Net) (v : ℕ) : Type 0 where
  pub mate : (m : ℕ) × (mates_of g v m ≡ true)
  pub paired_out : (w : ℕ) → Link (links_in g) v w → mates_of g v w ≡ true
  pub paired_in : (w : ℕ) → Link (links_in g) w v → mates_of g v w ≡ true
  pub each_other : (w t : ℕ) → mates_of g v w ≡ true → mates_of g v t ≡ true → w ≢ t → mates_of g w t ≡ true
  pub no_own_self_link : links_in g v v ≡ false
  pub no_self_link : (w : ℕ) → mates_of g v w ≡ true → links_in g w w ≡ false
  pub none_dearer : (w : ℕ) → mates_of g v w ≡ true → not_dearer K prices w v ≡ true
