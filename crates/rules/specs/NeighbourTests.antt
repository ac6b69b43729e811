-- The tests of IN1 and OUT1: a stage with one neighbour, by links in or by links out.
use Rattle.std.specs.Prelude.{◌≡◌, ℕ, Bool, true, false, not, ◌&&◌, ◌≢◌, ◌==◌, List, Option, None, Some, if◌then◌else◌}
use Rattle.theory.specs.Loops.{Stages}
use Rattle.theory.specs.Prices.{Kind}
use Rattle.price.specs.Costs.{price_at}
use Rattle.rules.specs.Nets.{Net, stage_in, links_in}
use Rattle.rules.specs.Searches.{lowest, none_passes}

-- Stage u is not dearer than stage v. A price that the table lacks counts as nothing.
abbrev pub not_dearer : {P : Type 0} → Kind P → List P → ℕ → ℕ → Bool
not_dearer K prices u v = K.leq (price_at prices K.nothing u) (price_at prices K.nothing v)

-- No stage but s is in the set.
abbrev pub none_but : Stages → ℕ → Bool
none_but S s = none_passes (λ t. S t && not (t == s))

-- The lowest stage of a set, where the set has no other.
abbrev pub alone : Stages → Option ℕ → Option ℕ
alone S None = None
alone S (Some s) = if none_but S s then Some s else None

-- The stage of a set that has exactly one.
abbrev pub only : Stages → Option ℕ
only S = alone S (lowest S)

-- There is such a stage, and it is another than v and not dearer.
abbrev pub stands_in : {P : Type 0} → Kind P → List P → ℕ → Option ℕ → Bool
stands_in K prices v None = false
stands_in K prices v (Some u) = not (u == v) && not_dearer K prices u v

-- Stage v is there, and exactly one link leads to it, from another stage, which is not dearer.
abbrev pub fed_by_one : {P : Type 0} → Kind P → List P → Net → ℕ → Bool
fed_by_one K prices g v = stage_in g v && stands_in K prices v (only (λ u. links_in g u v))

-- Stage v is there, and exactly one link leads from it, to another stage, which is not dearer.
abbrev pub read_by_one : {P : Type 0} → Kind P → List P → Net → ℕ → Bool
read_by_one K prices g v = stage_in g v && stands_in K prices v (only (λ w. links_in g v w))

-- In words: of all stages u alone is in the set; it is another than v, and not dearer.
pub record OnlyOther {P : Type 0} (K : Kind P) (prices : List P) (S : Stages) (v u : ℕ) : Type 0 where
  pub among : S u ≡ true
  pub alone : (t : ℕ) → t ≢ u → S t ≡ false
  pub other : u ≢ v
  pub no_dearer : not_dearer K prices u v ≡ true

-- Stage v is there, and its only link in is from another stage, which is not dearer.
abbrev pub OnlyLinkIn : {P : Type 0} → Kind P → List P → Net → ℕ → Type 0
OnlyLinkIn K prices g v = (stage_in g v ≡ true) × ((u : ℕ) × OnlyOther K prices (λ t. links_in g t v) v u)

-- Stage v is there, and its only link out is to another stage, which is not dearer.
abbrev pub OnlyLinkOut : {P : Type 0} → Kind P → List P → Net → ℕ → Type 0
OnlyLinkOut K prices g v = (stage_in g v ≡ true) × ((w : ℕ) × OnlyOther K prices (links_in g v) v w)
