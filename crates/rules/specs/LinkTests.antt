-- The tests of links by which rules choose.
use Rattle.std.specs.Prelude.{ℕ, Bool, not, ◌&&◌, ◌||◌, ◌==◌, ◌≢◌}
use Rattle.theory.specs.Loops.{Link, Links, Stages}
use Rattle.theory.specs.Mates.{Dominated, unpaired}
use Rattle.theory.specs.Reach.{OnLoop, reaches}
use Rattle.rules.specs.Nets.{Net, links_in}
use Rattle.rules.specs.Searches.{none_passes}

-- The link from u to w is unpaired and joins two different stages.
abbrev pub one_way : Net → Links
one_way g u w = unpaired (links_in g) u w && not (u == w)

-- That in words.
abbrev pub OneWay : Net → ℕ → ℕ → Type 0
OneWay g u w = Link (unpaired (links_in g)) u w × (u ≢ w)

-- It is such a link, and unpaired links do not lead back from w to u.
abbrev pub off_unpaired_loop : Net → Links
off_unpaired_loop g u w = one_way g u w && not (reaches 64 (unpaired (links_in g)) w u)

-- In words: it is such a link, and lies on no loop of unpaired links.
abbrev pub OffUnpairedLoop : Net → ℕ → ℕ → Type 0
OffUnpairedLoop g u w = OneWay g u w × (OnLoop (unpaired (links_in g)) u w → ⊥)

-- Each stage of A is in B: no stage is in A and not in B.
abbrev pub each_in : Stages → Stages → Bool
each_in A B = none_passes (λ s. A s && not (B s))

-- The link from u to v is dominated from before: no stage has an unpaired link to u and no link to v.
abbrev pub dominated_before : Links → Links
dominated_before L u v = each_in (λ p. unpaired L p u) (λ p. L p v)

-- It is dominated from after: no stage has an unpaired link from v and no link from u.
abbrev pub dominated_after : Links → Links
dominated_after L u v = each_in (unpaired L v) (L u)

-- The link from u to v is unpaired, joins two different stages, and is dominated.
abbrev pub dominated_link : Net → Links
dominated_link g u v = one_way g u v && (dominated_before (links_in g) u v || dominated_after (links_in g) u v)

-- That in words.
abbrev pub DominatedLink : Net → ℕ → ℕ → Type 0
DominatedLink g u v = OneWay g u v × Dominated (links_in g) u v
