-- The tests of stages by which rules choose.
use Rattle.std.specs.Prelude.{◌≡◌, ℕ, Bool, true, false, ◌&&◌}
use Rattle.theory.specs.Loops.{Link}
use Rattle.rules.specs.Nets.{Net, stage_in, links_in}
use Rattle.rules.specs.Searches.{none_passes}

-- Stage s is there and has a self-link.
abbrev pub self_linked : Net → ℕ → Bool
self_linked g s = stage_in g s && links_in g s s

-- That in words.
abbrev pub SelfLinked : Net → ℕ → Type 0
SelfLinked g s = (stage_in g s ≡ true) × Link (links_in g) s s

-- Stage s is there, and no stage has a link to it.
abbrev pub none_before : Net → ℕ → Bool
none_before g s = stage_in g s && none_passes (λ u. links_in g u s)

-- That in words, for every number and not only those below 64.
abbrev pub NoneBefore : Net → ℕ → Type 0
NoneBefore g s = (stage_in g s ≡ true) × ((u : ℕ) → links_in g u s ≡ false)

-- Stage s is there, and it has a link to no stage.
abbrev pub none_after : Net → ℕ → Bool
none_after g s = stage_in g s && none_passes (λ w. links_in g s w)

-- That in words, for every number and not only those below 64.
abbrev pub NoneAfter : Net → ℕ → Type 0
NoneAfter g s = (stage_in g s ≡ true) × ((w : ℕ) → links_in g s w ≡ false)
