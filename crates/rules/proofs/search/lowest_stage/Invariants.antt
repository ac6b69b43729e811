use Rattle.std.proofs.Common.{◌≡◌, ℕ, ◌<◌, Bool, None}
use Rattle.rules.specs.Searches.{lowest_below}
use Rattle.rules.proofs.search.lowest_stage.Given as goal

-- No number below s passes.
abbrev pub invariant-loop-s : goal.invariant-loop-s
invariant-loop-s g l =
    (f : ℕ → Bool) → ((s : ℕ) (b : Bool) → s < 64 → goal.F-post g l.test s b → b ≡ f s) → lowest_below l.s f ≡ None
