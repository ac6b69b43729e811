use Rattle.std.proofs.Common.{◌≡◌, ℕ, ◌<◌, Bool, None}
use Rattle.rules.specs.LinkSearches.{passes_from}
use Rattle.rules.specs.Searches.{lowest_below}
use Rattle.rules.proofs.link_search.lowest_link.Given as goal

-- No link from a stage below u passes.
abbrev pub invariant-search : goal.invariant-search
invariant-search g l =
    (l.found ≡ None)
    × ((f : ℕ → ℕ → Bool) → ((u w : ℕ) (b : Bool) → u < 64 → w < 64 → goal.F-post g l.test u w b → b ≡ f u w) → lowest_below l.u (passes_from f) ≡ None)

-- Nor does one from u to a stage below w.
abbrev pub invariant-loop-w : goal.invariant-loop-w
invariant-loop-w g l =
    (l.found ≡ None)
    × ((f : ℕ → ℕ → Bool) → ((u w : ℕ) (b : Bool) → u < 64 → w < 64 → goal.F-post g l.test u w b → b ≡ f u w) → lowest_below l.w (f l.u) ≡ None)
