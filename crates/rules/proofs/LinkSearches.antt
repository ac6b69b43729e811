-- What the lowest link that passes a test is.
use Rattle.std.proofs.Common.{◌≡◌, ℕ, ◌+◌, ◌<◌, Bool, true, None, Some, refl, ap}
use Rattle.std.specs.Option.{is_some}
use Rattle.rules.specs.LinkSearches.{lowest_link, passes_from}
use Rattle.rules.specs.Searches.{lowest_below}
use Rattle.rules.proofs.Searches.{lowest_found, lowest_none, none_more}

-- no link from a stage below u passes, and none from u
pub none_from : (f : ℕ → ℕ → Bool) (u n : ℕ) → n ≡ 64 → lowest_below u (passes_from f) ≡ None → lowest_below n (f u) ≡ None
    → lowest_below (u + 1) (passes_from f) ≡ None
none_from f u n e h k = none_more (passes_from f) u h (ap is_some (lowest_none (f u) n e k))

-- the link from u to w passes, and none before it
pub link_found : (f : ℕ → ℕ → Bool) (u w : ℕ) → u < 64 → w < 64 → lowest_below u (passes_from f) ≡ None → lowest_below w (f u) ≡ None → f u w ≡ true
    → lowest_link f ≡ Some (u, w)
link_found f u w hu hw h k e =
    let to = lowest_found (f u) w hw k e in
    rw (lowest_found (passes_from f) u hu h (ap is_some to), to) refl

pub link_none : (f : ℕ → ℕ → Bool) (n : ℕ) → n ≡ 64 → lowest_below n (passes_from f) ≡ None → lowest_link f ≡ None
link_none f n e h = rw (lowest_none (passes_from f) n e h) refl
