-- The lowest link that passes a test, by from numbers and then by to numbers.
use Rattle.std.specs.Prelude.{◌≡◌, ℕ, ◌<◌, Bool, true, false, ◌⊎◌, Option, None, Some, is_some}
use Rattle.std.specs.Option.{option_and_then, option_map}
use Rattle.std.proofs.Common.{⊎_elim}
use Rattle.std.proofs.lemmas.Bool.{false≢true, true≢false}
use Rattle.rules.specs.Searches.{IsLowest, lowest, lowest_is}

-- Some link from stage u passes the test.
abbrev pub passes_from : (ℕ → ℕ → Bool) → ℕ → Bool
passes_from test u = is_some (lowest (test u))

-- The lowest from number of a link that passes, with the lowest to number of those from there.
abbrev pub lowest_link : (ℕ → ℕ → Bool) → Option (ℕ × ℕ)
lowest_link test = option_and_then (λ u. option_map (λ w. (u, w)) (lowest (test u))) (lowest (passes_from test))

-- The link from t to x comes before the link from u to w.
abbrev pub ComesBefore : ℕ → ℕ → ℕ → ℕ → Type 0
ComesBefore t x u w = (t < u) ⊎ ((t ≡ u) × (x < w))

-- An answer is the lowest link of stages below 64 that passes a test: it does so, and none that comes before it does;
-- or it is none, and no link passes.
abbrev pub IsLowestLink : (ℕ → ℕ → Bool) → Option (ℕ × ℕ) → Type 0
IsLowestLink test None = (t x : ℕ) → t < 64 → x < 64 → test t x ≡ false
IsLowestLink test (Some (u, w)) =
    (u < 64) × (w < 64) × (test u w ≡ true) × ((t x : ℕ) → t < 64 → x < 64 → ComesBefore t x u w → test t x ≡ false)

-- no link from a stage passes
none_from : (test : ℕ → Bool) (x : ℕ) → x < 64 → is_some (lowest test) ≡ false → test x ≡ false
none_from test x = go (lowest test) (lowest_is test)
  where
    go : (o : Option ℕ) → IsLowest 64 test o → x < 64 → is_some o ≡ false → test x ≡ false
    go None h l e = h x l
    go (Some w) h l e = absurd (true≢false e)

-- the lowest is so
pub lowest_link_is : (test : ℕ → ℕ → Bool) → IsLowestLink test (lowest_link test)
lowest_link_is test = go (lowest (passes_from test)) (lowest_is (passes_from test))
  where
    to : (u : ℕ) → u < 64 → ((t : ℕ) → t < u → passes_from test t ≡ false) → (o : Option ℕ) → IsLowest 64 (test u) o → is_some o ≡ true
        → IsLowestLink test (option_map (λ w. (u, w)) o)
    to u l low None h e = absurd (false≢true e)
    to u l low (Some w) (k, t, none) e = (
      l,
      k,
      t,
      λ a b la lb. ⊎_elim (λ (h : a < u). none_from (test a) b lb (low a h)) (λ (h : (a ≡ u) × (b < w)). rw h.0 (none b h.1)),
    )

    go : (o : Option ℕ) → IsLowest 64 (passes_from test) o → IsLowestLink test (option_and_then (λ u. option_map (λ w. (u, w)) (lowest (test u))) o)
    go None h = λ t x lt lx. none_from (test t) x lx (h t lt)
    go (Some u) (l, e, low) = to u l low (lowest (test u)) (lowest_is (test u)) e
