-- The lowest number that passes a test.
use Rattle.std.specs.Prelude.{◌≡◌, ℕ, zero, suc, ◌<◌, Bool, true, false, cond, ◌⊎◌, Option, None, Some, Decides, is_none}
use Rattle.std.specs.Option.{option_or}
use Rattle.std.proofs.Common.{sym, refl, subst, inl, inr, ⊎_elim, arith}
use Rattle.std.proofs.lemmas.Bool.{both_ways, cases_Bool, cases_eq, false≢true, false_from_ne_true}

-- The lowest number below n that passes the test, if one does.
abbrev pub lowest_below : ℕ → (ℕ → Bool) → Option ℕ
lowest_below zero test = None
lowest_below (suc n) test = option_or (lowest_below n test) (cond (test n) (Some n) None)

-- The lowest number of a stage, 0 to 63, that passes the test, if one does.
unfoldable pub lowest : (ℕ → Bool) → Option ℕ
lowest test = lowest_below 64 test

-- No number of a stage passes the test.
abbrev pub none_passes : (ℕ → Bool) → Bool
none_passes test = is_none (lowest test)

-- An answer is the lowest number below n that passes a test: it does so, and no lower one does; or it is none, and
-- no number below n passes.
abbrev pub IsLowest : ℕ → (ℕ → Bool) → Option ℕ → Type 0
IsLowest n test None = (t : ℕ) → t < n → test t ≡ false
IsLowest n test (Some s) = (s < n) × (test s ≡ true) × ((t : ℕ) → t < s → test t ≡ false)

lowest_below_is : (n : ℕ) (test : ℕ → Bool) → IsLowest n test (lowest_below n test)
lowest_below_is zero test = λ t h. absurd (omega arith)
lowest_below_is (suc n) test = go (lowest_below n test) (lowest_below_is n test) (cases_Bool (test n))
  where
    go : (o : Option ℕ) → IsLowest n test o → (test n ≡ true) ⊎ (test n ≡ false) → IsLowest (suc n) test (option_or o (cond (test n) (Some n) None))
    go (Some s) (l, e, low) c = (omega (arith, l), e, low)
    go None none (inl e) = subst (λ b. IsLowest (suc n) test (cond b (Some n) None)) (sym e) (omega arith, e, none)
    go None none (inr e) =
        subst (λ b. IsLowest (suc n) test (cond b (Some n) None)) (sym e)
        (λ t l. ⊎_elim (λ (q : t ≡ n). rw q e) (λ (q : t ≡ n → ⊥). none t (omega arith)) (cases_eq t n))

-- the lowest is so
pub lowest_is : (test : ℕ → Bool) → IsLowest 64 test (lowest test)
unfolding lowest
lowest_is test = lowest_below_is 64 test

pub none_passes_decides : (test : ℕ → Bool) → ((s : ℕ) → test s ≡ true → s < 64) → Decides (none_passes test) ((s : ℕ) → test s ≡ false)
none_passes_decides test small = go (lowest test) (lowest_is test)
  where
    go : (o : Option ℕ) → IsLowest 64 test o → Decides (is_none o) ((s : ℕ) → test s ≡ false)
    go None h = (
      λ _ s. false_from_ne_true (test s) (λ e. both_ways (test s) (h s (small s e)) e),
      λ _. refl,
    )
    go (Some s) (l, e, low) = (λ f. absurd (false≢true f), λ f. absurd (both_ways (test s) (f s) e))
