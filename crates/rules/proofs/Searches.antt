-- What the lowest number that passes a test is.
use Rattle.std.proofs.Common.{◌≡◌, ℕ, zero, suc, ◌+◌, ◌<◌, Bool, true, false, None, Some, refl, subst, ⊎_elim, add-one, arith}
use Rattle.std.proofs.lemmas.Bool.{cases_eq}
use Rattle.rules.specs.Searches.{lowest, lowest_below}

-- none below s passes, and neither does s
pub none_more : (test : ℕ → Bool) (s : ℕ) → lowest_below s test ≡ None → test s ≡ false → lowest_below (s + 1) test ≡ None
none_more test s h e = rw (add-one s, h, e) refl

-- none below s passes, and s does
found_below : (test : ℕ → Bool) (n s : ℕ) → s < n → lowest_below s test ≡ None → test s ≡ true → lowest_below n test ≡ Some s
found_below test zero s l h e = absurd (omega arith)
found_below test (suc n) s l h e =
    ⊎_elim
    (λ (q : s ≡ n). subst (λ k. lowest_below (suc k) test ≡ Some s) q (rw (h, e) refl))
    (λ (q : s ≡ n → ⊥). rw (found_below test n s (omega arith) h e) refl)
    (cases_eq s n)

pub lowest_found : (test : ℕ → Bool) (s : ℕ) → s < 64 → lowest_below s test ≡ None → test s ≡ true → lowest test ≡ Some s
unfolding lowest
lowest_found test = found_below test 64

pub lowest_none : (test : ℕ → Bool) (n : ℕ) → n ≡ 64 → lowest_below n test ≡ None → lowest test ≡ None
unfolding lowest
lowest_none test n e h = subst (λ k. lowest_below k test ≡ None) e h
