-- The marks of a word under the operations on words: its bits.
use Rattle.std.proofs.Common.{◌≡◌, ℕ, ◌-◌, ◌*◌, ◌/◌, ◌%◌, ◌^◌, ◌<◌, ◌≤◌, true, false, not, ◌&&◌, ◌||◌, eqb, ltb, ◌≢◌, ◌⊎◌, cond, sym, ap, ◌∙◌, inl, inr, ⊎_elim, arith}
use lib.Bits.{and_le_l, and_lt, or_lt, bit_and, bit_or}
use Rattle.std.specs.Int.{bit_at, w64}
use Rattle.std.proofs.lemmas.Bool.{cases_Bool, cases_eq, cases_lt, both_ways, lt-ltb, ne_eqb}
use Rattle.std.proofs.lemmas.Bool.Decides.{nat_tests}
use Rattle.std.proofs.lemmas.Nat.{one_shl}
use Rattle.std.proofs.lemmas.Nat.Bits.{bit_at-lt, bit_at_above, bit_at_and, bit_at_not, bit_at_ones, bit_at_ones_above, bit_at_or, bit_at-pow_other, bit_at-pow_same, bit_at-zero, same_from_bits_below, shr_and_one}
use Rattle.graph.specs.Marks.{marked}

-- a bit is 1 or 0
bit_is : (a s : ℕ) → bit_at a s ≡ cond (marked a s) 1 0
bit_is a s = let l = bit_at-lt a s in grind (arith, nat_tests)

-- of two bits, each 0 or 1: `&` is 1 where both are, `|` where one is
bit_and_lem : (x y : ℕ) → (x ≡ 0) ⊎ (x ≡ 1) → (y ≡ 0) ⊎ (y ≡ 1) → eqb (bit_and x y) 1 ≡ (eqb x 1 && eqb y 1)
bit_and_lem x y (inl e) f = rw e
bit_and_lem x y (inr e) (inl f) = rw (e, f)
bit_and_lem x y (inr e) (inr f) = rw (e, f)

bit_or_lem : (x y : ℕ) → (x ≡ 0) ⊎ (x ≡ 1) → (y ≡ 0) ⊎ (y ≡ 1) → eqb (bit_or x y) 1 ≡ (eqb x 1 || eqb y 1)
bit_or_lem x y (inl e) (inl f) = rw (e, f)
bit_or_lem x y (inl e) (inr f) = rw (e, f)
bit_or_lem x y (inr e) (inl f) = rw (e, f)
bit_or_lem x y (inr e) (inr f) = rw (e, f)

pub marked_and : (a b s : ℕ) → marked (bit_and a b) s ≡ (marked a s && marked b s)
marked_and a b s = let e = bit_at_and a b s in grind (arith, nat_tests)

pub marked_or : (a b s : ℕ) → marked (bit_or a b) s ≡ (marked a s || marked b s)
marked_or a b s = let e = bit_at_or a b s in grind (arith, nat_tests)

pub marked_one : (v s : ℕ) → marked (2 ^ v) s ≡ eqb s v
marked_one v s =
    ⊎_elim
    (λ (e : s ≡ v). let b : bit_at (2 ^ v) s ≡ 1 = rw e (bit_at-pow_same v) in grind (arith, nat_tests))
    (λ (n : s ≢ v). let b = bit_at-pow_other v s n in grind (arith, nat_tests))
    (cases_eq s v)

pub marked_none : (s : ℕ) → marked 0 s ≡ false
marked_none s = ap (λ b. eqb b 1) (bit_at-zero s)

-- past 64 a word has no mark
pub marked_past : (a s : ℕ) → a < 2 ^ 64 → 64 ≤ s → marked a s ≡ false
marked_past a s h l = ap (λ b. eqb b 1) (bit_at_above a 64 s h l)

-- a word marks stages below 64 alone
pub mark_below : (a s : ℕ) → a < 2 ^ 64 → marked a s ≡ true → s < 64
mark_below a s h t = ⊎_elim (λ (l : s < 64). l) (λ (l : 64 ≤ s). absurd (both_ways _ (marked_past a s h l) t)) (cases_lt s 64)

-- `!a`
pub marked_flip : (a s : ℕ) → a < 2 ^ 64 → s < 64 → marked ((2 ^ 64 - 1) - a) s ≡ not (marked a s)
marked_flip a s h l = let e = bit_at_not w64 a s h l in let k = bit_at-lt a s in grind (arith, nat_tests)

-- `a & !b`
pub marked_minus : (a b s : ℕ) → a < 2 ^ 64 → b < 2 ^ 64 → marked (bit_and a ((2 ^ 64 - 1) - b)) s ≡ (marked a s && not (marked b s))
marked_minus a b s ha hb =
    ⊎_elim
    (λ (l : s < 64). marked_and a _ s ∙ ap (λ x. marked a s && x) (marked_flip b s hb l))
    (λ (l : 64 ≤ s). marked_and a _ s ∙ rw (marked_past a s ha l))
    (cases_lt s 64)

-- `a | 1 << v`
pub marked_set : (a v s : ℕ) → marked (bit_or a (2 ^ v)) s ≡ (marked a s || eqb s v)
marked_set a v s = marked_or a _ s ∙ ap (λ x. marked a s || x) (marked_one v s)

-- `1 << s`
pub mark_is : (s : ℕ) → s < 64 → (t : ℕ) → marked ((1 * 2 ^ s) % 2 ^ 64) t ≡ (eqb t s && ltb s 64)
mark_is s h t = rw (one_shl s 64 h, marked_one s t, lt-ltb s 64 h) (grind (arith, nat_tests))

-- `a >> s & 1`
pub marked_test : (a s : ℕ) → eqb (bit_and (a / 2 ^ s) 1) 1 ≡ marked a s
marked_test a s = ap (λ x. eqb x 1) (shr_and_one a s)

-- the word of the stages below n
pub marked_below : (n s : ℕ) → marked (2 ^ n - 1) s ≡ ltb s n
marked_below n s =
    ⊎_elim
    (λ (l : s < n). let b = bit_at_ones n s l in grind (arith, nat_tests))
    (λ (l : n ≤ s). let b = bit_at_ones_above n s l in grind (arith, nat_tests))
    (cases_lt s n)

-- `(1 << n) - 1`
pub below_is : (n s : ℕ) → n < 64 → marked ((1 * 2 ^ n) % 2 ^ 64 - 1) s ≡ (ltb s n && ltb s 64)
below_is n s h = rw (one_shl n 64 h, marked_below n s) (grind (arith, nat_tests))

-- `MAX`
pub all_is : (n s : ℕ) → 64 ≤ n → marked (2 ^ 64 - 1) s ≡ (ltb s n && ltb s 64)
all_is n s h = rw (marked_below 64 s) (grind (arith, nat_tests))

-- two words with the same marks are equal
pub same_words : (a b : ℕ) → a < 2 ^ 64 → b < 2 ^ 64 → ((s : ℕ) → marked a s ≡ marked b s) → a ≡ b
same_words a b ha hb f = same_from_bits_below 64 a b ha hb (λ s h. rw (bit_is a s, bit_is b s, f s))

-- `a & !b == 0` says that each mark of a is one of b
pub within_marks : (a b : ℕ) → a < 2 ^ 64 → b < 2 ^ 64 → ((s : ℕ) → s < 64 → marked a s ≡ true → marked b s ≡ true) → bit_and a ((2 ^ 64 - 1) - b) ≡ 0
within_marks a b ha hb f =
    same_words _ 0 (and_lt 64 a _ ha (omega arith)) (omega arith)
    (λ s. marked_minus a b s ha hb ∙ none s (cases_Bool (marked a s)) ∙ sym (marked_none s))
  where
    none : (s : ℕ) → (marked a s ≡ true) ⊎ (marked a s ≡ false) → (marked a s && not (marked b s)) ≡ false
    none s (inl t) = rw (t, f s (mark_below a s ha t) t)
    none s (inr e) = rw e

pub marks_within : (a b : ℕ) → b < 2 ^ 64 → bit_and a ((2 ^ 64 - 1) - b) ≡ 0 → (s : ℕ) → s < 64 → marked a s ≡ true → marked b s ≡ true
marks_within a b hb z s h t =
    let e : (marked a s && not (marked b s)) ≡ false = ap (λ x. marked a s && x) (sym (marked_flip b s hb h)) ∙ sym (marked_and a ((2 ^ 64 - 1) - b) s) ∙ ap (λ x. marked x s) z ∙ marked_none s in
    grind (arith, nat_tests)

-- `a | b` fits a word
pub or_fits : (a b : ℕ) → a < 2 ^ 64 → b < 2 ^ 64 → bit_or a b < 2 ^ 64
or_fits a b ha hb = or_lt 64 a b ha hb

-- `a & m != 0`, where m marks s alone, or nothing for s from 64 on
pub has_mark : (a m s : ℕ) → a < 2 ^ 64 → ((t : ℕ) → marked m t ≡ (eqb t s && ltb s 64)) → not (eqb (bit_and a m) 0) ≡ marked a s
has_mark a m s h one = go (cases_Bool (marked a s))
  where
    go : (marked a s ≡ true) ⊎ (marked a s ≡ false) → not (eqb (bit_and a m) 0) ≡ marked a s
    go (inl t) =
        let k = mark_below a s h t in
        let e : marked (bit_and a m) s ≡ true = rw (marked_and a m s, t, one s, lt-ltb s 64 k) (grind (arith, nat_tests)) in
        rw (t) (rw (ne_eqb (bit_and a m) 0 (λ z. both_ways _ (ap (λ x. marked x s) z ∙ marked_none s) e)))
    go (inr f) =
        let z : bit_and a m ≡ 0 = same_words _ 0 (omega (arith, and_le_l a m)) (omega arith) (λ t. rw (marked_and a m t, one t, marked_none t) (none t (cases_eq t s))) in
        rw (f, z)
      where
        none : (t : ℕ) → (t ≡ s) ⊎ (t ≢ s) → (marked a t && (eqb t s && ltb s 64)) ≡ false
        none t (inl e) = rw (e, f)
        none t (inr n) = rw (ne_eqb t s n) (grind (arith, nat_tests))

-- what the operations on words do to their marks
pub ruleset marks = (has_mark, marked_and, marked_or, marked_minus, marked_past, marked_none, marked_test, below_is, all_is, mark_is, or_fits)
