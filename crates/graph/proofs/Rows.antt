-- Rows of marks: what they link, with one row changed, made one after another, and made by a closure.
use Rattle.std.proofs.Common.{◌≡◌, ℕ, zero, suc, [], ◌∷◌, ◌+◌, ◌-◌, ◌^◌, ◌<◌, ◌≤◌, Bool, false, cond, ◌&&◌, eqb, ltb, ◌≢◌, ◌⊎◌, List, length, get_or, set, replicate, sym, ap, subst, ◌∙◌, inl, inr, ⊎_elim, le_refl, arith}
use lib.Bits.{bit_and, bit_or, and_lt, or_lt}
use Rattle.std.proofs.lemmas.Nat.{pow_below}
use Rattle.std.proofs.lemmas.List.{ext_get_or, get_or_past, get_or-replicate, get_or-set_other, get_or-set_same, length-replicate, length-set, length-map, get_or-map, map-set}
use Rattle.std.proofs.lemmas.Bool.{cases_eq, cases_lt, eq-eqb, ne_eqb, le-ltb, lt-ltb}
use Rattle.std.proofs.lemmas.Bool.Decides.{nat_tests}
use Rattle.theory.specs.Moves.{dropped, with_link}
use denote.Param.Members.{Mut, Called}
use Rattle.std.specs.Array.{IsFromFnResult, IsFromFnResultFrom}
use Rattle.graph.specs.declared.digraph.Digraph.{Digraph}
use Rattle.graph.specs.declared.stage_set.StageSet.{StageSet}
use Rattle.graph.specs.Marks.{linked, marked}
use Rattle.graph.specs.StageSets.{stages, words}
use Rattle.graph.proofs.Marks.{marked_minus, marked_none, marked_one, marked_past, marked_set, same_words}

-- there are 64 rows, each a word
pub record Rows (xs : List ℕ) : Type 0 where
  pub long : length xs ≡ 64
  pub fit : (u : ℕ) → get_or xs u 0 < 2 ^ 64

-- the first u rows link as F does, and the others have no link
pub record Made (F : ℕ → ℕ → Bool) (xs : List ℕ) (u : ℕ) : Type 0 where
  pub so_far : (a b : ℕ) → linked xs a b ≡ (ltb a u && F a b)
  pub rows : Rows xs

get_or_zeros : (k : ℕ) → ◌≡◌ {A = ℕ} (get_or (replicate 64 0) k 0) 0
get_or_zeros k = ⊎_elim (λ (l : k < 64). get_or-replicate 64 k 0 0 l) (λ (l : 64 ≤ k). get_or_past (replicate 64 0) k 0 (omega (arith, length-replicate {A = ℕ} 64 0))) (cases_lt k 64)

pub no_rows : Rows (replicate 64 0)
no_rows = record { long = length-replicate {A = ℕ} 64 0; fit = λ u. rw (get_or_zeros u) (omega arith) }

pub unlinked_rows : (a b : ℕ) → linked (replicate 64 0) a b ≡ false
unlinked_rows a b = ap (λ x. marked x b) (get_or_zeros a) ∙ marked_none b

-- a row is written
pub set_row : (xs : List ℕ) (u x : ℕ) → Rows xs → u < 64 → (a b : ℕ) → linked (set xs u x) a b ≡ cond (eqb a u) (marked x b) (linked xs a b)
set_row xs u x r h a b =
    ⊎_elim
    (λ (e : a ≡ u). ap (λ y. marked y b) (ap (λ k. get_or (set xs u x) k 0) e ∙ get_or-set_same xs u x 0 (omega (arith, r.long))) ∙ rw (eq-eqb a u e))
    (λ (n : a ≢ u). ap (λ y. marked y b) (get_or-set_other xs u a x 0 n) ∙ rw (ne_eqb a u n))
    (cases_eq a u)

pub set_rows : (xs : List ℕ) (u x : ℕ) → Rows xs → x < 2 ^ 64 → Rows (set xs u x)
set_rows xs u x r h =
    record {
      long = length-set xs u x ∙ r.long;
      fit = λ k. ⊎_elim
          (λ (e : k ≡ u). ⊎_elim
          (λ (l : u < 64). rw (e, get_or-set_same xs u x 0 (omega (arith, r.long))) h)
          (λ (l : 64 ≤ u). rw (get_or_past (set xs u x) k 0 (omega (arith, r.long, length-set xs u x))) (omega arith))
          (cases_lt u 64))
          (λ (n : k ≢ u). rw (get_or-set_other xs u k x 0 n) (r.fit k))
          (cases_eq k u);
    }

-- rows that are made one after another: none yet, one more, and all
pub made_none : (F : ℕ → ℕ → Bool) → Made F (replicate 64 0) 0
made_none F = record { so_far = λ a b. unlinked_rows a b ∙ rw (le-ltb a 0 (omega arith)); rows = no_rows }

pub made_more : (F : ℕ → ℕ → Bool) (xs : List ℕ) (u x : ℕ) → Made F xs u → u < 64 → x < 2 ^ 64 → ((b : ℕ) → marked x b ≡ F u b) → Made F (set xs u x) (u + 1)
made_more F xs u x m h small is =
    record {
      so_far = λ a b. set_row xs u x m.rows h a b ∙ step a b (cases_eq a u);
      rows = set_rows xs u x m.rows small;
    }
  where
    step : (a b : ℕ) → (a ≡ u) ⊎ (a ≢ u) → cond (eqb a u) (marked x b) (linked xs a b) ≡ (ltb a (u + 1) && F a b)
    step a b (inl e) = rw (eq-eqb a u e, lt-ltb a (u + 1) (omega arith), is b, e)
    step a b (inr n) = rw (ne_eqb a u n, m.so_far a b) (let k : ltb a u ≡ ltb a (u + 1) = grind (arith, nat_tests) in rw k)

pub made_all : (F : ℕ → ℕ → Bool) (xs : List ℕ) (u : ℕ) → Made F xs u → 64 ≤ u → ((a b : ℕ) → 64 ≤ a → F a b ≡ false) → (a b : ℕ) → linked xs a b ≡ F a b
made_all F xs u m h none a b =
    m.so_far a b
    ∙ ⊎_elim (λ (l : a < 64). rw (lt-ltb a u (omega arith))) (λ (l : 64 ≤ a). rw (none a b l) (grind (arith, nat_tests))) (cases_lt a 64)

-- no link leaves the 64 rows, and none their 64 marks
pub past_rows : (xs : List ℕ) → Rows xs → (a b : ℕ) → (64 ≤ a) ⊎ (64 ≤ b) → linked xs a b ≡ false
past_rows xs r a b (inl h) = ap (λ x. marked x b) (get_or_past xs a 0 (omega (arith, r.long))) ∙ marked_none b
past_rows xs r a b (inr h) = marked_past (get_or xs a 0) b (r.fit a) h

-- rows with the same links are equal
pub same_rows : (xs ys : List ℕ) → Rows xs → Rows ys → ((a b : ℕ) → linked xs a b ≡ linked ys a b) → xs ≡ ys
same_rows xs ys r q e = ext_get_or 0 xs ys (r.long ∙ sym q.long) (λ u h. same_words (get_or xs u 0) (get_or ys u 0) (r.fit u) (q.fit u) (e u))

-- one mark more, and one less, in a row
pub with_mark_links : (xs : List ℕ) (u v : ℕ) → Rows xs → u < 64 → (a b : ℕ) → linked (set xs u (bit_or (get_or xs u 0) (2 ^ v))) a b ≡ with_link (linked xs) u v a b
with_mark_links xs u v r h a b =
    set_row xs u _ r h a b ∙ go (cases_eq a u)
  where
    go : (a ≡ u) ⊎ (a ≢ u) → cond (eqb a u) (marked (bit_or (get_or xs u 0) (2 ^ v)) b) (linked xs a b) ≡ with_link (linked xs) u v a b
    go (inl e) = rw (eq-eqb a u e, marked_set (get_or xs u 0) v b, e)
    go (inr n) = rw (ne_eqb a u n) (grind (arith, nat_tests))

pub without_mark_links : (xs : List ℕ) (u v : ℕ) → Rows xs → u < 64 → v < 64 → (a b : ℕ) → linked (set xs u (bit_and (get_or xs u 0) (2 ^ 64 - 1 - 2 ^ v))) a b ≡ dropped (linked xs) u v a b
without_mark_links xs u v r h k a b =
    set_row xs u _ r h a b ∙ go (cases_eq a u)
  where
    go : (a ≡ u) ⊎ (a ≢ u) → cond (eqb a u) (marked (bit_and (get_or xs u 0) (2 ^ 64 - 1 - 2 ^ v)) b) (linked xs a b) ≡ dropped (linked xs) u v a b
    go (inl e) = rw (eq-eqb a u e, marked_minus (get_or xs u 0) (2 ^ v) b (r.fit u) (pow_below v 64 k), marked_one v b, e)
    go (inr n) = rw (ne_eqb a u n) (grind (arith, nat_tests))

pub with_mark_rows : (xs : List ℕ) (u v : ℕ) → Rows xs → v < 64 → Rows (set xs u (bit_or (get_or xs u 0) (2 ^ v)))
with_mark_rows xs u v r k = set_rows xs u _ r (or_lt 64 _ _ (r.fit u) (pow_below v 64 k))

pub without_mark_rows : (xs : List ℕ) (u v : ℕ) → Rows xs → Rows (set xs u (bit_and (get_or xs u 0) (2 ^ 64 - 1 - 2 ^ v)))
without_mark_rows xs u v r = set_rows xs u _ r (and_lt 64 _ _ (r.fit u) (omega arith))

-- sets have their words, each of 64 marks
words_fit : (xs : List StageSet) (u : ℕ) → get_or (words xs) u 0 < 2 ^ 64
words_fit [] u = omega arith
words_fit (x ∷ xs) zero = x.fits
words_fit (x ∷ xs) (suc u) = words_fit xs u

pub rows_of_sets : (xs : List StageSet) → length xs ≡ 64 → Rows (words xs)
rows_of_sets xs e = record { long = length-map xs (λ (x : StageSet). x.word) ∙ e; fit = words_fit xs }

-- the rows of a digraph
pub rows_of : (g : Digraph) → Rows (words g.rows)
rows_of g = rows_of_sets g.rows g.long

-- the row of a stage, which links what its set has
pub row_links : (xs : List StageSet) (u : ℕ) (e : StageSet) → u < length xs → (b : ℕ) → linked (words xs) u b ≡ stages (get_or xs u e) b
row_links xs u e h b = ap (λ x. marked x b) (get_or-map (λ (x : StageSet). x.word) xs u e 0 h)

-- the same where a stage past the rows has an empty set
pub row_or_none : (xs : List StageSet) (u : ℕ) (e : StageSet) → ((b : ℕ) → stages e b ≡ false) → (b : ℕ) → stages (get_or xs u e) b ≡ linked (words xs) u b
row_or_none xs u e none b =
    ⊎_elim
    (λ (l : u < length xs). sym (row_links xs u e l b))
    (λ (l : length xs ≤ u).
    let long = length-map xs (λ (x : StageSet). x.word) in
    ap (λ x. stages x b) (get_or_past xs u e l) ∙ none b ∙ sym (marked_none b) ∙ sym (ap (λ x. marked x b) (get_or_past (words xs) u 0 (omega arith))))
    (cases_lt u (length xs))

-- rows that are all one set with no stage
pub no_links : (e : StageSet) → ((b : ℕ) → stages e b ≡ false) → (a b : ℕ) → linked (words (replicate 64 e)) a b ≡ false
no_links e none a b =
    sym (row_or_none (replicate 64 e) a e none b)
    ∙ ap (λ x. stages x b) (⊎_elim (λ (l : a < 64). get_or-replicate 64 a e e l) (λ (l : 64 ≤ a). get_or_past (replicate 64 e) a e (omega (arith, length-replicate {A = StageSet} 64 e))) (cases_lt a 64))
    ∙ none b

-- rows of which one is changed
pub row_changed : (xs : List StageSet) (u : ℕ) (x : StageSet) (F : ℕ → ℕ → Bool) → length xs ≡ 64 → u < 64 → ((b : ℕ) → stages x b ≡ F u b)
    → ((a b : ℕ) → a ≢ u → linked (words xs) a b ≡ F a b) → (a b : ℕ) → linked (words (set xs u x)) a b ≡ F a b
row_changed xs u x F n h own others a b =
    ap (λ l. linked l a b) (map-set (λ (y : StageSet). y.word) xs u x) ∙ set_row (words xs) u x.word (rows_of_sets xs n) h a b
    ∙ ⊎_elim (λ (e : a ≡ u). rw (eq-eqb a u e, e) (own b)) (λ (d : a ≢ u). rw (ne_eqb a u d) (others a b d)) (cases_eq a u)

-- rows that a closure made, which is left as it was by each call and answers the links that F gives the stage
made_from : {C : Type 0} (g : Mut C (ℕ × Unit {0}) StageSet) (f : C) (F : ℕ → ℕ → Bool)
    → ((u : ℕ) (y : StageSet) (q : C) → Called g f (u, tt) y q → ((b : ℕ) → stages y b ≡ F u b) × (q ≡ f))
    → (xs : List StageSet) (n i : ℕ) → IsFromFnResultFrom g f xs i n → (u : ℕ) → i ≤ u → u < i + n → (e : StageSet) (b : ℕ) → stages (get_or xs u e) b ≡ F u b
made_from g f F call xs zero i r u l h e b = absurd (omega arith)
made_from g f F call xs (suc n) i r u l h e b =
    let one = call i r.1 r.0 r.3 in
    ⊎_elim
    (λ (p : u ≡ i). rw (p, r.2.1 e) (one.0 b))
    (λ (p : u ≢ i). made_from g f F call xs n (i + 1) (subst (λ q. IsFromFnResultFrom g q xs (i + 1) n) one.1 r.4) u (omega arith) (omega arith) e b)
    (cases_eq u i)

pub made_rows : {C : Type 0} (g : Mut C (ℕ × Unit {0}) StageSet) (f : C) (xs : List StageSet) → IsFromFnResult g f xs 64 → (F : ℕ → ℕ → Bool)
    → ((u : ℕ) (y : StageSet) (q : C) → Called g f (u, tt) y q → ((b : ℕ) → stages y b ≡ F u b) × (q ≡ f))
    → ((a b : ℕ) → 64 ≤ a → F a b ≡ false) → (a b : ℕ) → linked (words xs) a b ≡ F a b
made_rows g f xs m F call none =
    made_all F (words xs) 64 (record { so_far = λ a b. so_far a b (cases_lt a 64); rows = rows_of_sets xs m.long }) (le_refl 64) none
  where
    so_far : (a b : ℕ) → (a < 64) ⊎ (64 ≤ a) → linked (words xs) a b ≡ (ltb a 64 && F a b)
    so_far a b (inl l) =
        let e = get_or xs a (record { word = 0; fits = omega arith }) in
        row_links xs a e (omega (arith, m.long)) b ∙ made_from g f F call xs 64 0 m.each a (omega arith) (omega arith) e b ∙ rw (lt-ltb a 64 l)
    so_far a b (inr l) = past_rows (words xs) (rows_of_sets xs m.long) a b (inl l) ∙ rw (le-ltb a 64 l)
