-- What lists of entries say when one follows the other.
use Rattle.std.proofs.Common.{◌≡◌, ℕ, ◌+◌, Bool, true, false, ◌&&◌, ◌||◌, eqb, ◌⊎◌, ◌↔◌, List, [], ◌∷◌, ◌++◌, sym, refl, ap, ◌∙◌, subst, inl, inr, append_assoc, arith}
use Rattle.std.proofs.lemmas.Bool.{cases_eq, eq-eqb, ne_eqb, or_from, or_parts}
use Rattle.std.proofs.lemmas.Bool.Decides.{nat_tests}
use Rattle.sheet_format.specs.Entries.{Entry, stage, link, live, record_bytes, all_bytes, AllFormed, stages_in, fields_in, names_in, links_in, live_in}
use Rattle.sheet_format.specs.Layout.{Earlier, Once}

pub bytes_join : (es fs : List Entry) → all_bytes (es ++ fs) ≡ all_bytes es ++ all_bytes fs
bytes_join [] fs = refl
bytes_join (e ∷ es) fs = ap (λ x. record_bytes e ++ x) (bytes_join es fs) ∙ sym (append_assoc (record_bytes e) (all_bytes es) (all_bytes fs))

pub stages_join : (es fs : List Entry) → stages_in (es ++ fs) ≡ stages_in es + stages_in fs
stages_join [] fs = omega arith
stages_join (stage field name ∷ es) fs = omega (arith, stages_join es fs)
stages_join (link u v ∷ es) fs = stages_join es fs
stages_join (live s ∷ es) fs = stages_join es fs

pub fields_join : (es fs : List Entry) → fields_in (es ++ fs) ≡ fields_in es ++ fields_in fs
fields_join [] fs = refl
fields_join (stage field name ∷ es) fs = ap (λ x. field ∷ x) (fields_join es fs)
fields_join (link u v ∷ es) fs = fields_join es fs
fields_join (live s ∷ es) fs = fields_join es fs

pub names_join : (es fs : List Entry) → names_in (es ++ fs) ≡ names_in es ++ names_in fs
names_join [] fs = refl
names_join (stage field name ∷ es) fs = ap (λ x. name ∷ x) (names_join es fs)
names_join (link u v ∷ es) fs = names_join es fs
names_join (live s ∷ es) fs = names_join es fs

or_assoc : (x y z : Bool) → (x || (y || z)) ≡ (x || y || z)
or_assoc true y z = refl
or_assoc false y z = refl

pub links_join : (es fs : List Entry) (a b : ℕ) → links_in (es ++ fs) a b ≡ (links_in es a b || links_in fs a b)
links_join [] fs a b = refl
links_join (stage field name ∷ es) fs a b = links_join es fs a b
links_join (link u v ∷ es) fs a b = ap (λ x. eqb a u && eqb b v || x) (links_join es fs a b) ∙ or_assoc (eqb a u && eqb b v) (links_in es a b) (links_in fs a b)
links_join (live s ∷ es) fs a b = links_join es fs a b

pub live_join : (es fs : List Entry) (a : ℕ) → live_in (es ++ fs) a ≡ (live_in es a || live_in fs a)
live_join [] fs a = refl
live_join (stage field name ∷ es) fs a = live_join es fs a
live_join (link u v ∷ es) fs a = live_join es fs a
live_join (live s ∷ es) fs a = ap (λ x. eqb a s || x) (live_join es fs a) ∙ or_assoc (eqb a s) (live_in es a) (live_in fs a)

pub formed_join : (width : ℕ) (es fs : List Entry) → AllFormed width (es ++ fs) ↔ (AllFormed width es × AllFormed width fs)
formed_join width [] fs = (λ h. (tt, h), λ h. h.1)
formed_join width (e ∷ es) fs =
    let more = formed_join width es fs in
    (λ h. let p = more.0 h.1 in ((h.0, p.0), p.1), λ h. (h.0.0, more.1 (h.0.1, h.1)))

pub earlier_join : (n : ℕ) (es fs : List Entry) → Earlier n (es ++ fs) ↔ (Earlier n es × Earlier (n + stages_in es) fs)
earlier_join n [] fs =
    let none : n + 0 ≡ n = omega arith in
    (λ h. (tt, subst (λ k. Earlier k fs) (sym none) h), λ h. subst (λ k. Earlier k fs) none h.1)
earlier_join n (stage field name ∷ es) fs =
    let more = earlier_join (n + 1) es fs in
    let one : (n + 1) + stages_in es ≡ n + (1 + stages_in es) = omega arith in (
      λ h. let p = more.0 h in (p.0, subst (λ k. Earlier k fs) one p.1),
      λ h. more.1 (h.0, subst (λ k. Earlier k fs) (sym one) h.1),
    )
earlier_join n (link u v ∷ es) fs =
    let more = earlier_join n es fs in
    (λ h. let p = more.0 h.1 in ((h.0, p.0), p.1), λ h. (h.0.0, more.1 (h.0.1, h.1)))
earlier_join n (live s ∷ es) fs =
    let more = earlier_join n es fs in
    (λ h. let p = more.0 h.1 in ((h.0, p.0), p.1), λ h. (h.0.0, more.1 (h.0.1, h.1)))

-- no link and no mark of the one is in the other
abbrev pub Apart : List Entry → List Entry → Type 0
Apart es fs = ((a b : ℕ) → (links_in es a b && links_in fs a b) ≡ false) × ((a : ℕ) → (live_in es a && live_in fs a) ≡ false)

apart_link : (F : ℕ → ℕ → Bool) (u v a b : ℕ) (x : Bool) → F u v ≡ false → (x && F a b) ≡ false → ((eqb a u && eqb b v || x) && F a b) ≡ false
apart_link F u v a b x none rest = go (cases_eq a u) (cases_eq b v)
  where
    go : (a ≡ u) ⊎ (a ≡ u → ⊥) → (b ≡ v) ⊎ (b ≡ v → ⊥) → ((eqb a u && eqb b v || x) && F a b) ≡ false
    go (inl p) (inl q) = let f : F a b ≡ false = rw (p, q) none in rw f (grind arith)
    go (inl p) (inr q) = rw (ne_eqb b v q) (grind (arith, nat_tests))
    go (inr p) q = rw (ne_eqb a u p) rest

apart_mark : (F : ℕ → Bool) (s a : ℕ) (x : Bool) → F s ≡ false → (x && F a) ≡ false → ((eqb a s || x) && F a) ≡ false
apart_mark F s a x none rest = go (cases_eq a s)
  where
    go : (a ≡ s) ⊎ (a ≡ s → ⊥) → ((eqb a s || x) && F a) ≡ false
    go (inl p) = let f : F a ≡ false = rw p none in rw f (grind arith)
    go (inr p) = rw (ne_eqb a s p) rest

drop_or : (t x y : Bool) → ((t || x) && y) ≡ false → (x && y) ≡ false
drop_or true true y h = h
drop_or true false y h = refl
drop_or false x y h = h

second_false : (t x y : Bool) → t ≡ true → ((t || x) && y) ≡ false → y ≡ false
second_false true x y e h = h
second_false false x y e h = grind arith

pub once_join : (es fs : List Entry) → Once (es ++ fs) ↔ (Once es × Once fs × Apart es fs)
once_join [] fs = (λ h. (tt, h, (λ a b. refl, λ a. refl)), λ h. h.1)
once_join (stage field name ∷ es) fs = once_join es fs
once_join (link u v ∷ es) fs =
    let more = once_join es fs in (
      λ h.
          let p = more.0 h.1 in
          let q = or_parts (links_in es u v) (links_in fs u v) (sym (links_join es fs u v) ∙ h.0) in
          ((q.0, p.0), p.1, (λ a b. apart_link (links_in fs) u v a b (links_in es a b) q.1 (p.2.0 a b), p.2.1)),
      λ h.
          let here : (eqb u u && eqb v v) ≡ true = rw (eq-eqb u u refl, eq-eqb v v refl) in (
            links_join es fs u v ∙ or_from (links_in es u v) (links_in fs u v) h.0.0 (second_false (eqb u u && eqb v v) (links_in es u v) (links_in fs u v) here (h.2.0 u v)),
            more.1 (h.0.1, h.1, (λ a b. drop_or (eqb a u && eqb b v) (links_in es a b) (links_in fs a b) (h.2.0 a b), h.2.1)),
          ),
    )
once_join (live s ∷ es) fs =
    let more = once_join es fs in (
      λ h.
          let p = more.0 h.1 in
          let q = or_parts (live_in es s) (live_in fs s) (sym (live_join es fs s) ∙ h.0) in
          ((q.0, p.0), p.1, (p.2.0, λ a. apart_mark (live_in fs) s a (live_in es a) q.1 (p.2.1 a))),
      λ h. (
        live_join es fs s ∙ or_from (live_in es s) (live_in fs s) h.0.0 (second_false (eqb s s) (live_in es s) (live_in fs s) (eq-eqb s s refl) (h.2.1 s)),
        more.1 (h.0.1, h.1, (h.2.0, λ a. drop_or (eqb a s) (live_in es a) (live_in fs a) (h.2.1 a))),
      ),
    )
