-- What a record's bytes say: the entry whose body they are, or why there is none.
use Rattle.std.proofs.Common.{◌≡◌, ℕ, ◌+◌, ◌-◌, ◌<◌, ◌≤◌, Bool, true, false, ◌&&◌, eqb, ltb, leb, ◌⊎◌, List, [], ◌∷◌, ◌++◌, length, take, drop, Some, None, Ok, Err, Option, Result, sym, refl, ap, ◌∙◌, ap₂, inl, inr, ⊎_elim, arith}
use Rattle.std.proofs.lemmas.List.{drop_at, length-append, length-drop, length-take-le, take-append-drop, take_at}
use Rattle.std.proofs.lemmas.Bool.{and_cases, and_from, and_parts, eqb-true, leb-false, leb-true, le-leb, lt-ltb, ltb-false, ltb-true}
use Rattle.graph.specs.declared.fault.Cause.TheVariants.{RecordLength, RecordBody}
use Rattle.graph.specs.declared.fault.Fault.{Fault}
use Rattle.graph.specs.declared.fault.Layer.TheVariants.{Record}
use Rattle.sheet_format.specs.Entries.{Entry, stage, link, live, body, printable, Formed}
use Rattle.sheet_format.specs.Faulty.{at}
use Rattle.sheet_format.specs.Reading.{by_tag, check, entry_of, formed_or, is_stage, record_of, stage_of, then}

-- the body of a formed entry says that entry
pub entry_of_body : (width : ℕ) (e : Entry) → Formed width e → entry_of width (body e) ≡ Some e
entry_of_body width (stage field name) f =
    let front : take width (field ++ name) ≡ field = take_at field name width f.0 in
    let back : drop width (field ++ name) ≡ name = drop_at field name width f.0 in
    let long : length (field ++ name) ≡ length field + length name = length-append field name in
    let is : is_stage width (field ++ name) ≡ true =
    and_from (ltb width (length (field ++ name)) && leb (length (field ++ name)) (width + 32)) (printable (drop width (field ++ name)))
    (and_from (ltb width (length (field ++ name))) (leb (length (field ++ name)) (width + 32)) (lt-ltb width (length (field ++ name)) (omega (arith, f.0, f.1))) (le-leb (length (field ++ name)) (width + 32) (omega (arith, f.0, f.2)))) (ap printable back ∙ f.3) in
    ap (λ b. stage_of b width (field ++ name)) is ∙ ap₂ (λ x y. Some (stage x y)) front back
entry_of_body width (link u v) f = refl
entry_of_body width (live s) f = refl

-- what a body says is a formed entry with that body
abbrev Told : ℕ → List ℕ → Option Entry → Type 0
Told width bs None = Unit {0}
Told width bs (Some e) = Formed width e × (body e ≡ bs)

told_stage : (width tag : ℕ) (bs : List ℕ) → tag ≡ 1 → (b : Bool) → is_stage width bs ≡ b → Told width (tag ∷ bs) (stage_of b width bs)
told_stage width tag bs t false e = tt
told_stage width tag bs t true e =
    let p = and_parts (ltb width (length bs) && leb (length bs) (width + 32)) (printable (drop width bs)) e in
    let q = and_parts (ltb width (length bs)) (leb (length bs) (width + 32)) p.0 in
    let low : width < length bs = ltb-true width (length bs) q.0 in
    let high : length bs ≤ width + 32 = leb-true (length bs) (width + 32) q.1 in
    let left : length (drop width bs) ≡ length bs - width = length-drop width bs in (
      (length-take-le width bs (omega arith), omega arith, omega arith, p.1),
      ap₂ (λ x y. x ∷ y) (sym t) (take-append-drop width bs),
    )

told_by_tag : (width tag : ℕ) (x y z : Bool) → eqb tag 1 ≡ x → eqb tag 2 ≡ y → eqb tag 3 ≡ z → (bs : List ℕ) → Told width (tag ∷ bs) (by_tag width x y z bs)
told_by_tag width tag true y z p q r bs = told_stage width tag bs (eqb-true tag 1 p) (is_stage width bs) refl
told_by_tag width tag false true z p q r [] = tt
told_by_tag width tag false true z p q r (u ∷ []) = tt
told_by_tag width tag false true z p q r (u ∷ (v ∷ [])) = (tt, ap (λ t. t ∷ (u ∷ (v ∷ []))) (sym (eqb-true tag 2 q)))
told_by_tag width tag false true z p q r (u ∷ (v ∷ (w ∷ ws))) = tt
told_by_tag width tag false false true p q r [] = tt
told_by_tag width tag false false true p q r (s ∷ []) = (tt, ap (λ t. t ∷ (s ∷ [])) (sym (eqb-true tag 3 r)))
told_by_tag width tag false false true p q r (s ∷ (t ∷ ts)) = tt
told_by_tag width tag false false false p q r bs = tt

told : (width : ℕ) (bs : List ℕ) → Told width bs (entry_of width bs)
told width [] = tt
told width (tag ∷ bs) = told_by_tag width tag (eqb tag 1) (eqb tag 2) (eqb tag 3) refl refl refl bs

-- what a record is found to be, before the bytes that follow its length byte
pub data Judged (width place len : ℕ) (more : List ℕ) : Result Entry Fault → Type 0 where
  ill_sized : (len ≡ 0) ⊎ (length more < len) → Judged width place len more (Err (at RecordLength Record place))
  ill_formed : 1 ≤ len → len ≤ length more → ((e : Entry) → Formed width e → body e ≡ take len more → ⊥)
      → Judged width place len more (Err (at RecordBody Record (place + 1)))
  formed : (e : Entry) → 1 ≤ len → len ≤ length more → Formed width e → body e ≡ take len more → Judged width place len more (Ok e)

pub judged : (width place len : ℕ) (more : List ℕ) → Judged width place len more (record_of width place len more)
judged width place len more = sized (ltb 0 len && leb len (length more)) refl
  where
    named : 1 ≤ len → len ≤ length more → (o : Option Entry) → entry_of width (take len more) ≡ o → Told width (take len more) o
        → Judged width place len more (formed_or o (place + 1))
    named low high None e t =
        ill_formed low high (λ d f is. let z : ◌≡◌ {A = ℕ} 0 1 = cc (entry_of_body width d f, ap (entry_of width) is) in omega arith)
    named low high (Some d) e t = formed d low high t.0 t.1

    sized : (b : Bool) → (ltb 0 len && leb len (length more)) ≡ b
        → Judged width place len more (then (check b (at RecordLength Record place)) (λ _. formed_or (entry_of width (take len more)) (place + 1)))
    sized true e =
        let p = and_parts (ltb 0 len) (leb len (length more)) e in
        named (ltb-true 0 len p.0) (leb-true len (length more) p.1) (entry_of width (take len more)) refl (told width (take len more))
    sized false e =
        ill_sized (⊎_elim (λ (h : ltb 0 len ≡ false). let k = ltb-false 0 len h in inl (omega arith)) (λ (h : leb len (length more) ≡ false). inr (leb-false len (length more) h)) (and_cases (ltb 0 len) (leb len (length more)) e))

-- a record is found to be one thing alone
pub judged_one : {width place len : ℕ} {more : List ℕ} {r q : Result Entry Fault} → Judged width place len more r → Judged width place len more q → r ≡ q
judged_one (ill_sized x) (ill_sized y) = refl
judged_one (ill_sized x) (ill_formed l h n) = absurd (omega arith)
judged_one (ill_sized x) (formed e l h f is) = absurd (omega arith)
judged_one (ill_formed l h n) (ill_sized y) = absurd (omega arith)
judged_one (ill_formed l h n) (ill_formed l' h' n') = refl
judged_one (ill_formed l h n) (formed e l' h' f is) = absurd (n e f is)
judged_one (formed e l h f is) (ill_sized y) = absurd (omega arith)
judged_one (formed e l h f is) (ill_formed l' h' n) = absurd (n e f is)
judged_one {width = width} (formed e l h f is) (formed d l' h' f' is') =
    let same : Some e ≡ Some d = sym (entry_of_body width e f) ∙ ap (entry_of width) (is ∙ sym is') ∙ entry_of_body width d f' in
    ap Ok (cc)
