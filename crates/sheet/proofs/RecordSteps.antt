-- Records read and taken in one after another make what the specification of reading says.
use Rattle.std.proofs.Common.{◌≡◌, ℕ, ◌+◌, ◌<◌, ◌≤◌, List, [], ◌∷◌, ◌++◌, length, get_or, drop, Some, None, Ok, Err, Option, Result, sym, refl, ap, ◌∙◌, ⊎_elim}
use Rattle.std.proofs.lemmas.List.{at_drop_all, at_drop_more, drop-drop}
use Rattle.std.proofs.lemmas.Bool.{cases_lt}
use Rattle.graph.specs.declared.fault.Cause.{Cause}
use Rattle.graph.specs.declared.fault.Fault.{Fault}
use Rattle.graph.specs.Graphs.{link_refusal, live_refusal, stage_refusal}
use Rattle.sheet_format.specs.Entries.{Entry, stage, link, live}
use Rattle.sheet_format.specs.Layout.{Contents}
use Rattle.sheet_format.specs.Reading.{made_or, record_of, records_from, taken_in, then}
use Rattle.sheet_format.proofs.Records.{skipped}
use Rattle.sheet.specs.Records.{next_of}
use Rattle.sheet.proofs.Records.{next_end, next_here}

-- ---- results told apart
pub ok_not_err : {A B : Type 0} (x : A) (f : Fault) → ◌≡◌ {A = Result A Fault} (Ok x) (Err f) → B
ok_not_err x f e = cc

pub same_ok : {A : Type 0} (x y : A) → ◌≡◌ {A = Result A Fault} (Ok x) (Ok y) → x ≡ y
same_ok x y e = cc

-- a step that is done was done by both its parts
pub then_ok : {A B : Type 0} (r : Result A Fault) (f : A → Result B Fault) (y : B) → then r f ≡ Ok y → (x : A) × (r ≡ Ok x) × (f x ≡ Ok y)
then_ok (Ok x) f y e = (x, refl, e)
then_ok (Err h) f y e = ok_not_err y h (sym e)

pub found_none : (r : Result Entry Fault) → then r (λ e. Ok (Some e)) ≡ Ok None → ⊥
found_none (Ok x) e = cc
found_none (Err h) e = cc

pub found_fault : (r : Result Entry Fault) (f : Fault) → then r (λ e. Ok (Some e)) ≡ Err f → r ≡ Err f
found_fault (Ok x) f e = cc
found_fault (Err h) f e = cc

pub found_some : (r : Result Entry Fault) (x : Entry) → then r (λ e. Ok (Some e)) ≡ Ok (Some x) → r ≡ Ok x
found_some (Ok y) x e = cc
found_some (Err h) x e = cc

some_not_none : (x : Entry) → ◌≡◌ {A = Result (Option Entry) Fault} (Ok None) (Ok (Some x)) → ⊥
some_not_none x e = cc

-- ---- the next record, and what reading makes of it
module _ (w p : ℕ) (sheet : List ℕ) (c : Contents) where
  -- reading goes on after the record whose length byte is at p
  abbrev pub on : Entry → Result Contents Fault
  on e = then (taken_in c e (p + 1)) (λ d. records_from w (p + 1 + get_or sheet p 0) 0 (drop (p + 1 + get_or sheet p 0) sheet) d)

  here : p < length sheet → records_from w p 0 (drop p sheet) c ≡ then (record_of w p (get_or sheet p 0) (drop (p + 1) sheet)) on
  unfolding records_from
  here h =
      at_drop_more (λ bs. records_from w p 0 bs c) sheet p 0 h
      ∙ ap (λ (f : Contents → Result Contents Fault). then (record_of w p (get_or sheet p 0) (drop (p + 1) sheet)) (λ e. then (taken_in c e (p + 1)) f))
      (λ i d. (skipped w (get_or sheet p 0) (drop (p + 1) sheet) (p + 1) d ∙ ap (λ bs. records_from w (p + 1 + get_or sheet p 0) 0 bs d) (drop-drop (get_or sheet p 0) (p + 1) sheet)) i)

  pub next_none : next_of w p (drop p sheet) ≡ Ok None → records_from w p 0 (drop p sheet) c ≡ Ok c
  unfolding records_from
  next_none e =
      ⊎_elim (λ (h : p < length sheet). absurd (found_none _ (sym (next_here w p sheet h) ∙ e)))
      (λ (h : length sheet ≤ p). at_drop_all (λ bs. records_from w p 0 bs c) sheet p h) (cases_lt p (length sheet))

  pub next_fault : (f : Fault) → next_of w p (drop p sheet) ≡ Err f → records_from w p 0 (drop p sheet) c ≡ Err f
  next_fault f e =
      ⊎_elim (λ (h : p < length sheet). here h ∙ ap (λ r. then r on) (found_fault _ f (sym (next_here w p sheet h) ∙ e)))
      (λ (h : length sheet ≤ p). ok_not_err None f (next_end w p sheet h ∙ e)) (cases_lt p (length sheet))

  pub next_within : (e : Entry) → next_of w p (drop p sheet) ≡ Ok (Some e) → p < length sheet
  next_within e q =
      ⊎_elim (λ (h : p < length sheet). h) (λ (h : length sheet ≤ p). absurd (some_not_none e (next_end w p sheet h ∙ q))) (cases_lt p (length sheet))

  pub next_record : (e : Entry) → next_of w p (drop p sheet) ≡ Ok (Some e) → records_from w p 0 (drop p sheet) c ≡ on e
  next_record e q =
      let h = next_within e q in
      here h ∙ ap (λ r. then r on) (found_some _ e (sym (next_here w p sheet h) ∙ q))

-- ---- price fields and names, as records are taken in
abbrev pub fields_with : Contents → Entry → List (List ℕ)
fields_with c (stage field name) = c.fields ++ field ∷ []
fields_with c (link u v) = c.fields
fields_with c (live s) = c.fields

abbrev pub names_with : Contents → Entry → List (List ℕ)
names_with c (stage field name) = c.names ++ name ∷ []
names_with c (link u v) = c.names
names_with c (live s) = c.names

made_is : (o : Option Cause) (place : ℕ) (made d : Contents) → made_or o place made ≡ Ok d → d ≡ made
made_is None place made d e = sym (same_ok made d e)
made_is (Some cause) place made d e = ok_not_err d _ (sym e)

pub taken_fields : (c d : Contents) (e : Entry) (place : ℕ) → taken_in c e place ≡ Ok d → d.fields ≡ fields_with c e
taken_fields c d (stage field name) place q = ap (λ x. x.fields) (made_is (stage_refusal c.graph) place _ d q)
taken_fields c d (link u v) place q = ap (λ x. x.fields) (made_is (link_refusal c.graph u v) place _ d q)
taken_fields c d (live s) place q = ap (λ x. x.fields) (made_is (live_refusal c.graph s) place _ d q)

pub taken_names : (c d : Contents) (e : Entry) (place : ℕ) → taken_in c e place ≡ Ok d → d.names ≡ names_with c e
taken_names c d (stage field name) place q = ap (λ x. x.names) (made_is (stage_refusal c.graph) place _ d q)
taken_names c d (link u v) place q = ap (λ x. x.names) (made_is (link_refusal c.graph u v) place _ d q)
taken_names c d (live s) place q = ap (λ x. x.names) (made_is (live_refusal c.graph s) place _ d q)
