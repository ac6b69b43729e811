-- The stages that a sheet yields are those that its records say.
use Rattle.std.proofs.Common.{◌≡◌, ℕ, zero, suc, ◌+◌, ◌<◌, ◌≤◌, List, [], ◌∷◌, ◌++◌, length, get_or, drop, Some, None, Ok, Err, Option, Result, subst, sym, refl, ap, ◌∙◌, ⊎_elim, arith}
use Rattle.std.proofs.lemmas.List.{append_assoc, append-nil, at_drop_all, at_drop_more, drop-drop, length-drop}
use Rattle.std.proofs.lemmas.Bool.{cases_lt}
use Rattle.std.specs.Option.{option_flatten}
use Rattle.std.specs.Result.{result_ok}
use Rattle.graph.specs.declared.fault.Fault.{Fault}
use Rattle.sheet_format.specs.Entries.{Entry, stage, link, live}
use Rattle.sheet_format.specs.Layout.{Contents}
use Rattle.sheet_format.specs.Reading.{frame_of, no_contents, read_of, record_of, records_from, taken_in}
use Rattle.sheet.specs.declared.reader.Reader.{Reader}
use Rattle.sheet.specs.declared.record.Record.{Record}
use Rattle.sheet.specs.declared.record.Stage.{Stage as ToldStage}
use Rattle.sheet.specs.declared.record.Entry.{Entry as Told}
use Rattle.sheet.specs.declared.record.Entry.TheVariants.{Stage, Link, Live}
use Rattle.sheet.specs.Records.{EntryPlaced, Opened, Placed, Steps, entry_told, next_of, place_after, record_answer}
use Rattle.sheet.specs.Stages.{PlainStage, fields_of, names_of, plain_stage, stages_ahead, stages_from, with_record}
use Rattle.sheet.proofs.ReadLoop.{Over, found_entry, found_next, framed}
use Rattle.sheet.proofs.Records.{next_end, next_here}
use Rattle.sheet.proofs.RecordSteps.{fields_with, found_fault, found_none, found_some, names_with, next_within, ok_not_err, same_ok, taken_fields, taken_names, then_ok}

-- contents grew by these stages
abbrev Grew : Contents → List PlainStage → Contents → Type 0
Grew c ss d = (c.fields ++ fields_of ss ≡ d.fields) × (c.names ++ names_of ss ≡ d.names)

with_entry : (width place p : ℕ) (c t d : Contents) (e : Entry) (others : List PlainStage) → taken_in c e p ≡ Ok t → Grew t others d
    → Grew c (with_record width place (Ok e) others) d
with_entry width place p c t d e others is grew = go e (taken_fields c t e p is) (taken_names c t e p is)
  where
    go : (e : Entry) → t.fields ≡ fields_with c e → t.names ≡ names_with c e → Grew c (with_record width place (Ok e) others) d
    go (stage field name) f n = (
      sym (append_assoc c.fields (field ∷ []) (fields_of others)) ∙ ap (λ xs. xs ++ fields_of others) (sym f) ∙ grew.0,
      sym (append_assoc c.names (name ∷ []) (names_of others)) ∙ ap (λ xs. xs ++ names_of others) (sym n) ∙ grew.1,
    )
    go (link u v) f n = (ap (λ xs. xs ++ fields_of others) (sym f) ∙ grew.0, ap (λ xs. xs ++ names_of others) (sym n) ∙ grew.1)
    go (live s) f n = (ap (λ xs. xs ++ fields_of others) (sym f) ∙ grew.0, ap (λ xs. xs ++ names_of others) (sym n) ∙ grew.1)

-- records that are taken in add the stages that are yielded of them
grown : (width place left : ℕ) (bs : List ℕ) (c d : Contents) → records_from width place left bs c ≡ Ok d
    → Grew c (stages_from width place left bs) d
unfolding records_from stages_from
grown width place left [] c d e =
    let q = same_ok c d e in
    (append-nil c.fields ∙ ap (λ x. x.fields) q, append-nil c.names ∙ ap (λ x. x.names) q)
grown width place (suc left) (b ∷ bs) c d e = grown width (place + 1) left bs c d e
grown width place zero (len ∷ more) c d e =
    let x = then_ok (record_of width place len more) _ d e in
    let y = then_ok (taken_in c x.0 (place + 1)) _ d x.2 in
    let others = stages_from width (place + 1) len more in
    let g = with_entry width place (place + 1) c y.0 d x.0 others y.1 (grown width (place + 1) len more y.0 d y.2) in
    (ap (λ r. c.fields ++ fields_of (with_record width place r others)) x.1 ∙ g.0, ap (λ r. c.names ++ names_of (with_record width place r others)) x.1 ∙ g.1)

-- there are no more stages than bytes
with_one : (width place : ℕ) (r : Result Entry Fault) (others : List PlainStage) → length (with_record width place r others) ≤ 1 + length others
with_one width place (Ok (stage field name)) others = omega arith
with_one width place (Ok (link u v)) others = omega arith
with_one width place (Ok (live s)) others = omega arith
with_one width place (Err f) others = omega arith

few : (width place left : ℕ) (bs : List ℕ) → length (stages_from width place left bs) ≤ length bs
unfolding stages_from
few width place left [] = omega arith
few width place (suc left) (b ∷ bs) = let h = few width (place + 1) left bs in omega arith
few width place zero (len ∷ more) =
    let others = stages_from width (place + 1) len more in
    omega (arith, few width (place + 1) len more, with_one width place (record_of width place len more) others)

pub few_ahead : (r : Reader) (sheet : List ℕ) → r.sheet.now ≡ sheet → length (stages_ahead r) ≤ length sheet
few_ahead r sheet e = omega (arith, few r.width r.at 0 (drop r.at r.sheet.now), length-drop r.at r.sheet.now, ap length e)

-- what is left of a record is passed over
stages_skipped : (width left : ℕ) (bs : List ℕ) (place : ℕ) → stages_from width place left bs ≡ stages_from width (place + left) 0 (drop left bs)
unfolding stages_from
stages_skipped width zero bs place = let e : place ≡ place + 0 = omega arith in ap (λ p. stages_from width p 0 bs) e
stages_skipped width (suc left) [] place = refl
stages_skipped width (suc left) (b ∷ bs) place =
    let e : (place + 1) + left ≡ place + suc left = omega arith in
    stages_skipped width left bs (place + 1) ∙ ap (λ p. stages_from width p 0 (drop left bs)) e

-- ---- the next record, and the stages that are left
module _ (w p : ℕ) (sheet : List ℕ) where
  -- the stages behind the record whose length byte is at p
  abbrev behind : List PlainStage
  behind = stages_from w (p + 1 + get_or sheet p 0) 0 (drop (p + 1 + get_or sheet p 0) sheet)

  here : p < length sheet → stages_from w p 0 (drop p sheet) ≡ with_record w p (record_of w p (get_or sheet p 0) (drop (p + 1) sheet)) behind
  unfolding stages_from
  here h =
      at_drop_more (λ bs. stages_from w p 0 bs) sheet p 0 h
      ∙ ap (with_record w p (record_of w p (get_or sheet p 0) (drop (p + 1) sheet)))
      (stages_skipped w (get_or sheet p 0) (drop (p + 1) sheet) (p + 1) ∙ ap (stages_from w (p + 1 + get_or sheet p 0) 0) (drop-drop (get_or sheet p 0) (p + 1) sheet))

  after_entry : (e : Entry) → next_of w p (drop p sheet) ≡ Ok (Some e) → stages_from w p 0 (drop p sheet) ≡ with_record w p (Ok e) behind
  after_entry e q =
      let h = next_within w p sheet no_contents e q in
      here h ∙ ap (λ r. with_record w p r behind) (found_some _ e (sym (next_here w p sheet h) ∙ q))

  at_end : next_of w p (drop p sheet) ≡ Ok None → stages_from w p 0 (drop p sheet) ≡ []
  unfolding stages_from
  at_end e =
      ⊎_elim (λ (h : p < length sheet). absurd (found_none _ (sym (next_here w p sheet h) ∙ e)))
      (λ (h : length sheet ≤ p). at_drop_all (λ bs. stages_from w p 0 bs) sheet p h) (cases_lt p (length sheet))

  at_fault : (f : Fault) → next_of w p (drop p sheet) ≡ Err f → stages_from w p 0 (drop p sheet) ≡ []
  at_fault f e =
      ⊎_elim (λ (h : p < length sheet). here h ∙ ap (λ r. with_record w p r behind) (found_fault _ f (sym (next_here w p sheet h) ∙ e)))
      (λ (h : length sheet ≤ p). ok_not_err None f (next_end w p sheet h ∙ e)) (cases_lt p (length sheet))

not_none : {B : Type 0} (found : Record) → ◌≡◌ {A = Option Record} (Some found) None → B
not_none found e = let z : ◌≡◌ {A = ℕ} 0 1 = cc in absurd (omega arith)

-- what an answer of the reader holds
found_in : (x : Result (Option Record) Fault) (found : Record) → option_flatten (result_ok x) ≡ Some found → x ≡ Ok (Some found)
found_in (Ok o) found e = ap Ok e
found_in (Err f) found e = not_none found (sym e)

module _ (r s : Reader) (x : Result (Option Record) Fault) (step : Steps r s x) where
  over : Over r.sheet.now r.width r
  over = record { same_sheet = refl; same_width = refl }

  module _ (found : Record) (holds : option_flatten (result_ok x) ≡ Some found) where
    is : x ≡ Ok (Some found)
    is = found_in x found holds

    -- the reader went on after the record
    ahead_on : stages_ahead r ≡ with_record r.width r.at (Ok (entry_told found.entry)) (stages_ahead s)
    ahead_on =
        after_entry r.width r.at r.sheet.now _ (found_entry r.sheet.now r.width r s x over step found is)
        ∙ ap (with_record r.width r.at (Ok (entry_told found.entry)))
        (ap (λ at. stages_from r.width at 0 (drop at r.sheet.now)) (sym (found_next r.sheet.now r.width r s x over step found is))
        ∙ ap (λ w. stages_from w s.at 0 (drop s.at r.sheet.now)) (sym step.same_width)
        ∙ ap (λ bs. stages_from s.width s.at 0 (drop s.at bs)) (sym step.same_sheet))

    -- a stage's record is passed, and so the stage comes first
    pub stage_first : (t : ToldStage) → found.entry ≡ Stage t → stages_ahead r ≡ plain_stage t ∷ stages_ahead s
    stage_first t e =
        let place : t.name.place ≡ r.at + 2 + r.width = subst (λ k. EntryPlaced k (r.at + 2 + r.width)) e (subst (Placed r.width r.at) is step.places).1 in
        ahead_on ∙ ap (λ k. with_record r.width r.at (Ok (entry_told k)) (stages_ahead s)) e
        ∙ ap (λ p. record { field = t.field.now; name = t.name.bytes.now; place = p } ∷ stages_ahead s) (sym place)

    -- another record is passed, and the stages stay
    pub no_stage_passed : ((t : ToldStage) → found.entry ≡ Stage t → ⊥) → stages_ahead s ≡ stages_ahead r
    no_stage_passed none = go found.entry refl
      where
        go : (t : Told) → found.entry ≡ t → stages_ahead s ≡ stages_ahead r
        go (Stage t) e = absurd (none t e)
        go (Link u v) e = sym (ahead_on ∙ ap (λ t. with_record r.width r.at (Ok (entry_told t)) (stages_ahead s)) e)
        go (Live u) e = sym (ahead_on ∙ ap (λ t. with_record r.width r.at (Ok (entry_told t)) (stages_ahead s)) e)

  -- where no record comes, no stage is left
  pub none_left : option_flatten (result_ok x) ≡ None → (stages_ahead r ≡ []) × (stages_ahead s ≡ [])
  none_left none = go x refl
    where
      stays : s.at ≡ r.at → stages_ahead s ≡ stages_ahead r
      stays e =
          ap (λ at. stages_from s.width at 0 (drop at s.sheet.now)) e ∙ ap (λ w. stages_from w r.at 0 (drop r.at s.sheet.now)) step.same_width
          ∙ ap (λ bs. stages_from r.width r.at 0 (drop r.at bs)) step.same_sheet

      at : (y : Result (Option Entry) Fault) → record_answer x ≡ y → s.at ≡ place_after y r.sheet.now r.at
      at y e = step.goes_on ∙ ap (λ a. place_after a r.sheet.now r.at) e

      go : (y : Result (Option Record) Fault) → x ≡ y → (stages_ahead r ≡ []) × (stages_ahead s ≡ [])
      go (Ok (Some found)) e = not_none found (sym (ap (λ a. option_flatten (result_ok a)) e) ∙ none)
      go (Ok None) e = let left = at_end r.width r.at r.sheet.now (sym step.answers ∙ ap record_answer e) in (left, stays (at (Ok None) (ap record_answer e)) ∙ left)
      go (Err f) e = let left = at_fault r.width r.at r.sheet.now f (sym step.answers ∙ ap record_answer e) in (left, stays (at (Err f) (ap record_answer e)) ∙ left)

-- a reader at the first record of a sheet that reads has the stages of its contents before it
pub stages_opened : (code width : ℕ) (sheet : List ℕ) (r : Reader) → Opened (frame_of code sheet) sheet width (Ok r) → (c : Contents) → read_of code width sheet ≡ Ok c
    → (fields_of (stages_ahead r) ≡ c.fields) × (names_of (stages_ahead r) ≡ c.names)
stages_opened code width sheet r o c e =
    let first : stages_ahead r ≡ stages_from width 4 0 (drop 4 sheet) =
    ap (λ bs. stages_from r.width r.at 0 (drop r.at bs)) o.1 ∙ ap (λ at. stages_from r.width at 0 (drop at sheet)) o.2 ∙ ap (λ w. stages_from w 4 0 (drop 4 sheet)) o.3 in
    let g = grown width 4 0 (drop 4 sheet) no_contents c (sym (framed code width sheet o.0) ∙ e) in
    (ap fields_of first ∙ g.0, ap names_of first ∙ g.1)
