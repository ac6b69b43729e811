-- One turn of a loop over the records of a sheet.
use Rattle.std.proofs.Common.{◌≡◌, ℕ, ◌+◌, ◌-◌, ◌<◌, List, length, get_or, drop, Some, None, Ok, Err, Option, Result, sym, refl, ap, ◌∙◌, subst, arith}
use Rattle.graph.specs.declared.fault.Fault.{Fault}
use Rattle.graph.specs.declared.graph.Graph.{Graph}
use Rattle.sheet_format.specs.Layout.{Contents}
use Rattle.sheet_format.specs.Reading.{frame_of, no_contents, read_of, records_from, taken_in, then}
use Rattle.sheet.specs.declared.reader.Reader.{Reader}
use Rattle.sheet.specs.declared.record.Record.{Record}
use Rattle.sheet.specs.Readings.{Made, Pictures, Took}
use Rattle.sheet.specs.Records.{Placed, Steps, entry_told, next_of, place_after, record_answer}
use Rattle.sheet.proofs.RecordSteps.{next_fault, next_none, next_record, next_within, ok_not_err}

-- a reader over this sheet, for fields of this width
pub record Over (sheet : List ℕ) (w : ℕ) (r : Reader) : Type 0 where
  pub same_sheet : r.sheet.now ≡ sheet
  pub same_width : r.width ≡ w

module _ (sheet : List ℕ) (w : ℕ) (r s : Reader) (x : Result (Option Record) Fault) (over : Over sheet w r) (step : Steps r s x) where
  pub over_still : Over sheet w s
  over_still = record { same_sheet = step.same_sheet ∙ over.same_sheet; same_width = step.same_width ∙ over.same_width }

  pub answered : record_answer x ≡ next_of w r.at (drop r.at sheet)
  answered =
      step.answers ∙ ap (λ k. next_of k r.at (drop r.at r.sheet.now)) over.same_width ∙ ap (λ bs. next_of w r.at (drop r.at bs)) over.same_sheet

  module _ (found : Record) (is : x ≡ Ok (Some found)) where
    pub found_entry : next_of w r.at (drop r.at sheet) ≡ Ok (Some (entry_told found.entry))
    found_entry = sym answered ∙ ap record_answer is

    pub found_place : found.place ≡ r.at + 1
    found_place = (subst (λ y. Placed r.width r.at y) is step.places).0

    pub found_next : s.at ≡ r.at + 1 + get_or sheet r.at 0
    found_next = step.goes_on ∙ ap (λ y. place_after (record_answer y) r.sheet.now r.at) is ∙ ap (λ bs. r.at + 1 + get_or bs r.at 0) over.same_sheet

    pub found_less : length sheet - s.at < length sheet - r.at
    found_less = let h = next_within w r.at sheet no_contents _ found_entry in let e = found_next in omega arith

    -- the record is taken in, and reading goes on after it
    pub taken_on : (c d : Contents) → taken_in c (entry_told found.entry) (r.at + 1) ≡ Ok d
        → records_from w s.at 0 (drop s.at sheet) d ≡ records_from w r.at 0 (drop r.at sheet) c
    taken_on c d e =
        ap (λ p. records_from w p 0 (drop p sheet) d) found_next
        ∙ sym (next_record w r.at sheet c _ found_entry
        ∙ ap (λ t. then t (λ y. records_from w (r.at + 1 + get_or sheet r.at 0) 0 (drop (r.at + 1 + get_or sheet r.at 0) sheet) y)) e)

    -- the record is refused, and so is the sheet
    pub taken_not : (c : Contents) (f : Fault) → taken_in c (entry_told found.entry) (r.at + 1) ≡ Err f → records_from w r.at 0 (drop r.at sheet) c ≡ Err f
    taken_not c f e =
        next_record w r.at sheet c _ found_entry
        ∙ ap (λ t. then t (λ y. records_from w (r.at + 1 + get_or sheet r.at 0) 0 (drop (r.at + 1 + get_or sheet r.at 0) sheet) y)) e

  pub no_more : x ≡ Ok None → (c : Contents) → records_from w r.at 0 (drop r.at sheet) c ≡ Ok c
  no_more is c = next_none w r.at sheet c (sym answered ∙ ap record_answer is)

  pub faulty : (f : Fault) → x ≡ Err f → (c : Contents) → records_from w r.at 0 (drop r.at sheet) c ≡ Err f
  faulty f is c = next_fault w r.at sheet c f (sym answered ∙ ap record_answer is)

-- a record that was taken in, and one that was not
pub took_ok : (t : Result Contents Fault) (r : Result (Unit {0}) Fault) (g : Graph) → Took t r g → r ≡ Ok tt → (d : Contents) × (t ≡ Ok d) × Pictures g d
took_ok (Ok d) r g k e = (d, refl, k.1)
took_ok (Err f) r g k e = ok_not_err tt f (sym e ∙ k)

same_err : (h f : Fault) → ◌≡◌ {A = Result (Unit {0}) Fault} (Err h) (Err f) → h ≡ f
same_err h f e = cc

pub took_not : (t : Result Contents Fault) (r : Result (Unit {0}) Fault) (g : Graph) (f : Fault) → Took t r g → r ≡ Err f → t ≡ Err f
took_not (Ok d) r g f k e = ok_not_err tt f (sym k.0 ∙ e)
took_not (Err h) r g f k e = ap Err (same_err h f (sym k ∙ e))

-- the whole sheet, from its records
pub framed : (code w : ℕ) (sheet : List ℕ) → frame_of code sheet ≡ Ok tt → read_of code w sheet ≡ records_from w 4 0 (drop 4 sheet) no_contents
framed code w sheet e = ap (λ t. then t (λ _. records_from w 4 0 (drop 4 sheet) no_contents)) e

pub unframed : (code w : ℕ) (sheet : List ℕ) (f : Fault) → frame_of code sheet ≡ Err f → read_of code w sheet ≡ Err f
unframed code w sheet f e = ap (λ t. then t (λ _. records_from w 4 0 (drop 4 sheet) no_contents)) e

pub made_err : (t : Result Contents Fault) (r : Result Graph Fault) (f : Fault) → t ≡ Err f → r ≡ Err f → Made t r
made_err t r f e q = subst (λ y. Made y r) (sym e) (subst (λ y. Made (Err f) y) (sym q) refl)

pub made_ok : (t : Result Contents Fault) (g : Graph) (c : Contents) → t ≡ Ok c → Pictures g c → Made t (Ok g)
made_ok t g c e k = subst (λ y. Made y (Ok g)) (sym e) k
