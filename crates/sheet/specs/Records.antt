-- What the reader of a sheet yields.
use Rattle.std.specs.Prelude.{◌≡◌, ℕ, ◌+◌, List, [], ◌∷◌, length, take, drop, Some, None, Ok, Err, Option, Result, slice_index}
use Rattle.graph.specs.declared.fault.Fault.{Fault}
use Rattle.sheet_format.specs.Entries.{Entry, stage, link, live}
use Rattle.sheet_format.specs.Reading.{record_of, then}
use Rattle.sheet.specs.declared.record.Entry.{Entry as Told}
use Rattle.sheet.specs.declared.record.Entry.TheVariants.{Stage, Link, Live}
use Rattle.sheet.specs.declared.reader.Reader.{Reader}
use Rattle.sheet.specs.declared.record.Record.{Record}

-- The entry that the code's value stands for.
abbrev pub entry_told : Told → Entry
entry_told (Stage s) = stage s.field.now s.name.bytes.now
entry_told (Link u v) = link u v
entry_told (Live s) = live s

-- The same of an answer with an entry.
abbrev pub entry_answer : Result Told Fault → Result Entry Fault
entry_answer (Ok e) = Ok (entry_told e)
entry_answer (Err f) = Err f

-- The same of an answer of the reader.
abbrev pub record_answer : Result (Option Record) Fault → Result (Option Entry) Fault
record_answer (Ok (Some r)) = Ok (Some (entry_told r.entry))
record_answer (Ok None) = Ok None
record_answer (Err f) = Err f

-- The next record of the bytes from a place on: none at their end.
abbrev pub next_of : ℕ → ℕ → List ℕ → Result (Option Entry) Fault
next_of width place [] = Ok None
next_of width place (len ∷ more) = then (record_of width place len more) (λ e. Ok (Some e))

-- Where the record after the next one begins: the length byte at `at` counts what follows it.
abbrev pub place_after : Result (Option Entry) Fault → List ℕ → ℕ → ℕ
place_after (Ok (Some e)) sheet at = at + 1 + slice_index sheet at
place_after (Ok None) sheet at = at
place_after (Err f) sheet at = at

-- A stage's name begins at this place.
abbrev pub EntryPlaced : Told → ℕ → Type 0
EntryPlaced (Stage s) place = s.name.place ≡ place
EntryPlaced (Link u v) place = Unit {0}
EntryPlaced (Live s) place = Unit {0}

-- A reader was opened at the first record of the sheet, or the frame's fault was returned.
abbrev pub Opened : Result (Unit {0}) Fault → List ℕ → ℕ → Result Reader Fault → Type 0
Opened frame sheet width (Ok r) = (frame ≡ Ok tt) × (r.sheet.now ≡ sheet) × (r.at ≡ 4) × (r.width ≡ width)
Opened frame sheet width (Err f) = frame ≡ Err f

-- A record's tag byte stands right after its length byte, which is at `at`, and a stage's name right after its
-- price field.
abbrev pub Placed : ℕ → ℕ → Result (Option Record) Fault → Type 0
Placed width at (Ok (Some r)) = (r.place ≡ at + 1) × EntryPlaced r.entry (at + 2 + width)
Placed width at (Ok None) = Unit {0}
Placed width at (Err f) = Unit {0}

-- A stage's name is the part of the sheet that begins at the name's place.
abbrev pub NameIn : List ℕ → Told → Type 0
NameIn sheet (Stage s) = s.name.bytes.now ≡ take (length s.name.bytes.now) (drop s.name.place sheet)
NameIn sheet (Link u v) = Unit {0}
NameIn sheet (Live s) = Unit {0}

-- The same of a record that the reader yields.
abbrev pub Named : List ℕ → Result (Option Record) Fault → Type 0
Named sheet (Ok (Some r)) = NameIn sheet r.entry
Named sheet (Ok None) = Unit {0}
Named sheet (Err f) = Unit {0}

-- From one reader to the next: the answer is the next record or its fault, at its places, and its name a part of the sheet; the reader goes on after
-- the record, and stays where there is none or a faulty one; the sheet and the width stay.
pub record Steps (r s : Reader) (x : Result (Option Record) Fault) : Type 0 where
  pub answers : record_answer x ≡ next_of r.width r.at (drop r.at r.sheet.now)
  pub places : Placed r.width r.at x
  pub name_is_a_part : Named r.sheet.now x
  pub goes_on : s.at ≡ place_after (record_answer x) r.sheet.now r.at
  pub same_sheet : s.sheet.now ≡ r.sheet.now
  pub same_width : s.width ≡ r.width
