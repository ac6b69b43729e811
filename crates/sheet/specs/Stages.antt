-- The stages of a sheet, as they are yielded.
use Rattle.std.specs.Prelude.{◌≡◌, ℕ, zero, suc, ◌+◌, List, [], ◌∷◌, map, drop, Ok, Err, Result}
use Rattle.graph.specs.declared.fault.Fault.{Fault}
use Rattle.sheet_format.specs.Entries.{Entry, stage, link, live}
use Rattle.sheet_format.specs.Layout.{Contents}
use Rattle.sheet_format.specs.Reading.{frame_of, record_of, then}
use Rattle.sheet.specs.declared.record.Stage.{Stage}
use Rattle.sheet.specs.declared.reader.Reader.{Reader}
use Rattle.sheet.specs.declared.stages.Stages.{Stages}

-- A stage's price field, its name, and the place in the sheet where the name begins.
pub record PlainStage : Type 0 where
  pub field : List ℕ
  pub name : List ℕ
  pub place : ℕ

-- The price fields of stages, and their names.
abbrev pub fields_of : List PlainStage → List (List ℕ)
fields_of stages = map (λ s. s.field) stages

abbrev pub names_of : List PlainStage → List (List ℕ)
names_of stages = map (λ s. s.name) stages

-- The stage that the code's value stands for.
abbrev pub plain_stage : Stage → PlainStage
plain_stage s = record { field = s.field.now; name = s.name.bytes.now; place = s.name.place }

-- The stages from a record on, whose length byte stands at a place, where others come behind it. A faulty record ends them.
abbrev pub with_record : ℕ → ℕ → Result Entry Fault → List PlainStage → List PlainStage
with_record width place (Ok (stage field name)) others =
    record { field = field; name = name; place = place + 2 + width } ∷ others
with_record width place (Ok (link u v)) others = others
with_record width place (Ok (live s)) others = others
with_record width place (Err f) others = []

-- The stages of the records from a place on, after the bytes that are left of the record before.
unfoldable pub stages_from : ℕ → ℕ → ℕ → List ℕ → List PlainStage
stages_from width place left [] = []
stages_from width place (suc left) (b ∷ bs) = stages_from width (place + 1) left bs
stages_from width place zero (len ∷ more) =
    with_record width place (record_of width place len more) (stages_from width (place + 1) len more)

-- The stages of the records that a reader has still to read.
abbrev pub stages_ahead : Reader → List PlainStage
stages_ahead r = stages_from r.width r.at 0 (drop r.at r.sheet.now)

-- The stages that are still to be yielded.
abbrev pub stages_left : Stages → List PlainStage
stages_left s = stages_ahead s.reader

-- The stages of a sheet of a price kind with this code and field width, or its frame's fault.
abbrev pub stages_of : ℕ → ℕ → List ℕ → Result (List PlainStage) Fault
stages_of code width bytes = then (frame_of code bytes) (λ _. Ok (stages_from width 4 0 (drop 4 bytes)))

-- The same of an answer with stages to yield.
abbrev pub stages_answer : Result Stages Fault → Result (List PlainStage) Fault
stages_answer (Ok s) = Ok (stages_left s)
stages_answer (Err f) = Err f

-- The stages to yield are those of the contents: their price fields and their names, in order.
abbrev pub StagesOf : Contents → Result Stages Fault → Type 0
StagesOf c (Ok s) = (fields_of (stages_left s) ≡ c.fields) × (names_of (stages_left s) ≡ c.names)
StagesOf c (Err f) = ⊥
