-- Reading a sheet as a program, layer by layer: frame, record, graph.
use Rattle.std.specs.Prelude.{ℕ, zero, suc, ◌+◌, ◌*◌, Bool, true, false, ◌&&◌, List, [], ◌∷◌, ◌++◌, length, take, drop, Some, None, Ok, Err, Option, Result, ◌==◌, nat_le, nat_lt, slice_index}
use Rattle.graph.specs.declared.fault.Cause.{Cause}
use Rattle.graph.specs.declared.fault.Cause.TheVariants.{Version, Size, Kind, RecordLength, RecordBody}
use Rattle.graph.specs.declared.fault.Fault.{Fault}
use Rattle.graph.specs.declared.fault.Layer.TheVariants.{Frame, Record, Graph}
use Rattle.graph.specs.Graphs.{bare, link_refusal, linked_too, live_refusal, live_too, one_more, stage_refusal}
use Rattle.sheet_format.specs.Entries.{Entry, stage, link, live, printable}
use Rattle.sheet_format.specs.Layout.{Contents}
use Rattle.sheet_format.specs.Faulty.{at}

-- The fault, or what the next step makes of the value.
abbrev pub then : {A B : Type 0} → Result A Fault → (A → Result B Fault) → Result B Fault
then (Ok x) next = next x
then (Err fault) next = Err fault

-- Nothing, or the fault where the test fails.
abbrev pub check : Bool → Fault → Result (Unit {0}) Fault
check true fault = Ok tt
check false fault = Err fault

-- ---- the frame
-- Byte 0 is there, and is 1.
abbrev pub is_version : List ℕ → Bool
is_version [] = false
is_version (b ∷ bs) = b == 1

-- From 4 to 20,000 bytes, of which bytes 1 and 2 count those after byte 2.
abbrev pub is_sized : List ℕ → Bool
is_sized bytes =
    nat_le 4 (length bytes) && nat_le (length bytes) 20000 && slice_index bytes 1 * 256 + slice_index bytes 2 + 3 == length bytes

-- The frame's checks, in their order: version, size, kind.
abbrev pub frame_of : ℕ → List ℕ → Result (Unit {0}) Fault
frame_of code bytes =
    then (check (is_version bytes) (at Version Frame 0))
    (λ _. then (check (is_sized bytes) (at Size Frame 1)) (λ _. check (slice_index bytes 3 == code) (at Kind Frame 3)))

-- ---- a record
-- A stage's price field and name, where the test of its body passed.
abbrev pub stage_of : Bool → ℕ → List ℕ → Option Entry
stage_of true width bs = Some (stage (take width bs) (drop width bs))
stage_of false width bs = None

-- The test of a stage's body: behind the price field a name of 1 to 32 printable bytes.
abbrev pub is_stage : ℕ → List ℕ → Bool
is_stage width bs = nat_lt width (length bs) && nat_le (length bs) (width + 32) && printable (drop width bs)

-- What a body says, by whether the tag is 1, and else whether it is 2, and else whether it is 3.
abbrev pub by_tag : ℕ → Bool → Bool → Bool → List ℕ → Option Entry
by_tag width true x y bs = stage_of (is_stage width bs) width bs
by_tag width false true y [] = None
by_tag width false true y (u ∷ []) = None
by_tag width false true y (u ∷ (v ∷ [])) = Some (link u v)
by_tag width false true y (u ∷ (v ∷ (w ∷ ws))) = None
by_tag width false false true [] = None
by_tag width false false true (s ∷ []) = Some (live s)
by_tag width false false true (s ∷ (t ∷ ts)) = None
by_tag width false false false bs = None

-- What a tag byte and a body say, if they are as laid out.
abbrev pub entry_of : ℕ → List ℕ → Option Entry
entry_of width [] = None
entry_of width (tag ∷ bs) = by_tag width (tag == 1) (tag == 2) (tag == 3) bs

-- The entry, or the fault of a body that is not as laid out, at the place of its tag byte.
abbrev pub formed_or : Option Entry → ℕ → Result Entry Fault
formed_or (Some e) place = Ok e
formed_or None place = Err (at RecordBody Record place)

-- The record whose length byte stands at a place, before the bytes that follow it.
abbrev pub record_of : ℕ → ℕ → ℕ → List ℕ → Result Entry Fault
record_of width place len more =
    then (check (nat_lt 0 len && nat_le len (length more)) (at RecordLength Record place))
    (λ _. formed_or (entry_of width (take len more)) (place + 1))

-- ---- the graph
-- What was made, or the fault of the cause for which it is refused, at the place of a tag byte.
abbrev pub made_or : Option Cause → ℕ → Contents → Result Contents Fault
made_or None place made = Ok made
made_or (Some cause) place made = Err (at cause Graph place)

-- The contents with a record more, or the fault for which it is refused.
abbrev pub taken_in : Contents → Entry → ℕ → Result Contents Fault
taken_in c (stage field name) place =
    made_or (stage_refusal c.graph) place
    (record { graph = one_more c.graph; fields = c.fields ++ field ∷ []; names = c.names ++ name ∷ [] })
taken_in c (link u v) place =
    made_or (link_refusal c.graph u v) place (record { graph = linked_too c.graph u v; fields = c.fields; names = c.names })
taken_in c (live s) place =
    made_or (live_refusal c.graph s) place (record { graph = live_too c.graph s; fields = c.fields; names = c.names })

-- The records from a place on, after the bytes that are left of the record before, taken in one after another.
unfoldable pub records_from : ℕ → ℕ → ℕ → List ℕ → Contents → Result Contents Fault
records_from width place left [] c = Ok c
records_from width place (suc left) (b ∷ bs) c = records_from width (place + 1) left bs c
records_from width place zero (len ∷ more) c =
    then (record_of width place len more) (λ e. then (taken_in c e (place + 1)) (λ d. records_from width (place + 1) len more d))

-- A sheet with no records.
abbrev pub no_contents : Contents
no_contents = record { graph = bare 0; fields = []; names = [] }

-- What reading a sheet of a price kind with this code and field width answers.
abbrev pub read_of : ℕ → ℕ → List ℕ → Result Contents Fault
read_of code width bytes = then (frame_of code bytes) (λ _. records_from width 4 0 (drop 4 bytes) no_contents)
