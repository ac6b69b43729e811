-- The first fault of a sheet, in the order of the checks.
use Rattle.std.specs.Prelude.{◌≡◌, ℕ, ◌+◌, ◌*◌, ◌<◌, ◌≤◌, true, false, ◌≢◌, ◌⊎◌, List, [], ◌∷◌, ◌++◌, length, take}
use Rattle.theory.specs.Loops.{Loop, between}
use Rattle.graph.specs.declared.fault.Cause.{Cause}
use Rattle.graph.specs.declared.fault.Cause.TheVariants.{Version, Size, Kind, RecordLength, RecordBody, TooManyStages, NoSuchStage, AlreadyThere, LiveLoop}
use Rattle.graph.specs.declared.fault.Fault.{Fault}
use Rattle.graph.specs.declared.fault.Layer.{Layer}
use Rattle.graph.specs.declared.fault.Layer.TheVariants.{Frame, Record, Graph}
use Rattle.sheet_format.specs.Entries.{Entry, stage, link, live, body, record_bytes, all_bytes, Formed, stages_in, links_in, live_in}
use Rattle.sheet_format.specs.Layout.{Framed, Fit}

-- A fault by its cause, layer and place.
abbrev pub at : Cause → Layer → ℕ → Fault
at cause layer place = record { cause = cause; layer = layer; place = place }

-- The sheet is empty, or byte 0 is not 1.
abbrev pub BadVersion : List ℕ → Type 0
BadVersion bytes = (bytes ≡ []) ⊎ ((b : ℕ) × (rest : List ℕ) × (bytes ≡ b ∷ rest) × (b ≢ 1))

-- Under 4 or over 20,000 bytes, or the count is wrong.
abbrev pub BadSize : List ℕ → Type 0
BadSize bytes =
    (length bytes < 4) ⊎ ((20000 < length bytes)
    ⊎ ((v : ℕ) × (high : ℕ) × (low : ℕ) × (rest : List ℕ) × (bytes ≡ v ∷ (high ∷ (low ∷ rest))) × (high * 256 + low ≢ length rest)))

-- Why a well laid out record cannot follow these: a 65th stage, a stage that is not there, a link or mark that
-- is there already, or a loop of live stages, in this order.
abbrev pub Unfit : List Entry → Entry → Cause → Type 0
Unfit es (stage field name) cause = (cause ≡ TooManyStages) × (64 ≤ stages_in es)
Unfit es (link u v) cause =
    ((cause ≡ NoSuchStage) × ((u < stages_in es) × (v < stages_in es) → ⊥))
    ⊎ (((cause ≡ AlreadyThere) × ((u < stages_in es) × (v < stages_in es)) × (links_in es u v ≡ true))
    ⊎ ((cause ≡ LiveLoop) × ((u < stages_in es) × (v < stages_in es)) × (links_in es u v ≡ false)
    × Loop (between (links_in (es ++ link u v ∷ [])) (live_in es))))
Unfit es (live s) cause =
    ((cause ≡ NoSuchStage) × (s < stages_in es → ⊥))
    ⊎ (((cause ≡ AlreadyThere) × (s < stages_in es) × (live_in es s ≡ true))
    ⊎ ((cause ≡ LiveLoop) × (s < stages_in es) × (live_in es s ≡ false)
    × Loop (between (links_in es) (live_in (es ++ live s ∷ [])))))

-- The sheet is refused with this fault. The frame is judged first, then record by record: all records before the
-- faulty one fit, and the faulty one is judged by its length, then its body, then what it says. A record's
-- length byte stands at the place `4 + length (all_bytes es)`, its tag byte one further.
pub data Refused (code width : ℕ) (bytes : List ℕ) : Fault → Type 0 where
  bad_version : BadVersion bytes → Refused code width bytes (at Version Frame 0)
  bad_size : (BadVersion bytes → ⊥) → BadSize bytes → Refused code width bytes (at Size Frame 1)
  bad_kind : (other : ℕ) → other ≢ code → (rest : List ℕ) → Framed other bytes rest → Refused code width bytes (at Kind Frame 3)
  bad_length : (es : List Entry) → Fit width es → (len : ℕ) (more : List ℕ) → Framed code bytes (all_bytes es ++ len ∷ more)
      → (len ≡ 0) ⊎ (length more < len) → Refused code width bytes (at RecordLength Record (4 + length (all_bytes es)))
  bad_body : (es : List Entry) → Fit width es → (len : ℕ) (more : List ℕ) → Framed code bytes (all_bytes es ++ len ∷ more)
      → 1 ≤ len → len ≤ length more → ((e : Entry) → Formed width e → body e ≢ take len more)
      → Refused code width bytes (at RecordBody Record (5 + length (all_bytes es)))
  unfit : (es : List Entry) → Fit width es → (e : Entry) → Formed width e → (more : List ℕ)
      → Framed code bytes (all_bytes es ++ (record_bytes e ++ more)) → (cause : Cause) → Unfit es e cause
      → Refused code width bytes (at cause Graph (5 + length (all_bytes es)))
