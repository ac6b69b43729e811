-- The numbers of the causes, and what a refusing call answers.
use Rattle.std.specs.Prelude.{ℕ, Bool, true, false, Some, None, Ok, Err, Option, Result}
use Rattle.graph.specs.declared.fault.Cause.{Cause}
use Rattle.graph.specs.declared.fault.Cause.TheVariants.{Version, Size, Kind, RecordLength, RecordBody, TooManyStages, NoSuchStage, AlreadyThere, LiveLoop, NotThere, TablesTooSmall, OtherStageCount, OutputTooShort}
use Rattle.graph.specs.declared.fault.Fault.{Fault}
use Rattle.graph.specs.declared.fault.Layer.TheVariants.{Graph, Call}
use Rattle.graph.specs.declared.fault.Site.{Site}
use Rattle.graph.specs.declared.fault.Site.TheVariants.{Record as AtRecord, Call as AtCall}

-- The number of a cause.
abbrev pub number : Cause → ℕ
number Version = 1
number Size = 2
number Kind = 3
number RecordLength = 4
number RecordBody = 5
number TooManyStages = 6
number NoSuchStage = 7
number AlreadyThere = 8
number LiveLoop = 9
number NotThere = 10
number TablesTooSmall = 11
number OtherStageCount = 12
number OutputTooShort = 13

-- The fault of an edit that is refused for this cause: at a record of a sheet, the graph layer's at its tag byte;
-- in a call, the call layer's at 0.
abbrev pub fault : Cause → Site → Fault
fault cause (AtRecord place) = record { cause = cause; layer = Graph; place = place }
fault cause AtCall = record { cause = cause; layer = Call; place = 0 }

-- The cause, unless the test passes; then what the later tests find.
abbrev pub unless : Bool → Cause → Option Cause → Option Cause
unless true cause later = later
unless false cause later = Some cause

-- A refused call answers its fault, and another one answers that it is done.
abbrev pub answer : Option Cause → Site → Result (Unit {0}) Fault
answer None site = Ok tt
answer (Some cause) site = Err (fault cause site)

-- A refused call leaves what was there, and another one leaves what it makes.
abbrev pub after : {S : Type 0} → Option Cause → S → S → S
after None before made = made
after (Some cause) before made = before

-- The cause for which a call was refused, if it was.
abbrev pub cause_of : {T : Type 0} → Result T Fault → Option Cause
cause_of (Ok x) = None
cause_of (Err f) = Some f.cause
