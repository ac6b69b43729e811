-- What reading promises, in the format's own words.
use Rattle.std.specs.Prelude.{◌≡◌, ℕ, ◌⊎◌, ◌↔◌, List, Ok, Err}
use Rattle.graph.specs.declared.fault.Fault.{Fault}
use Rattle.sheet_format.specs.Layout.{Contents, LaidOut}
use Rattle.sheet_format.specs.Faulty.{Refused}
use Rattle.sheet_format.specs.Reading.{read_of}

-- For a byte string: it is read as contents exactly if it is laid out as them, and it is refused with a fault
-- exactly if that is its first fault in the order of the checks. It is laid out or faulty, never both, as one
-- contents and with one fault alone.
pub record ReadsTheLayout (code width : ℕ) (bytes : List ℕ) : Type 0 where
  pub reads_what_is_laid_out : (c : Contents) → (read_of code width bytes ≡ Ok c) ↔ LaidOut code width bytes c
  pub refuses_the_first_fault : (f : Fault) → (read_of code width bytes ≡ Err f) ↔ Refused code width bytes f
  pub laid_out_or_faulty : ((c : Contents) × LaidOut code width bytes c) ⊎ ((f : Fault) × Refused code width bytes f)
  pub never_both : (c : Contents) (f : Fault) → LaidOut code width bytes c → Refused code width bytes f → ⊥
  pub one_contents : (c d : Contents) → LaidOut code width bytes c → LaidOut code width bytes d → c ≡ d
  pub one_fault : (f g : Fault) → Refused code width bytes f → Refused code width bytes g → f ≡ g

-- The same for every byte string, code and field width.
abbrev pub ReadingAcceptsExactlyTheLayout : Type 0
ReadingAcceptsExactlyTheLayout = (code width : ℕ) (bytes : List ℕ) → ReadsTheLayout code width bytes
