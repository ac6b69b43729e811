-- Which price kind a sheet is read as, and the names of the kinds.
use Rattle.std.specs.Prelude.{◌≡◌, ◌≢◌, ℕ, List, Ok, Err, Result, codes, cond, ◌==◌, slice_index}
use Rattle.sheet.specs.declared.kind.Kind.{Kind}
use Rattle.sheet.specs.declared.kind.Kind.TheVariants.{Count, Memory}
use Rattle.sheet.specs.declared.kind.UnknownKind.{UnknownKind}

-- The kind that a sheet is read as: Memory if byte 3 is 1, and else Count.
abbrev pub kind_of : List ℕ → Kind
kind_of bytes = cond (slice_index bytes 3 == 1) Memory Count

-- The text names this kind, or none.
abbrev pub Names : List ℕ → Result Kind UnknownKind → Type 0
Names name (Ok Count) = name ≡ codes "count"
Names name (Ok Memory) = name ≡ codes "memory"
Names name (Err unknown) = (name ≢ codes "count") × (name ≢ codes "memory")
