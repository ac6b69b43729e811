-- Words of 64 marks, one for each stage.
use Rattle.std.specs.Prelude.{ℕ, ◌/◌, ◌%◌, ◌^◌, Bool, List, ◌==◌, slice_index}

-- Stage s is marked in the word: its bit s is set.
abbrev pub marked : ℕ → ℕ → Bool
marked word s = word / 2 ^ s % 2 == 1

-- There is a link from u to w in rows of marks: row u marks w.
abbrev pub linked : List ℕ → ℕ → ℕ → Bool
linked rows u w = marked (slice_index rows u) w
