-- Price kinds that a sheet can file.
use Rattle.std.specs.Prelude.{ℕ, ◌+◌, ◌*◌, List, [], ◌∷◌}
use Rattle.price.specs.declared.count.Count.{Count}
use Rattle.price.specs.declared.memory.Memory.{Memory}
use Rattle.price.specs.Counts.{count}
use Rattle.price.specs.Memories.{memory}
use Rattle.sheet.specs.declared.figures.Figures.{Figures}
use Rattle.sheet.specs.declared.figures.Figures.TheVariants.{One, Two}

-- How the prices P are filed: the kind's code, the width of a price field in bytes, the price that a field
-- stands for, and the figures that are printed of a price.
pub record Filing (P : Type 0) : Type 0 where
  pub code : ℕ
  pub width : ℕ
  pub price_of : List ℕ → P
  pub figures_of : P → Figures

-- Count has code 0 and no field: each stage costs 1. Its number is printed.
abbrev pub count_filing : Filing Count
count_filing = record { code = 0; width = 0; price_of = λ field. count 1; figures_of = λ c. One c.holds }

-- The number that four bytes stand for, big-endian; other fields stand for 0.
abbrev pub big_endian : List ℕ → ℕ
big_endian [] = 0
big_endian (a ∷ []) = 0
big_endian (a ∷ (b ∷ [])) = 0
big_endian (a ∷ (b ∷ (c ∷ []))) = 0
big_endian (a ∷ (b ∷ (c ∷ (d ∷ [])))) = a * 16777216 + b * 65536 + c * 256 + d
big_endian (a ∷ (b ∷ (c ∷ (d ∷ (e ∷ es))))) = 0

-- Memory has code 1 and a field of four bytes, the stage's KiB: the stage costs them and 1 hold. KiB and holds
-- are printed.
abbrev pub memory_filing : Filing Memory
memory_filing =
    record { code = 1; width = 4; price_of = λ field. memory (big_endian field) 1; figures_of = λ m. Two m.kib m.holds }
