-- The prices that a cost adds up.
use Rattle.std.specs.Prelude.{ℕ, List, slice_index_or}

-- The price of stage s: what stands at place s of the list, or the price for a missing one past its end.
abbrev pub price_at : {P : Type 0} → List P → P → ℕ → P
price_at prices missing s = slice_index_or prices s missing
