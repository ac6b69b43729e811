-- The price kind of counts.
use Rattle.std.specs.Prelude.{ℕ, ◌+◌, ◌-◌, ◌^◌, min, nat_le}
use Rattle.std.proofs.Common.{suc-le-suc}
use Rattle.std.proofs.Math.Nat.{min-le_right}
use Rattle.theory.specs.Prices.{Kind}
use Rattle.price.specs.declared.count.Count.{Count}

-- The largest count.
abbrev pub largest_count : ℕ
largest_count = 2 ^ 32 - 1

-- The count of n holds, or the largest count if n is larger.
unfoldable pub count : ℕ → Count
count n = record { holds = min n largest_count; fits = suc-le-suc (min-le_right n largest_count) }

-- Nothing is 0 holds. The sum of two counts is their sum, or the largest count if that is larger. Counts compare
-- as numbers.
abbrev pub counts : Kind Count
counts = record {
  nothing = count 0;
  plus = λ a b. count (min (a.holds + b.holds) largest_count);
  leq = λ a b. nat_le a.holds b.holds;
}
