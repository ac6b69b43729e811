-- The price kind of memory.
use Rattle.std.specs.Prelude.{ℕ, ◌+◌, ◌-◌, ◌^◌, min, cond, ◌&&◌, ◌||◌, ◌==◌, nat_le, nat_lt}
use Rattle.std.proofs.Common.{suc-le-suc}
use Rattle.std.proofs.Math.Nat.{min-le_right}
use Rattle.theory.specs.Prices.{Kind}
use Rattle.price.specs.declared.memory.Memory.{Memory}

-- The largest number of KiB.
abbrev pub largest_kib : ℕ
largest_kib = 2 ^ 64 - 1

-- The largest number of holds.
abbrev pub largest_holds : ℕ
largest_holds = 2 ^ 32 - 1

-- The pair of k KiB and h holds, where a number that passes the width of its part stands for the largest.
unfoldable pub memory : ℕ → ℕ → Memory
memory k h = record {
  kib = min k largest_kib;
  holds = min h largest_holds;
  wide = suc-le-suc (min-le_right k largest_kib);
  few = suc-le-suc (min-le_right h largest_holds);
}

-- Nothing is 0 KiB and 0 holds. Pairs add part by part: if the KiB would pass their width, the sum is the largest
-- pair, and otherwise its holds stop at their largest. Pairs compare by KiB, then by holds.
abbrev pub memories : Kind Memory
memories = record {
  nothing = memory 0 0;
  plus = λ a b.
      cond (nat_le (a.kib + b.kib) largest_kib)
      (memory (a.kib + b.kib) (min (a.holds + b.holds) largest_holds))
      (memory largest_kib largest_holds);
  leq = λ a b. nat_lt a.kib b.kib || (a.kib == b.kib && nat_le a.holds b.holds);
}
