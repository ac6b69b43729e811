-- Pairs of KiB and holds are a lawful price kind.
use Rattle.std.specs.Prelude.{◌≡◌}
use Rattle.std.proofs.Common.{arith}
use Rattle.std.proofs.lemmas.Bool.Decides.{nat_tests}
use Rattle.theory.specs.Prices.{Lawful}
use Rattle.price.specs.Bounds.{below_along}
use Rattle.price.specs.Memories.{memories, memory}
use Rattle.price.specs.declared.memory.Memory.{Memory}

-- a pair is its two numbers
pub memory_same : (a b : Memory) → a.kib ≡ b.kib → a.holds ≡ b.holds → a ≡ b
memory_same a b p q =
    λ i. record { kib = p i; holds = q i; wide = below_along p a.wide b.wide i; few = below_along q a.few b.few i }

pub memory_laws : Lawful memories
unfolding memory
memory_laws = record {
  assoc = λ a b c. memory_same _ _ (grind (arith, nat_tests)) (grind (arith, nat_tests));
  comm = λ a b. memory_same _ _ (grind (arith, nat_tests)) (grind (arith, nat_tests));
  neutral = λ a. memory_same _ _ (grind (arith, nat_tests)) (grind (arith, nat_tests));
  least = λ a. grind (arith, nat_tests);
  total = λ a b. grind (arith, nat_tests);
  antisym = λ a b h k. memory_same a b (grind (arith, nat_tests)) (grind (arith, nat_tests));
  trans = λ a b c h k. grind (arith, nat_tests);
  mono = λ a b c h. grind (arith, nat_tests);
}
