-- Counts are a lawful price kind.
use Rattle.std.specs.Prelude.{◌≡◌}
use Rattle.std.proofs.Common.{arith}
use Rattle.std.proofs.lemmas.Bool.Decides.{nat_tests}
use Rattle.theory.specs.Prices.{Lawful}
use Rattle.price.specs.Bounds.{below_along}
use Rattle.price.specs.Counts.{count, counts}
use Rattle.price.specs.declared.count.Count.{Count}

-- a count is its number
pub count_same : (a b : Count) → a.holds ≡ b.holds → a ≡ b
count_same a b p = λ i. record { holds = p i; fits = below_along p a.fits b.fits i }

pub count_laws : Lawful counts
unfolding count
count_laws = record {
  assoc = λ a b c. count_same _ _ (grind (arith, nat_tests));
  comm = λ a b. count_same _ _ (grind (arith, nat_tests));
  neutral = λ a. count_same _ _ (grind (arith, nat_tests));
  least = λ a. grind (arith, nat_tests);
  total = λ a b. grind (arith, nat_tests);
  antisym = λ a b h k. count_same a b (grind (arith, nat_tests));
  trans = λ a b c h k. grind (arith, nat_tests);
  mono = λ a b c h. grind (arith, nat_tests);
}
