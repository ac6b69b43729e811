-- Record bodies, as the code tests them.
use Rattle.std.proofs.Common.{◌≡◌, ℕ, ◌&&◌, List, [], ◌∷◌, nat_le, refl, arith}
use Rattle.std.specs.List.{list_all}
use Rattle.std.proofs.lemmas.Bool.Decides.{nat_tests}
use Rattle.sheet_format.specs.Entries.{printable}

-- a name is printable where each of its bytes is
pub printable_all : (bs : List ℕ) → list_all (λ b. nat_le 0x21 b && nat_le b 0x7E) bs ≡ printable bs
printable_all [] = refl
printable_all (b ∷ bs) = rw (printable_all bs) (grind (arith, nat_tests))
