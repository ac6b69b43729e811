-- Bounds of numbers that are equal.
use Rattle.std.specs.Prelude.{◌≡◌, ℕ, ◌<◌}
use mathlib.Core.HLevel.{is_prop→PathP}
use Rattle.std.proofs.Math.Bridge.{le_prop}
use Rattle.std.proofs.Math.Path.{PathP}

-- two proofs of a bound are the same along an equation, so that two values with the same numbers are equal
pub below_along : {k m n : ℕ} (p : m ≡ n) (g : m < k) (h : n < k) → PathP (λ i. p i < k) g h
below_along {k} p = is_prop→PathP (λ i. p i < k) (λ i. le_prop)
