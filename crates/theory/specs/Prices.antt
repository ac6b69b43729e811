-- Price kinds, their laws, and the cost of a set of stages.
use Rattle.std.specs.Prelude.{◌≡◌, ℕ, zero, suc, Bool, true, cond, ◌||◌}
use Rattle.theory.specs.Loops.{Stages}

-- A price kind on the values P: a value called nothing, a sum, and whether a value is not dearer than another.
pub record Kind (P : Type 0) : Type 0 where
  pub nothing : P
  pub plus : P → P → P
  pub leq : P → P → Bool

-- The laws that make a price kind lawful, each for all its values. The sum is associative and commutative,
-- nothing is neutral and never dearer than another value, the comparison is a total order, and what is not
-- dearer is still not dearer after the same value is added to both.
pub record Lawful {P : Type 0} (K : Kind P) : Type 0 where
  pub assoc : (a b c : P) → K.plus (K.plus a b) c ≡ K.plus a (K.plus b c)
  pub comm : (a b : P) → K.plus a b ≡ K.plus b a
  pub neutral : (a : P) → K.plus a K.nothing ≡ a
  pub least : (a : P) → K.leq K.nothing a ≡ true
  pub total : (a b : P) → (K.leq a b || K.leq b a) ≡ true
  pub antisym : (a b : P) → K.leq a b ≡ true → K.leq b a ≡ true → a ≡ b
  pub trans : (a b c : P) → K.leq a b ≡ true → K.leq b c ≡ true → K.leq a c ≡ true
  pub mono : (a b c : P) → K.leq a b ≡ true → K.leq (K.plus a c) (K.plus b c) ≡ true

-- The cost of a set among the first n stages: the sum, from nothing, of the prices of the stages in it.
abbrev pub cost : {P : Type 0} → Kind P → (ℕ → P) → ℕ → Stages → P
cost K price zero S = K.nothing
cost K price (suc n) S = cond (S n) (K.plus (cost K price n S) (price n)) (cost K price n S)
