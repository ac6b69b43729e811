-- Holding and passing keep breaking sets, since closed walks go over from one graph into the other.
use Rattle.std.proofs.Common.{◌≡◌, ℕ, false, ◌≢◌, ◌⊎◌, ⊎_elim, arith}
use Rattle.std.proofs.lemmas.Bool.{both_ways}
use Rattle.std.proofs.lemmas.Bool.Decides.{nat_tests}
use Rattle.theory.specs.Loops.{Links, Stages}
use Rattle.theory.specs.Walks.{Free}
use Rattle.theory.specs.Moves.{held, passed, with_stage}
use Rattle.theory.specs.Kept.{HoldingKeepsTheSetsWith, PassingKeepsTheSetsWithout}
use Rattle.theory.proofs.Through.{got_one, got_two, through, each_closed, breaks_by}

hold_out : (L : Links) (S : Stages) (v a b : ℕ) → Free (held L v) S a b → Free L (with_stage S v) a b
hold_out L S v a b h = grind (arith, nat_tests)

hold_in : (L : Links) (S : Stages) (v a b : ℕ) → Free L (with_stage S v) a b → Free (held L v) S a b
hold_in L S v a b h = grind (arith, nat_tests)

pub holding : HoldingKeepsTheSetsWith
holding L S v = (
  breaks_by (held L v) L S (with_stage S v) (each_closed _ _ (λ a b h. got_one _ a b (hold_in L S v a b h))),
  breaks_by L (held L v) (with_stage S v) S (each_closed _ _ (λ a b h. got_one _ a b (hold_out L S v a b h))),
)

module _ (L : Links) (S : Stages) (v : ℕ) (nself : L v v ≡ false) (nin : S v ≡ false) where
  pass_out : (a b : ℕ) → Free (passed L v) S a b → (Free L S a b) ⊎ ((Free L S a v) × (Free L S v b))
  pass_out a b h = grind (arith, nat_tests)

  pass_direct : (a b : ℕ) → a ≢ v → b ≢ v → Free L S a b → Free (passed L v) S a b
  pass_direct a b na nb h = grind (arith, nat_tests)

  pass_via : (a b : ℕ) → a ≢ v → b ≢ v → Free L S a v → Free L S v b → Free (passed L v) S a b
  pass_via a b na nb h k = grind (arith, nat_tests)

pub passing : PassingKeepsTheSetsWithout
passing L S v ns ni = (
  breaks_by L (passed L v) S S
      (each_closed _ _
      (λ a b h. ⊎_elim (λ (x : Free L S a b). got_one _ a b x) (λ (x : Free L S a v × Free L S v b). got_two _ a v b x.0 x.1) (pass_out L S v ns ni a b h))),
  breaks_by (passed L v) L S S
      (through _ _ v (λ h. absurd (both_ways _ ns h.0))
      (λ a b na nb h. got_one _ a b (pass_direct L S v ns ni a b na nb h))
      (λ a b na nb h k. got_one _ a b (pass_via L S v ns ni a b na nb h k))),
)
