-- What the test of CORE answers, asked about the set of a stage's mates.
use Rattle.std.proofs.Common.{◌≡◌, ℕ, Bool, true, false, ◌&&◌, List, sym, ap, subst, ◌∙◌}
use mathlib.Core.Path.{fun_ext}
use Rattle.theory.specs.Loops.{Stages}
use Rattle.theory.specs.Prices.{Kind}
use Rattle.rules.specs.CoreTests.{all_fit, all_linked, cored, mates_of}
use Rattle.rules.specs.Nets.{Net}

module _ {P : Type 0} (K : Kind P) (prices : List P) (g : Net) (v : ℕ) (S : Stages) (same : (s : ℕ) → S s ≡ mates_of g v s) where
  tested : (b : Bool) → b ≡ (all_linked g S v && all_fit K prices g S v) → b ≡ cored K prices g v
  tested b e = subst (λ (Z : Stages). b ≡ (all_linked g Z v && all_fit K prices g Z v)) (fun_ext same) e

  pub tested_linked : (a b : Bool) → a ≡ all_linked g S v → a ≡ true → b ≡ all_fit K prices g S v → b ≡ cored K prices g v
  tested_linked a b e t f = tested b (f ∙ ap (λ x. x && all_fit K prices g S v) (sym t ∙ e))

  pub tested_not_linked : (a : Bool) → a ≡ all_linked g S v → a ≡ false → a ≡ cored K prices g v
  tested_not_linked a e t = tested a (t ∙ ap (λ x. x && all_fit K prices g S v) (sym t ∙ e))
