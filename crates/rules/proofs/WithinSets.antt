-- Sets within sets.
use Rattle.std.proofs.Common.{◌≡◌, ℕ, ap, ◌∙◌}
use mathlib.Core.Path.{fun_ext}
use Rattle.theory.specs.Loops.{Stages}
use Rattle.rules.specs.LinkTests.{each_in}

-- `each_in` depends on the stages of its sets alone
pub same_each_in : (A B F G : Stages) → ((s : ℕ) → A s ≡ F s) → ((s : ℕ) → B s ≡ G s) → each_in A B ≡ each_in F G
same_each_in A B F G a b = ap (λ X. each_in X B) (fun_ext a) ∙ ap (each_in F) (fun_ext b)
