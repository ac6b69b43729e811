-- What the rules on single stages answer, in words.
use Rattle.std.proofs.Common.{◌≡◌, ℕ, ◌<◌, Bool, true, Option, None, Some, Decides, refl, inl, inr}
use Rattle.std.specs.Option.{option_map}
use Rattle.std.proofs.lemmas.Bool.Decides.{Decides-and, not_from_Decides}
use Rattle.graph.proofs.Marks.{mark_below}
use Rattle.graph.specs.declared.digraph.Digraph.{Digraph}
use Rattle.rules.specs.declared.action.Action.{Action}
use Rattle.rules.specs.declared.action.Action.TheVariants.{Hold, Pass}
use Rattle.rules.specs.Nets.{net, inside, stage_in}
use Rattle.rules.specs.Searches.{IsLowest, lowest, lowest_is}
use Rattle.rules.specs.StageLaws.{none_after_decides, none_before_decides}
use Rattle.rules.specs.StageRules.{OnLowest, in0_answer, loop_answer, out0_answer}
use Rattle.rules.specs.StageTests.{NoneAfter, NoneBefore, SelfLinked}

-- the action on the lowest stage that passes a test is on the lowest of which X holds, if the test decides X
pub on_lowest : (act : ℕ → Action) (test : ℕ → Bool) (X : ℕ → Type 0) → ((s : ℕ) → Decides (test s) (X s)) → ((s : ℕ) → X s → s < 64)
    → OnLowest act X (option_map act (lowest test))
on_lowest act test X d small = go (lowest test) (lowest_is test)
  where
    go : (o : Option ℕ) → IsLowest 64 test o → OnLowest act X (option_map act o)
    go None h = inr (refl, λ s x. not_from_Decides (test s) (d s) (h s (small s x)) x)
    go (Some s) (l, e, low) = inl (s, refl, (d s).0 e, λ t b. not_from_Decides (test t) (d t) (low t b))

-- a stage that is there has the number of a stage
pub small : (g : Digraph) (s : ℕ) → stage_in (net g) s ≡ true → s < 64
small g s h = mark_below g.stages.word s g.stages.fits h

pub loop_in_words : (g : Digraph) (o : Option Action) → o ≡ loop_answer (net g) → OnLowest Hold (SelfLinked (net g)) o
loop_in_words g o e =
    rw e (on_lowest Hold _ (SelfLinked (net g)) (λ s. Decides-and _ _ ((λ h. h), (λ h. h)) ((λ h. h), (λ h. h))) (λ s x. small g s x.0))

pub in0_in_words : (g : Digraph) (o : Option Action) → o ≡ in0_answer (net g) → OnLowest Pass (NoneBefore (net g)) o
in0_in_words g o e = rw e (on_lowest Pass _ (NoneBefore (net g)) (none_before_decides (net g) (inside g)) (λ s x. small g s x.0))

pub out0_in_words : (g : Digraph) (o : Option Action) → o ≡ out0_answer (net g) → OnLowest Pass (NoneAfter (net g)) o
out0_in_words g o e = rw e (on_lowest Pass _ (NoneAfter (net g)) (none_after_decides (net g) (inside g)) (λ s x. small g s x.0))
