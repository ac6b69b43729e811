-- What IN1, OUT1 and CORE answer, in words.
use Rattle.std.proofs.Common.{◌≡◌, ℕ, ◌<◌, true, List, Option, None, Some, refl, inl, inr}
use Rattle.std.specs.Option.{option_and_then, option_map}
use Rattle.std.proofs.lemmas.Bool.{and_parts, both_ways}
use Rattle.std.proofs.lemmas.Bool.Decides.{not_from_Decides}
use Rattle.theory.specs.Prices.{Kind}
use Rattle.graph.specs.declared.digraph.Digraph.{Digraph}
use Rattle.rules.specs.declared.action.Action.{Action}
use Rattle.rules.specs.declared.action.Action.TheVariants.{Hold, Pass}
use Rattle.rules.specs.CoreLaws.{cored_decides}
use Rattle.rules.specs.CoreRules.{HoldsLowestMate, core_answer}
use Rattle.rules.specs.CoreTests.{Cored, cored, mates_of}
use Rattle.rules.specs.Laws.{within_stages}
use Rattle.rules.specs.NeighbourLaws.{fed_by_one_decides, read_by_one_decides}
use Rattle.rules.specs.NeighbourRules.{in1_answer, out1_answer}
use Rattle.rules.specs.NeighbourTests.{OnlyLinkIn, OnlyLinkOut}
use Rattle.rules.specs.Nets.{inside, net}
use Rattle.rules.specs.Searches.{IsLowest, lowest, lowest_is}
use Rattle.rules.specs.StageRules.{OnLowest}
use Rattle.rules.proofs.StageAnswers.{on_lowest, small}

module _ {P : Type 0} (K : Kind P) (prices : List P) (g : Digraph) (o : Option Action) where
  pub in1_in_words : o ≡ in1_answer K prices (net g) → OnLowest Pass (OnlyLinkIn K prices (net g)) o
  in1_in_words e = rw e (on_lowest Pass _ (OnlyLinkIn K prices (net g)) (fed_by_one_decides K prices (net g) (inside g)) (λ s x. small g s x.0))

  pub out1_in_words : o ≡ out1_answer K prices (net g) → OnLowest Pass (OnlyLinkOut K prices (net g)) o
  out1_in_words e = rw e (on_lowest Pass _ (OnlyLinkOut K prices (net g)) (read_by_one_decides K prices (net g) (inside g)) (λ s x. small g s x.0))

  -- a mate has the number of a stage, and so has its mate
  mate_small : (v m : ℕ) → mates_of (net g) v m ≡ true → (v < 64) × (m < 64)
  mate_small v m e = within_stages (net g) (inside g) v m (and_parts _ _ (and_parts _ _ e).0).0

  pub core_in_words : o ≡ core_answer K prices (net g) → HoldsLowestMate K prices (net g) o
  core_in_words e = rw e (go (lowest (cored K prices (net g))) (lowest_is (cored K prices (net g))))
    where
      words : (v : ℕ) → cored K prices (net g) v ≡ true → Cored K prices (net g) v
      words v = (cored_decides K prices (net g) (inside g) v).0

      held : (v : ℕ) → cored K prices (net g) v ≡ true → ((t : ℕ) → t < v → Cored K prices (net g) t → ⊥) → (p : Option ℕ) → IsLowest 64 (mates_of (net g) v) p
          → HoldsLowestMate K prices (net g) (option_map Hold p)
      held v c low None none = let (m, q) = (words v c).mate in absurd (both_ways _ (none m (mate_small v m q).1) q)
      held v c low (Some m) (l, q, lower) = inl (v, m, refl, words v c, low, q, lower)

      go : (p : Option ℕ) → IsLowest 64 (cored K prices (net g)) p
          → HoldsLowestMate K prices (net g) (option_and_then (λ v. option_map Hold (lowest (mates_of (net g) v))) p)
      go None none = inr (refl, λ v c. let (m, q) = c.mate in not_from_Decides _ (cored_decides K prices (net g) (inside g) v) (none v (mate_small v m q).0) c)
      go (Some v) (l, c, low) =
          held v c (λ t b. not_from_Decides _ (cored_decides K prices (net g) (inside g) t) (low t b)) (lowest (mates_of (net g) v)) (lowest_is (mates_of (net g) v))
