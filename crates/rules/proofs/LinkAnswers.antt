-- What the rules on links answer, in words.
use Rattle.std.proofs.Common.{◌≡◌, ℕ, ◌<◌, not, ◌&&◌, eqb, Option, None, Some, Decides, refl, ap, ◌∙◌, inl, inr}
use mathlib.Core.Path.{fun_ext}
use Rattle.std.specs.Option.{option_map}
use Rattle.std.proofs.lemmas.Bool.{and_parts}
use Rattle.std.proofs.lemmas.Bool.Decides.{not_from_Decides, same_from_decides}
use Rattle.theory.specs.Loops.{Link, Links}
use Rattle.theory.specs.Mates.{unpaired}
use Rattle.theory.specs.Reach.{reaches}
use Rattle.theory.specs.Walks.{Walk}
use Rattle.graph.proofs.Columns.{reach_walks}
use Rattle.graph.proofs.Loops.{within_rows}
use Rattle.graph.proofs.Rows.{rows_of}
use Rattle.graph.specs.Digraphs.{links}
use Rattle.graph.specs.StageSets.{words}
use Rattle.graph.specs.declared.digraph.Digraph.{Digraph}
use Rattle.rules.specs.declared.action.Action.{Action}
use Rattle.rules.specs.LinkLaws.{dominated_link_decides, off_unpaired_loop_decides}
use Rattle.rules.specs.LinkRules.{DropsLowest, dome_answer, drop_link, pie_answer}
use Rattle.rules.specs.LinkSearches.{IsLowestLink, lowest_link, lowest_link_is}
use Rattle.rules.specs.LinkTests.{DominatedLink, OffUnpairedLoop, OneWay, off_unpaired_loop}
use Rattle.rules.specs.Nets.{inside, net}

-- the lowest link that passes a test is the lowest of which X holds, if the test decides X
drops_lowest : (test : Links) (X : ℕ → ℕ → Type 0) → ((u w : ℕ) → Decides (test u w) (X u w)) → ((u w : ℕ) → X u w → (u < 64) × (w < 64))
    → DropsLowest X (option_map drop_link (lowest_link test))
drops_lowest test X d small = go (lowest_link test) (lowest_link_is test)
  where
    go : (o : Option (ℕ × ℕ)) → IsLowestLink test o → DropsLowest X (option_map drop_link o)
    go None h = inr (refl, λ u w x. let p = small u w x in not_from_Decides (test u w) (d u w) (h u w p.0 p.1) x)
    go (Some (u, w)) (l, k, e, low) =
        inl (u, w, refl, (d u w).0 e, λ t x b y. let p = small t x y in not_from_Decides (test t x) (d t x) (low t x p.0 p.1 b) y)

-- a link is between numbers of stages
small : (g : Digraph) (u w : ℕ) → OneWay (net g) u w → (u < 64) × (w < 64)
small g u w h = within_rows (words g.rows) (rows_of g) u w (and_parts _ _ h.0).0

pub pie_in_words : (g : Digraph) (o : Option Action) → o ≡ pie_answer (net g) → DropsLowest (OffUnpairedLoop (net g)) o
pie_in_words g o e = rw e (drops_lowest _ (OffUnpairedLoop (net g)) (off_unpaired_loop_decides (net g) (inside g)) (λ u w h. small g u w h.0))

pub dome_in_words : (g : Digraph) (o : Option Action) → o ≡ dome_answer (net g) → DropsLowest (DominatedLink (net g)) o
dome_in_words g o e = rw e (drops_lowest _ (DominatedLink (net g)) (dominated_link_decides (net g) (inside g)) (λ u w h. small g u w h.0))

-- PIE's test, asked of the unpaired links and of what they reach
pub leads_away_test : (g h r : Digraph) → ((a b : ℕ) → links h a b ≡ unpaired (links g) a b) → ((a b : ℕ) → Decides (links r a b) (Walk (Link (links h)) a b))
    → (u w : ℕ) → (links h u w && not (eqb u w) && not (links r w u)) ≡ off_unpaired_loop (net g) u w
leads_away_test g h r e d u w =
    ap (λ x. links h u w && not (eqb u w) && not x) (same_from_decides _ _ (d w u) (reach_walks h w u))
    ∙ ap (λ L. L u w && not (eqb u w) && not (reaches 64 L w u)) (fun_ext (λ a. fun_ext (λ b. e a b)))
