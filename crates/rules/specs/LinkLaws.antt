-- What the tests of links decide, and why the answers of the rules on links are allowed.
use Rattle.std.specs.Prelude.{◌≡◌, ℕ, ◌<◌, true, not, ◌&&◌, List, Option, None, Some, Decides, is_none}
use Rattle.std.specs.Option.{option_map}
use Rattle.std.proofs.Common.{refl, arith}
use Rattle.std.proofs.lemmas.Bool.{and_from, and_parts, both_ways, false≢true, not-true}
use Rattle.std.proofs.lemmas.Bool.Decides.{Decides-and, Decides-not, Decides-or, nat_tests}
use Rattle.theory.specs.Loops.{Links, Stages, Within}
use Rattle.theory.specs.Mates.{unpaired}
use Rattle.theory.specs.Prices.{Kind}
use Rattle.theory.specs.Reach.{OnLoop, reaches}
use Rattle.theory.proofs.Dropping.{dominated as dominated_drops, off_loops}
use Rattle.theory.proofs.Reaching.{on_loop_iff_reached_back}
use Rattle.rules.specs.Actions.{Allowed, Droppable}
use Rattle.rules.specs.LinkRules.{dome_answer, drop_link, pie_answer}
use Rattle.rules.specs.LinkSearches.{IsLowestLink, lowest_link, lowest_link_is}
use Rattle.rules.specs.LinkTests.{DominatedLink, OffUnpairedLoop, OneWay, dominated_link, each_in, off_unpaired_loop, one_way}
use Rattle.rules.specs.Laws.{differ_decides, within_stages}
use Rattle.rules.specs.Nets.{Inside, Net, links_in}
use Rattle.rules.specs.Searches.{IsLowest, lowest, lowest_is}

within_unpaired : (g : Net) → Inside g → Within 64 (unpaired (links_in g))
within_unpaired g i a b h = within_stages g i a b (and_parts _ _ h).0

one_way_decides : (g : Net) (u w : ℕ) → Decides (one_way g u w) (OneWay g u w)
one_way_decides g u w = Decides-and _ _ ((λ h. h), (λ h. h)) (differ_decides u w)

-- what the tests of PIE and DOME decide
pub off_unpaired_loop_decides : (g : Net) → Inside g → (u w : ℕ) → Decides (off_unpaired_loop g u w) (OffUnpairedLoop g u w)
off_unpaired_loop_decides g i u w = (
  λ e. let p = and_parts _ _ e in let o = (one_way_decides g u w).0 p.0 in (o, (off o).0 p.1),
  λ h. and_from _ _ ((one_way_decides g u w).1 h.0) ((off h.0).1 h.1),
)
  where
    off : OneWay g u w → Decides (not (reaches 64 (unpaired (links_in g)) w u)) (OnLoop (unpaired (links_in g)) u w → ⊥)
    off o = Decides-not _ (on_loop_iff_reached_back 64 _ (within_unpaired g i) u w o.0)

-- stages below 64 are in B exactly if their test says so
pub each_in_decides : (A B : Stages) → ((s : ℕ) → A s ≡ true → s < 64) → Decides (each_in A B) ((s : ℕ) → A s ≡ true → B s ≡ true)
each_in_decides A B small = go (lowest (λ s. A s && not (B s))) (lowest_is _)
  where
    go : (o : Option ℕ) → IsLowest 64 (λ s. A s && not (B s)) o → Decides (is_none o) ((s : ℕ) → A s ≡ true → B s ≡ true)
    go None h = (λ _ s a. let n = h s (small s a) in grind (arith, nat_tests), λ _. refl)
    go (Some s) (l, e, low) = (λ f. absurd (false≢true f), λ f. let p = and_parts _ _ e in absurd (both_ways _ (not-true _ p.1) (f s p.0)))

pub dominated_link_decides : (g : Net) → Inside g → (u v : ℕ) → Decides (dominated_link g u v) (DominatedLink g u v)
dominated_link_decides g i u v =
    Decides-and _ _ (one_way_decides g u v)
    (Decides-or _ _
    (each_in_decides (λ p. unpaired (links_in g) p u) (λ p. links_in g p v) (λ p h. (within_unpaired g i p u h).0))
    (each_in_decides (unpaired (links_in g) v) (links_in g u) (λ y h. (within_unpaired g i v y h).1)))

-- to drop a link is allowed at the lowest that passes a test, if each that passes may be dropped
at_lowest : {P : Type 0} (K : Kind P) (prices : List P) (g : Net) (test : Links) → ((u w : ℕ) → test u w ≡ true → Droppable g u w)
    → Allowed K prices g (option_map drop_link (lowest_link test))
at_lowest K prices g test f = go (lowest_link test) (lowest_link_is test)
  where
    go : (o : Option (ℕ × ℕ)) → IsLowestLink test o → Allowed K prices g (option_map drop_link o)
    go None h = tt
    go (Some (u, w)) (l, k, e, low) = f u w e

pub pie_lawful : {P : Type 0} (K : Kind P) (prices : List P) (g : Net) → Inside g → Allowed K prices g (pie_answer g)
pie_lawful K prices g i =
    at_lowest K prices g _
    (λ u w e.
    let h = (off_unpaired_loop_decides g i u w).0 e in
    record { there = (and_parts _ _ h.0.0).0; freely = off_loops (links_in g) u w h.0.0 h.1 })

pub dome_lawful : {P : Type 0} (K : Kind P) (prices : List P) (g : Net) → Inside g → Allowed K prices g (dome_answer g)
dome_lawful K prices g i =
    at_lowest K prices g _
    (λ u v e.
    let h = (dominated_link_decides g i u v).0 e in
    record { there = (and_parts _ _ h.0.0).0; freely = dominated_drops (links_in g) u v h.0.1 h.0.0 h.1 })
