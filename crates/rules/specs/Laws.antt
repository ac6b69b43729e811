-- What the laws of the rules share: that there is a cheapest set, and how an answer by a lowest stage is allowed.
use Rattle.std.specs.Prelude.{◌≡◌, ◌≢◌, ◌==◌, ℕ, zero, suc, ◌<◌, Bool, true, false, not, ◌&&◌, ◌⊎◌, Decides, List, Option, None, Some}
use Rattle.std.proofs.Common.{inl, inr, arith}
use Rattle.std.proofs.lemmas.Bool.{and_parts, cases_Bool}
use Rattle.std.proofs.lemmas.Bool.Decides.{Decides-eqb, Decides-not, nat_tests}
use Rattle.theory.specs.Cheapest.{Cheapest}
use Rattle.theory.specs.Loops.{Breaks, Links, Stages, Within}
use Rattle.theory.specs.Prices.{Kind, Lawful, cost}
use Rattle.theory.specs.Walks.{Free}
use Rattle.theory.proofs.Costs.{cheapest_exists, leq_plus}
use Rattle.theory.proofs.Through.{breaks_by, each_closed, got_one}
use Rattle.price.specs.Costs.{price_at}
use Rattle.graph.proofs.Loops.{within_rows}
use Rattle.rules.specs.declared.action.Action.{Action}
use Rattle.rules.specs.Actions.{Allowed, CheapestAt}
use Rattle.rules.specs.Nets.{Inside, Net, links_in, stage_in}
use Rattle.rules.specs.Searches.{IsLowest, lowest, lowest_is}

-- the test whether two numbers differ decides it
pub differ_decides : (a b : ℕ) → Decides (not (a == b)) (a ≢ b)
differ_decides a b = Decides-not _ (Decides-eqb a b)

-- no link leaves the 64 numbers of stages
pub within_stages : (g : Net) → Inside g → Within 64 (links_in g)
within_stages g i = within_rows g.rows (record { long = i.long; fit = i.rows_fit })

-- The stages of a set that are there.
abbrev there_of : Net → Stages → Stages
there_of g S s = S s && stage_in g s

-- what is not there breaks nothing
there_breaks : (g : Net) → Inside g → (S : Stages) → Breaks (links_in g) S → Breaks (links_in g) (there_of g S)
there_breaks g i S =
    breaks_by L L S (there_of g S)
    (each_closed (Free L (there_of g S)) (Free L S) (λ a b h. let p = and_parts (stage_in g a) (stage_in g b) (i.ends_there a b h.0) in got_one (Free L S) a b (grind (arith, nat_tests))))
  where
    L : Links
    L = links_in g

module _ {P : Type 0} (K : Kind P) (laws : Lawful K) (price : ℕ → P) where
  -- fewer stages cost no more
  fewer_leq : (n : ℕ) (S T : Stages) → ((s : ℕ) → T s ≡ true → S s ≡ true) → K.leq (cost K price n T) (cost K price n S) ≡ true
  fewer_leq zero S T f = laws.least _
  fewer_leq (suc n) S T f = go (cases_Bool (T n)) (cases_Bool (S n)) (fewer_leq n S T f)
    where
      go : (T n ≡ true) ⊎ (T n ≡ false) → (S n ≡ true) ⊎ (S n ≡ false) → K.leq (cost K price n T) (cost K price n S) ≡ true
          → K.leq (cost K price (suc n) T) (cost K price (suc n) S) ≡ true
      go (inl t) s h = rw (t, f n t) (laws.mono _ _ (price n) h)
      go (inr t) (inl s) h = rw (t, s) (laws.trans _ _ _ h (leq_plus P K laws price _ _))
      go (inr t) (inr s) h = rw (t, s) h

module _ {P : Type 0} (K : Kind P) (laws : Lawful K) (prices : List P) (g : Net) (i : Inside g) where
  -- there is a cheapest breaking set of the graph's stages
  pub some_cheapest : (S : Stages) × CheapestAt K prices g S
  some_cheapest = go (cheapest_exists P K laws price 64 (links_in g) (within_stages g i))
    where
      price : ℕ → P
      price = price_at prices K.nothing

      go : (S : Stages) × Cheapest K price 64 (links_in g) S → (S : Stages) × CheapestAt K prices g S
      go (S, C) = (
        there_of g S,
        record {
          of_stages = λ s e. (and_parts _ _ e).1;
          cheapest = record {
            of_stages = λ s e. C.of_stages s (and_parts _ _ e).0;
            breaks = there_breaks g i S C.breaks;
            cheapest = λ Z b. laws.trans _ _ _ (fewer_leq K laws price 64 S (there_of g S) (λ s e. (and_parts _ _ e).0)) (C.cheapest Z b);
          };
        },
      )

  -- an answer by the lowest stage of a test is allowed, if the one for none is and the one for each stage of the test
  pub by_lowest : (answer : Option ℕ → Option Action) (test : ℕ → Bool) → Allowed K prices g (answer None)
      → ((s : ℕ) → s < 64 → test s ≡ true → Allowed K prices g (answer (Some s))) → Allowed K prices g (answer (lowest test))
  by_lowest answer test none f = go (lowest test) (lowest_is test)
    where
      go : (o : Option ℕ) → IsLowest 64 test o → Allowed K prices g (answer o)
      go None h = none
      go (Some s) (l, e, low) = f s l e
