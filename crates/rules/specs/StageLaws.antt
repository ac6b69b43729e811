-- Why the answers of the rules on single stages are allowed.
use Rattle.std.specs.Prelude.{◌≡◌, ℕ, ◌<◌, true, List, [], ◌≢◌, Some, Decides}
use Rattle.std.specs.Option.{option_map}
use Rattle.std.proofs.Common.{refl, arith}
use Rattle.std.proofs.Math.Bool.{or-false}
use Rattle.std.proofs.lemmas.Bool.{and_parts, both_ways, false_from_ne_true}
use Rattle.std.proofs.lemmas.Bool.Decides.{Decides-and, nat_tests}
use Rattle.theory.specs.Loops.{Breaks, Link, Links, Stages}
use Rattle.theory.specs.Moves.{without_stage}
use Rattle.theory.specs.Prices.{Kind, Lawful}
use Rattle.theory.specs.Walks.{Free}
use Rattle.theory.proofs.Costs.{leq_without}
use Rattle.theory.proofs.Through.{breaks_by, got_one, through}
use Rattle.price.specs.Costs.{price_at}
use Rattle.rules.specs.declared.action.Action.TheVariants.{Hold, Pass}
use Rattle.rules.specs.Laws.{by_lowest, some_cheapest, within_stages}
use Rattle.rules.specs.Actions.{Allowed, Passable}
use Rattle.rules.specs.Nets.{Inside, Net, links_in, stage_in}
use Rattle.rules.specs.Searches.{none_passes_decides}
use Rattle.rules.specs.StageRules.{in0_answer, loop_answer, out0_answer}
use Rattle.rules.specs.StageTests.{NoneAfter, NoneBefore, none_after, none_before, self_linked}

pub none_before_decides : (g : Net) → Inside g → (s : ℕ) → Decides (none_before g s) (NoneBefore g s)
none_before_decides g i s =
    Decides-and _ _ ((λ e. e), (λ e. e)) (none_passes_decides (λ u. links_in g u s) (λ u e. (within_stages g i u s e).0))

pub none_after_decides : (g : Net) → Inside g → (s : ℕ) → Decides (none_after g s) (NoneAfter g s)
none_after_decides g i s =
    Decides-and _ _ ((λ e. e), (λ e. e)) (none_passes_decides (λ w. links_in g s w) (λ w e. (within_stages g i s w e).1))

-- a stage that no walk passes is needed by no breaking set
module _ (L : Links) (S : Stages) (v : ℕ) (dead : (p y : ℕ) → Link L p v → Link L v y → ⊥) where
  others : (a b : ℕ) → a ≢ v → b ≢ v → Free L (without_stage S v) a b → Free L S a b
  others a b na nb h = grind (arith, nat_tests)

  breaks_without : Breaks L S → Breaks L (without_stage S v)
  breaks_without =
      breaks_by L L S (without_stage S v)
      (through _ _ v (λ h. absurd (dead v v h.0 h.0)) (λ a b na nb h. got_one _ a b (others a b na nb h)) (λ a b na nb h k. absurd (dead a b h.0 k.0)))

module _ {P : Type 0} (K : Kind P) (laws : Lawful K) (prices : List P) (g : Net) (i : Inside g) where
  -- a self-link is a loop of its stage alone
  pub loop_lawful : Allowed K prices g (loop_answer g)
  loop_lawful = by_lowest K laws prices g i (option_map Hold) (self_linked g) tt hold
    where
      hold : (s : ℕ) → s < 64 → self_linked g s ≡ true → Allowed K prices g (Some (Hold s))
      hold s l e =
          let p = and_parts _ _ e in
          let S = some_cheapest K laws prices g i in
          let met = S.1.cheapest.breaks (record { first = s; rest = []; apart = refl; closed = p.1 }) in
          record { there = p.0; cheapest = (S.0, S.1, rw or-false at met) }

  -- a cheapest breaking set without a stage that no walk passes
  pass : (s : ℕ) → s < 64 → stage_in g s ≡ true → ((p y : ℕ) → Link (links_in g) p s → Link (links_in g) s y → ⊥) → Passable K prices g s
  pass s l there dead =
      let (S, C) = some_cheapest K laws prices g i in
      let price = price_at prices K.nothing in
      record {
        there = there;
        no_self_link = false_from_ne_true _ (λ e. dead s s e e);
        cheapest = (
          without_stage S s,
          record {
            of_stages = λ t e. C.of_stages t (and_parts _ _ e).0;
            cheapest = record {
              of_stages = λ t e. C.cheapest.of_stages t (and_parts _ _ e).0;
              breaks = breaks_without (links_in g) S s dead C.cheapest.breaks;
              cheapest = λ Z h. laws.trans _ _ _ (leq_without P K laws price 64 s S l) (C.cheapest.cheapest Z h);
            };
          },
          grind (arith, nat_tests),
        );
      }

  -- no walk passes a stage without links in
  pub in0_lawful : Allowed K prices g (in0_answer g)
  in0_lawful =
      by_lowest K laws prices g i (option_map Pass) (none_before g) tt
      (λ s l e. let h = (none_before_decides g i s).0 e in pass s l h.0 (λ p y into out. both_ways _ (h.1 p) into))

  -- or without links out
  pub out0_lawful : Allowed K prices g (out0_answer g)
  out0_lawful =
      by_lowest K laws prices g i (option_map Pass) (none_after g) tt
      (λ s l e. let h = (none_after_decides g i s).0 e in pass s l h.0 (λ p y into out. both_ways _ (h.1 y) out))
