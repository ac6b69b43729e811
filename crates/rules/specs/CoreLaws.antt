-- Why CORE may hold the lowest mate: of a stage and its mates all but one are in each breaking set, and the stage makes way
-- for the mate that is not.
use Rattle.std.specs.Prelude.{◌≡◌, ℕ, ◌<◌, Bool, true, false, not, ◌&&◌, ◌||◌, ◌==◌, ◌⊎◌, ◌≢◌, List, [], ◌∷◌, Option, None, Some, Decides, is_none}
use Rattle.std.specs.Option.{option_and_then, option_map}
use Rattle.std.proofs.Common.{refl, sym, inl, inr, ⊎_elim, arith}
use Rattle.std.proofs.lemmas.Bool.{and_from, and_parts, both_ways, cases_Bool, cases_eq, false≢true, false_from_ne_true, or_cases, or_left, or_right}
use Rattle.std.proofs.lemmas.Bool.Decides.{Decides-and, Decides-like, nat_tests}
use Rattle.theory.specs.Loops.{Breaks, Link, Links, Stages}
use Rattle.theory.specs.Mates.{mates}
use Rattle.theory.specs.Prices.{Kind, Lawful}
use Rattle.rules.specs.declared.action.Action.TheVariants.{Hold}
use Rattle.rules.specs.Actions.{Allowed, CheapestAt, Holdable}
use Rattle.rules.specs.CoreRules.{core_answer}
use Rattle.rules.specs.CoreTests.{Cored, cored, fits, mates_of}
use Rattle.rules.specs.Laws.{by_lowest, differ_decides, some_cheapest, within_stages}
use Rattle.rules.specs.NeighbourLaws.{replaced, replaced_at, replaced_has, replaced_keeps}
use Rattle.rules.specs.NeighbourTests.{not_dearer}
use Rattle.rules.specs.Nets.{Inside, Net, links_in, stage_in}
use Rattle.rules.specs.Searches.{none_passes, none_passes_decides, IsLowest, lowest, lowest_is}

-- some number passes the test exactly if it is not so that none does
some_decides : (test : ℕ → Bool) → ((s : ℕ) → test s ≡ true → s < 64) → Decides (not (none_passes test)) ((s : ℕ) × (test s ≡ true))
some_decides test small = go (lowest test) (lowest_is test)
  where
    go : (o : Option ℕ) → IsLowest 64 test o → Decides (not (is_none o)) ((s : ℕ) × (test s ≡ true))
    go None h = (λ f. absurd (false≢true f), λ x. absurd (both_ways (test x.0) (h x.0 (small x.0 x.1)) x.1))
    go (Some s) (l, e, low) = (λ _. (s, e), λ _. refl)

-- ---- what two mates are

links_of_mates : (L : Links) (a b : ℕ) → mates L a b ≡ true → Link L a b × Link L b a × (a ≢ b)
links_of_mates L a b e = let p = and_parts _ _ e in let q = and_parts _ _ p.0 in (q.0, q.1, (differ_decides a b).0 p.1)

mates_from_links : (L : Links) (a b : ℕ) → Link L a b → Link L b a → a ≢ b → mates L a b ≡ true
mates_from_links L a b p q n = and_from _ _ (and_from _ _ p q) ((differ_decides a b).1 n)

-- one of two mates is in each breaking set
mate_in : (L : Links) (S : Stages) (a b : ℕ) → Breaks L S → mates L a b ≡ true → S a ≡ false → S b ≡ true
mate_in L S a b k e out = grind (arith, met)
  where
    m : Link L a b × Link L b a × (a ≢ b)
    m = links_of_mates L a b e

    met : (S a || (S b || false)) ≡ true
    met = k (record { first = a; rest = b ∷ []; apart = grind (arith, nat_tests, m.2); closed = (m.0, m.1) })

-- ---- what the test decides

not_decides : (b : Bool) → Decides (not b) (b ≡ false)
not_decides true = (λ f. absurd (false≢true f), λ f. absurd (false≢true (sym f)))
not_decides false = (λ _. refl, λ _. refl)

-- what a test leaves out of another one is nothing
inside_from : (a b : Bool) → (a && not b) ≡ false → a ≡ true → b ≡ true
inside_from a b h e = grind arith

inside_to : (a b : Bool) → (a ≡ true → b ≡ true) → (a && not b) ≡ false
inside_to true b f = rw (f refl)
inside_to false b f = refl

module _ {P : Type 0} (K : Kind P) (prices : List P) (g : Net) (i : Inside g) (v : ℕ) where
  mate_small : (w : ℕ) → mates_of g v w ≡ true → w < 64
  mate_small w e = (within_stages g i v w (links_of_mates (links_in g) v w e).0).1

  linked_small : (w : ℕ) → (links_in g v w || links_in g w v) ≡ true → w < 64
  linked_small w e = ⊎_elim (λ h. (within_stages g i v w h).1) (λ h. (within_stages g i w v h).0) (or_cases _ _ e)

  -- Mate w has no self-link and a link to each other mate, and is not dearer than v.
  Fits : ℕ → Type 0
  Fits w = (links_in g w w ≡ false) × (((t : ℕ) → (mates_of g v t && not (t == w)) ≡ true → Link (links_in g) w t) × (not_dearer K prices w v ≡ true))

  fits_decides : (w : ℕ) → Decides (fits K prices g (mates_of g v) v w) (Fits w)
  unfolding Fits
  fits_decides w =
      Decides-and _ _ (not_decides (links_in g w w))
      (Decides-and _ _
      (Decides-like _ (λ f t. inside_from _ _ (f t)) (λ f t. inside_to _ _ (f t))
      (none_passes_decides (λ t. (mates_of g v t && not (t == w)) && not (links_in g w t)) (λ t e. mate_small t (and_parts _ _ (and_parts _ _ e).0).0)))
      ((λ e. e), (λ e. e)))

  Parts : Type 0
  Parts =
      (((m : ℕ) × (mates_of g v m ≡ true))
      × ((w : ℕ) → ((links_in g v w || links_in g w v) && not (mates_of g v w)) ≡ false))
      × ((w : ℕ) → (mates_of g v w && not (fits K prices g (mates_of g v) v w)) ≡ false)

  in_words : Parts → Cored K prices g v
  unfolding Parts Fits
  in_words ((m, paired), fit) =
      record {
        mate = m;
        paired_out = out;
        paired_in = λ w e. inside_from _ _ (paired w) (or_right _ _ e);
        each_other = λ w t p q n. mates_from_links (links_in g) w t (link w t p q n) (link t w q p (λ h. n (sym h))) n;
        no_own_self_link = false_from_ne_true _ (λ e. (links_of_mates (links_in g) v v (out v e)).2 refl);
        no_self_link = λ w p. (each w p).0;
        none_dearer = λ w p. (each w p).1.1;
      }
    where
      out : (w : ℕ) → Link (links_in g) v w → mates_of g v w ≡ true
      out w e = inside_from _ _ (paired w) (or_left _ _ e)

      each : (w : ℕ) → mates_of g v w ≡ true → Fits w
      each w p = (fits_decides w).0 (inside_from _ _ (fit w) p)

      link : (w t : ℕ) → mates_of g v w ≡ true → mates_of g v t ≡ true → w ≢ t → Link (links_in g) w t
      link w t p q n = (each w p).1.0 t (and_from _ _ q ((differ_decides t w).1 (λ h. n (sym h))))

  from_words : Cored K prices g v → Parts
  unfolding Parts Fits
  from_words c = (
    (c.mate, λ w. inside_to _ _ (λ e. ⊎_elim (c.paired_out w) (c.paired_in w) (or_cases _ _ e))),
    λ w. inside_to _ _ (λ p. (fits_decides w).1 (c.no_self_link w p, (λ t e. let q = and_parts _ _ e in (links_of_mates (links_in g) w t (c.each_other w t p q.0 (λ h. (differ_decides t w).0 q.1 (sym h)))).0, c.none_dearer w p))),
  )

  pub cored_decides : Decides (cored K prices g v) (Cored K prices g v)
  unfolding Parts
  cored_decides =
      Decides-like _ in_words from_words
      (Decides-and _ _
      (Decides-and _ _ (some_decides (mates_of g v) mate_small)
      (none_passes_decides (λ w. (links_in g v w || links_in g w v) && not (mates_of g v w)) (λ w e. linked_small w (and_parts _ _ e).0)))
      (none_passes_decides (λ w. mates_of g v w && not (fits K prices g (mates_of g v) v w)) (λ w e. mate_small w (and_parts _ _ e).0)))

-- ---- why the answer is allowed

module _ {P : Type 0} (K : Kind P) (laws : Lawful K) (prices : List P) (g : Net) (i : Inside g) where
  -- a mate m of such a stage v is in a cheapest set, or takes the place of v there, where all other mates are
  mate_holdable : (v m : ℕ) → Cored K prices g v → mates_of g v m ≡ true → Holdable K prices g m
  mate_holdable v m c e =
      let (S, h) = some_cheapest K laws prices g i in
      record { there = there; cheapest = go S h (cases_Bool (S m)) }
    where
      l : Link (links_in g) v m × Link (links_in g) m v × (v ≢ m)
      l = links_of_mates (links_in g) v m e

      there : stage_in g m ≡ true
      there = (and_parts (stage_in g v) (stage_in g m) (i.ends_there v m l.0)).1

      -- each mate of v is in the new set
      mate_met : (S : Stages) → CheapestAt K prices g S → S m ≡ false → (p : ℕ) → mates_of g v p ≡ true → replaced S v m p ≡ true
      mate_met S h out p q =
          ⊎_elim (replaced_has S v m p)
          (λ (n : p ≢ m). replaced_keeps S v m p (mate_in (links_in g) S m p h.cheapest.breaks (c.each_other m p e q (λ t. n (sym t))) out) (λ t. (links_of_mates (links_in g) v p q).2 (sym t)))
          (cases_eq p m)

      go : (S : Stages) → CheapestAt K prices g S → (S m ≡ true) ⊎ (S m ≡ false) → (Z : Stages) × CheapestAt K prices g Z × (Z m ≡ true)
      go S h (inl here) = (S, h, here)
      go S h (inr out) = (
        replaced S v m,
        replaced_at K laws prices g S v m h
            (mate_in (links_in g) S m v h.cheapest.breaks (mates_from_links (links_in g) m v l.1 l.0 (λ t. l.2 (sym t))) out)
            there (within_stages g i v m l.0).1 (c.none_dearer m e)
            (λ p y r q. inl (mate_met S h out p (c.paired_in p r))),
        replaced_has S v m m refl,
      )

  pub core_lawful : Allowed K prices g (core_answer K prices g)
  core_lawful =
      by_lowest K laws prices g i (option_and_then (λ v. option_map Hold (lowest (mates_of g v)))) (cored K prices g) tt
      (λ v _ e. by_lowest K laws prices g i (option_map Hold) (mates_of g v) tt (λ m _ q. mate_holdable v m ((cored_decides K prices g i v).0 e) q))
