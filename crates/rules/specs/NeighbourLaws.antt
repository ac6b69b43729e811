-- Why IN1 and OUT1 may pass a stage with one neighbour: the neighbour takes its place in a cheapest set.
use Rattle.std.specs.Prelude.{◌≡◌, ℕ, ◌<◌, Bool, true, false, not, ◌&&◌, ◌==◌, ◌⊎◌, ◌≢◌, List, Option, None, Some, Decides, if◌then◌else◌}
use Rattle.std.specs.Option.{option_map}
use Rattle.std.proofs.Common.{refl, sym, subst, ◌∙◌, inl, inr, ⊎_elim, arith}
use Rattle.std.proofs.lemmas.Bool.{and_from, and_parts, both_ways, cases_Bool, cases_eq, eqb-true, false≢true, or_cases}
use Rattle.std.proofs.lemmas.Bool.Decides.{Decides-and, nat_tests}
use Rattle.theory.specs.Cheapest.{Cheapest}
use Rattle.theory.specs.Loops.{Link, Links, Stages, Breaks}
use Rattle.theory.specs.Moves.{with_stage, without_stage}
use Rattle.theory.specs.Prices.{Kind, Lawful}
use Rattle.theory.specs.Walks.{Free}
use Rattle.theory.proofs.Costs.{swap_makes_no_set_dearer}
use Rattle.theory.proofs.Through.{Got, breaks_by, got_one, through}
use Rattle.price.specs.Costs.{price_at}
use Rattle.rules.specs.declared.action.Action.TheVariants.{Pass}
use Rattle.rules.specs.Laws.{by_lowest, differ_decides, some_cheapest, within_stages}
use Rattle.rules.specs.Actions.{Allowed, CheapestAt, Passable}
use Rattle.rules.specs.NeighbourRules.{in1_answer, out1_answer}
use Rattle.rules.specs.NeighbourTests.{OnlyLinkIn, OnlyLinkOut, OnlyOther, alone, fed_by_one, none_but, not_dearer, only, read_by_one, stands_in}
use Rattle.rules.specs.Nets.{Inside, Net, links_in, stage_in}
use Rattle.rules.specs.Searches.{none_passes_decides, IsLowest, lowest, lowest_is}

-- Stage u in the place of stage v.
abbrev pub replaced : Stages → ℕ → ℕ → Stages
replaced S v u = with_stage (without_stage S v) u

pub replaced_has : (S : Stages) (v u s : ℕ) → s ≡ u → replaced S v u s ≡ true
replaced_has S v u s e = grind (arith, nat_tests)

pub replaced_keeps : (S : Stages) (v u s : ℕ) → S s ≡ true → s ≢ v → replaced S v u s ≡ true
replaced_keeps S v u s e n = grind (arith, nat_tests)

replaced_lacks : (S : Stages) (v u : ℕ) → u ≢ v → replaced S v u v ≡ false
replaced_lacks S v u n = grind (arith, nat_tests)

-- the test of what else is in a set decides it
pub none_but_decides : (S : Stages) (s : ℕ) → ((t : ℕ) → S t ≡ true → t < 64) → Decides (none_but S s) ((t : ℕ) → (S t && not (t == s)) ≡ false)
none_but_decides S s small = none_passes_decides (λ t. S t && not (t == s)) (λ t e. small t (and_parts _ _ e).0)

-- if each walk through v meets the set with u in the place of v, that set breaks what the old one does
replaced_breaks : (L : Links) (S : Stages) (v u : ℕ)
    → ((p y : ℕ) → Link L p v → Link L v y → (replaced S v u p ≡ true) ⊎ (replaced S v u y ≡ true))
    → Breaks L S → Breaks L (replaced S v u)
replaced_breaks L S v u meets =
    breaks_by L L S (replaced S v u) (through R Q v (λ r. absurd (met v v r r)) direct (λ p y _ _ r q. absurd (met p y r q)))
  where
    R : ℕ → ℕ → Type 0
    R = Free L (replaced S v u)

    Q : ℕ → ℕ → Type 0
    Q = Free L S

    met : (p y : ℕ) → Free L (replaced S v u) p v → Free L (replaced S v u) v y → ⊥
    met p y r q = ⊎_elim (both_ways _ r.1) (both_ways _ q.2) (meets p y r.0 q.0)

    still : (s : ℕ) → s ≢ v → replaced S v u s ≡ false → S s ≡ false
    still s n e = grind (arith, nat_tests)

    direct : (p x : ℕ) → p ≢ v → x ≢ v → Free L (replaced S v u) p x → Got (Free L S) p x
    direct p x np nx r = got_one (Free L S) p x (r.0, still p np r.1, still x nx r.2)

-- a stage that is not dearer takes the place of v in a cheapest set, if each walk through v then meets the set
pub replaced_cheapest : {P : Type 0} (K : Kind P) (laws : Lawful K) (price : ℕ → P) (L : Links) (S : Stages) (v u : ℕ)
    → Cheapest K price 64 L S → S v ≡ true → u < 64 → K.leq (price u) (price v) ≡ true
    → ((p y : ℕ) → Link L p v → Link L v y → (replaced S v u p ≡ true) ⊎ (replaced S v u y ≡ true))
    → Cheapest K price 64 L (replaced S v u)
replaced_cheapest {P} K laws price L S v u c here below leq meets =
    record {
      of_stages = λ s e. ⊎_elim (λ h. c.of_stages s (and_parts _ _ h).0) (λ h. let q = eqb-true s u h in omega arith) (or_cases _ _ e);
      breaks = replaced_breaks L S v u meets c.breaks;
      cheapest = λ Z b. laws.trans _ _ _ (swap_makes_no_set_dearer P K laws price 64 v u S (c.of_stages v here) below here leq) (c.cheapest Z b);
    }

-- the same of the graph's stages at the prices of a table
pub replaced_at : {P : Type 0} (K : Kind P) (laws : Lawful K) (prices : List P) (g : Net) (S : Stages) (v u : ℕ)
    → CheapestAt K prices g S → S v ≡ true → stage_in g u ≡ true → u < 64 → not_dearer K prices u v ≡ true
    → ((p y : ℕ) → Link (links_in g) p v → Link (links_in g) v y → (replaced S v u p ≡ true) ⊎ (replaced S v u y ≡ true))
    → CheapestAt K prices g (replaced S v u)
replaced_at K laws prices g S v u c here near below leq meets =
    record {
      of_stages = λ s e. ⊎_elim (λ h. c.of_stages s (and_parts _ _ h).0) (λ h. rw (eqb-true s u h) near) (or_cases _ _ e);
      cheapest = replaced_cheapest K laws (price_at prices K.nothing) (links_in g) S v u c.cheapest here below leq meets;
    }

-- ---- what the tests decide

-- no other stage is in the set
others_out : (S : Stages) (u t : ℕ) → (S t && not (t == u)) ≡ false → t ≢ u → S t ≡ false
others_out S u t e n = grind (arith, nat_tests)

no_other : (S : Stages) (u t : ℕ) → (t ≢ u → S t ≡ false) → (S t && not (t == u)) ≡ false
no_other S u t f = ⊎_elim (λ (e : t ≡ u). grind (arith, nat_tests)) (λ (n : t ≢ u). let e = f n in grind (arith, nat_tests)) (cases_eq t u)

module _ {P : Type 0} (K : Kind P) (prices : List P) (S : Stages) (v : ℕ) (small : (t : ℕ) → S t ≡ true → t < 64) where
  -- the stage that stands in for v is the only one of the set
  stands_in_decides : Decides (stands_in K prices v (only S)) ((u : ℕ) × OnlyOther K prices S v u)
  stands_in_decides = go (lowest S) (lowest_is S)
    where
      go : (o : Option ℕ) → IsLowest 64 S o → Decides (stands_in K prices v (alone S o)) ((u : ℕ) × OnlyOther K prices S v u)
      go None none = (λ f. absurd (false≢true f), λ x. absurd (both_ways _ (none x.0 (small x.0 x.1.among)) x.1.among))
      go (Some s) (l, e, low) = at_s (none_but S s) (none_but_decides S s small)
        where
          same : (u : ℕ) → OnlyOther K prices S v u → u ≡ s
          same u x = ⊎_elim (λ q. q) (λ (n : u ≢ s). absurd (both_ways _ (x.alone s (λ q. n (sym q))) e)) (cases_eq u s)

          at_s : (b : Bool) → Decides b ((t : ℕ) → (S t && not (t == s)) ≡ false)
              → Decides (stands_in K prices v (if b then Some s else None)) ((u : ℕ) × OnlyOther K prices S v u)
          at_s true d = (
            λ h. let p = and_parts _ _ h in (s, record { among = e; alone = λ t. others_out S s t (d.0 refl t); other = (differ_decides s v).0 p.0; no_dearer = p.1 }),
            λ (u, x). subst (λ k. (not (k == v) && not_dearer K prices k v) ≡ true) (same u x) (and_from _ _ ((differ_decides u v).1 x.other) x.no_dearer),
          )
          at_s false d = (
            λ f. absurd (false≢true f),
            λ (u, x). d.1 (λ t. no_other S s t (λ n. x.alone t (λ q. n (q ∙ same u x)))),
          )

module _ {P : Type 0} (K : Kind P) (prices : List P) (g : Net) (i : Inside g) (v : ℕ) where
  pub fed_by_one_decides : Decides (fed_by_one K prices g v) (OnlyLinkIn K prices g v)
  fed_by_one_decides = Decides-and _ _ ((λ e. e), (λ e. e)) (stands_in_decides K prices (λ u. links_in g u v) v (λ u e. (within_stages g i u v e).0))

  pub read_by_one_decides : Decides (read_by_one K prices g v) (OnlyLinkOut K prices g v)
  read_by_one_decides = Decides-and _ _ ((λ e. e), (λ e. e)) (stands_in_decides K prices (links_in g v) v (λ w e. (within_stages g i v w e).1))

-- ---- why the answers are allowed

module _ {P : Type 0} (K : Kind P) (laws : Lawful K) (prices : List P) (g : Net) (i : Inside g) where
  -- a stage v may be passed, if each walk through it comes from u or goes to u, which is another and not dearer
  passable : (v u : ℕ) → stage_in g v ≡ true → links_in g v v ≡ false → u ≢ v → stage_in g u ≡ true → u < 64 → not_dearer K prices u v ≡ true
      → ((p y : ℕ) → Link (links_in g) p v → Link (links_in g) v y → (p ≡ u) ⊎ (y ≡ u)) → Passable K prices g v
  passable v u there no_loop other near below leq by_u =
      let (S, c) = some_cheapest K laws prices g i in
      record { there = there; no_self_link = no_loop; cheapest = go S c (cases_Bool (S v)) }
    where
      go : (S : Stages) → CheapestAt K prices g S → (S v ≡ true) ⊎ (S v ≡ false) → (Z : Stages) × CheapestAt K prices g Z × (Z v ≡ false)
      go S c (inr out) = (S, c, out)
      go S c (inl here) = (
        replaced S v u,
        replaced_at K laws prices g S v u c here near below leq
            (λ p y r q. ⊎_elim (λ e. inl (replaced_has S v u p e)) (λ e. inr (replaced_has S v u y e)) (by_u p y r q)),
        replaced_lacks S v u other,
      )

  -- what is linked with v is its one neighbour u
  is_one : (S : Stages) (v u : ℕ) → OnlyOther K prices S v u → (t : ℕ) → S t ≡ true → t ≡ u
  is_one S v u x t e = ⊎_elim (λ q. q) (λ (n : t ≢ u). absurd (both_ways _ (x.alone t n) e)) (cases_eq t u)

  -- each walk through v comes from u
  pub in1_lawful : Allowed K prices g (in1_answer K prices g)
  in1_lawful = by_lowest K laws prices g i (option_map Pass) (fed_by_one K prices g) tt (λ v l e. at v ((fed_by_one_decides K prices g i v).0 e))
    where
      at : (v : ℕ) → OnlyLinkIn K prices g v → Passable K prices g v
      at v (there, (u, x)) =
          passable v u there (x.alone v (λ q. x.other (sym q))) x.other (and_parts _ _ (i.ends_there u v x.among)).0 (within_stages g i u v x.among).0 x.no_dearer
          (λ p y r q. inl (is_one (λ t. links_in g t v) v u x p r))

  -- each walk through v goes to w
  pub out1_lawful : Allowed K prices g (out1_answer K prices g)
  out1_lawful = by_lowest K laws prices g i (option_map Pass) (read_by_one K prices g) tt (λ v l e. at v ((read_by_one_decides K prices g i v).0 e))
    where
      at : (v : ℕ) → OnlyLinkOut K prices g v → Passable K prices g v
      at v (there, (w, x)) =
          passable v w there (x.alone v (λ q. x.other (sym q))) x.other (and_parts _ _ (i.ends_there v w x.among)).1 (within_stages g i v w x.among).1 x.no_dearer
          (λ p y r q. inr (is_one (links_in g v) v w x y q))
