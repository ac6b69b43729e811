-- Reachability as computed is the existence of a walk, and a link lies on a loop exactly if its end reaches its start.
use Rattle.std.proofs.Common.{◌≡◌, ℕ, zero, suc, ◌≤◌, true, false, ◌&&◌, eqb, ◌≢◌, ◌⊎◌, List, [], ◌∷◌, Decides, sym, refl, ◌∙◌, subst, inl, inr, ⊎_elim, arith}
use Rattle.std.proofs.lemmas.Bool.{cases_eq, or_cases, or_left, or_right, and_parts, and_from, eqb-true, eq-eqb, not_from_false, ne_eqb, or_from}
use Rattle.theory.specs.Loops.{Links, Link, Chain, Within, among}
use Rattle.theory.specs.Walks.{Walk}
use Rattle.theory.specs.Reach.{reaches, steps, OnLoop, OnLoopIffReachedBack, ReachingDecidesWalks}
use Rattle.theory.proofs.Walking.{chain_map, simple}
use Rattle.theory.proofs.Through.{join}

-- the stages of the list are at least k
AtLeast : ℕ → List ℕ → Type 0
AtLeast k [] = Unit {0}
AtLeast k (x ∷ xs) = (k ≤ x) × AtLeast k xs

module _ (L : Links) where
  pub reaches_walk : (k a b : ℕ) → reaches k L a b ≡ true → Walk (Link L) a b
  reaches_walk zero a b e = ([], e)
  reaches_walk (suc k) a b e =
      ⊎_elim
      (λ (h : reaches k L a b ≡ true). reaches_walk k a b h)
      (λ (h : (reaches k L a k && reaches k L k b) ≡ true).
      let p = and_parts _ _ h in
      join (Link L) a k b (reaches_walk k a k p.0) (reaches_walk k k b p.1))
      (or_cases _ _ e)

  -- a chain of steps that go below k, over stages from k on, without the stage k
  abbrev Far : ℕ → ℕ → ℕ → Type 0
  Far k a b = (xs : List ℕ) × Chain (Link (reaches k L)) a xs b × AtLeast k xs

  keep : (k a b : ℕ) → reaches k L a b ≡ true → reaches (suc k) L a b ≡ true
  keep k a b e = or_left _ _ e

  via : (k a b : ℕ) → reaches k L a k ≡ true → reaches k L k b ≡ true → reaches (suc k) L a b ≡ true
  via k a b e f = or_right _ _ (and_from _ _ e f)

  mutual
    unfolding AtLeast

    skip : (xs : List ℕ) (k a b : ℕ) → Chain (Link (reaches k L)) a xs b → AtLeast k xs → Far (suc k) a b
    skip [] k a b w h = ([], keep k a b w, tt)
    skip (x ∷ xs) k a b w h =
        ⊎_elim
        (λ (e : x ≡ k). over xs k a b (subst (λ z. reaches k L a z ≡ true) e w.0) (subst (λ z. Chain (Link (reaches k L)) z xs b) e w.1) h.1)
        (λ (n : x ≢ k). let r = skip xs k x b w.1 h.1 in (x ∷ r.0, (keep k a x w.0, r.1), (omega (arith, h.0), r.2)))
        (cases_eq x k)

    over : (xs : List ℕ) (k p b : ℕ) → reaches k L p k ≡ true → Chain (Link (reaches k L)) k xs b → AtLeast k xs → Far (suc k) p b
    over [] k p b r w h = ([], via k p b r w, tt)
    over (y ∷ ys) k p b r w h =
        ⊎_elim
        (λ (e : y ≡ k). over ys k p b r (subst (λ z. Chain (Link (reaches k L)) z ys b) e w.1) h.1)
        (λ (n : y ≢ k). let q = skip ys k y b w.1 h.1 in (y ∷ q.0, (via k p y r w.0, q.1), (omega (arith, h.0), q.2)))
        (cases_eq y k)

  from_none : (xs : List ℕ) → AtLeast zero xs
  unfolding AtLeast
  from_none [] = tt
  from_none (x ∷ xs) = (omega arith, from_none xs)

  far : (k a b : ℕ) → Walk (Link L) a b → Far k a b
  far zero a b w = (w.0, w.1, from_none w.0)
  far (suc k) a b w = let r = far k a b w in skip r.0 k a b r.1 r.2

  module _ (n : ℕ) (within : Within n L) where
    reaches_within : (k : ℕ) → Within n (reaches k L)
    reaches_within zero a b e = within a b e
    reaches_within (suc k) a b e =
        ⊎_elim
        (λ (h : reaches k L a b ≡ true). reaches_within k a b h)
        (λ (h : (reaches k L a k && reaches k L k b) ≡ true).
        let p = and_parts _ _ h in
        ((reaches_within k a k p.0).0, (reaches_within k k b p.1).1))
        (or_cases _ _ e)

    last : (a b : ℕ) (xs : List ℕ) → Chain (Link (reaches n L)) a xs b → AtLeast n xs → reaches n L a b ≡ true
    unfolding AtLeast
    last a b [] w h = w
    last a b (x ∷ xs) w h = let p = reaches_within n a x w.0 in absurd (omega (arith, p.1, h.0))

    pub reaches_walks : (a b : ℕ) → Decides (reaches n L a b) (Walk (Link L) a b)
    reaches_walks a b = (reaches_walk n a b, λ w. let r = far n a b w in last a b r.0 r.1 r.2)

pub reaching_decides_walks : ReachingDecidesWalks
reaching_decides_walks n L within = reaches_walks L n within

-- links from a stage other than u
abbrev NotFrom : (ℕ → ℕ → Type 0) → ℕ → ℕ → ℕ → Type 0
NotFrom R u a b = R a b × (a ≢ u)

-- a walk to u, cut where it first comes to u
until : (R : ℕ → ℕ → Type 0) (u a : ℕ) (xs : List ℕ) → a ≢ u → Chain R a xs u → Walk (NotFrom R u) a u
until R u a [] ne w = ([], (w, ne))
until R u a (x ∷ xs) ne w =
    ⊎_elim
    (λ (e : x ≡ u). ([], (subst (λ z. R a z) e w.0, ne)))
    (λ (n : x ≢ u). let r = until R u x xs n w.1 in (x ∷ r.0, ((w.0, ne), r.1)))
    (cases_eq x u)

away : (R : ℕ → ℕ → Type 0) (u a b : ℕ) (xs : List ℕ) → Chain (NotFrom R u) a xs b → among u (a ∷ xs) ≡ false
away R u a b [] w = or_from _ _ (ne_eqb u a (λ e. w.1 (sym e))) refl
away R u a b (x ∷ xs) w = or_from _ _ (ne_eqb u a (λ e. w.0.1 (sym e))) (away R u x b xs w.1)

pub walk_loop : (L : Links) (u v : ℕ) → u ≢ v → L u v ≡ true → Walk (Link L) v u → OnLoop L u v
walk_loop L u v ne l w =
    let cut = until (Link L) u v w.0 (λ e. ne (sym e)) w.1 in
    let s = simple (NotFrom (Link L) u) v u cut.0 cut.1 in (
      record {
        first = u;
        rest = v ∷ s.0;
        apart = and_from _ _ (not_from_false _ (away (Link L) u v u s.0 s.1)) s.2;
        closed = (l, chain_map (NotFrom (Link L) u) (Link L) (λ _ _ h. h.0) v u s.0 s.1);
      },
      or_left _ _ (and_from _ _ (eq-eqb u u refl) (eq-eqb v v refl)),
    )

-- the walk on from the link, and the walk up to it
split : (L : Links) (u v a b : ℕ) (xs : List ℕ) → Chain (Link L) a xs b → steps u v a xs b ≡ true → ((a ≡ u) ⊎ Walk (Link L) a u) × ((v ≡ b) ⊎ Walk (Link L) v b)
split L u v a b [] w s = let p = and_parts _ _ s in (inl (eqb-true a u p.0), inl (sym (eqb-true b v p.1)))
split L u v a b (x ∷ xs) w s = go (or_cases _ _ s) (split L u v x b xs w.1)
  where
    go : ((eqb a u && eqb x v) ≡ true) ⊎ (steps u v x xs b ≡ true) → (steps u v x xs b ≡ true → ((x ≡ u) ⊎ Walk (Link L) x u) × ((v ≡ b) ⊎ Walk (Link L) v b))
        → ((a ≡ u) ⊎ Walk (Link L) a u) × ((v ≡ b) ⊎ Walk (Link L) v b)
    go (inl h) r = let p = and_parts _ _ h in (inl (eqb-true a u p.0), inr (subst (λ z. Walk (Link L) z b) (eqb-true x v p.1) (xs, w.1)))
    go (inr h) r =
        let q = r h in
        (⊎_elim (λ (e : x ≡ u). inr ([], subst (λ z. Link L a z) e w.0)) (λ (k : Walk (Link L) x u). inr (x ∷ k.0, (w.0, k.1))) q.0, q.1)

pub loop_walk : (L : Links) (u v : ℕ) → u ≢ v → OnLoop L u v → Walk (Link L) v u
loop_walk L u v ne (l, s) = go (split L u v l.first l.first l.rest l.closed s)
  where
    go : ((l.first ≡ u) ⊎ Walk (Link L) l.first u) × ((v ≡ l.first) ⊎ Walk (Link L) v l.first) → Walk (Link L) v u
    go (inl p, inl q) = absurd (ne (sym (q ∙ p)))
    go (inl p, inr q) = subst (λ z. Walk (Link L) v z) p q
    go (inr p, inl q) = subst (λ z. Walk (Link L) z u) (sym q) p
    go (inr p, inr q) = join (Link L) v l.first u q p

pub self_loop : (L : Links) (u v : ℕ) → u ≡ v → L u v ≡ true → OnLoop L u v
self_loop L u v e l = (
  record { first = u; rest = []; apart = refl; closed = subst (λ z. L u z ≡ true) (sym e) l },
  and_from _ _ (eq-eqb u u refl) (eq-eqb u v e),
)

pub on_loop_iff_reached_back : OnLoopIffReachedBack
on_loop_iff_reached_back n L within u v l = (there, back)
  where
    d : Decides (reaches n L v u) (Walk (Link L) v u)
    d = reaching_decides_walks n L within v u

    there : reaches n L v u ≡ true → OnLoop L u v
    there r = ⊎_elim (λ (e : u ≡ v). self_loop L u v e l) (λ (ne : u ≢ v). walk_loop L u v ne l (d.0 r)) (cases_eq u v)

    back : OnLoop L u v → reaches n L v u ≡ true
    back o =
        d.1
        (⊎_elim
        (λ (e : u ≡ v). ([], subst (λ z. L z u ≡ true) e (subst (λ z. L u z ≡ true) (sym e) l)))
        (λ (ne : u ≢ v). loop_walk L u v ne o)
        (cases_eq u v))
