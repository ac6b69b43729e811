-- When one entry more still fits, and for what one cause it does not.
use Rattle.std.proofs.Common.{◌≡◌, ℕ, ◌<◌, Bool, true, false, ◌&&◌, ◌||◌, eqb, ◌⊎◌, List, [], ◌∷◌, ◌++◌, sym, refl, ◌∙◌, inl, inr, arith}
use Rattle.std.proofs.lemmas.Bool.{both_ways, cases_Bool, cases_eq, eq-eqb, ne_eqb}
use Rattle.theory.specs.Loops.{Links, Loop, between}
use Rattle.graph.specs.declared.fault.Cause.{Cause}
use Rattle.graph.specs.declared.fault.Cause.TheVariants.{NoSuchStage, AlreadyThere, LiveLoop}
use Rattle.graph.proofs.Edits.{fewer_links}
use Rattle.sheet_format.specs.Entries.{Entry, stage, link, live, Formed, stages_in, links_in, live_in}
use Rattle.sheet_format.specs.Layout.{Fit}
use Rattle.sheet_format.specs.Faulty.{Unfit}
use Rattle.sheet_format.proofs.Joins.{earlier_join, formed_join, links_join, live_join, once_join, stages_join}

-- ---- an addition that may be made, and one that may not
abbrev pub Free : Type 0 → Bool → Links → Type 0
Free there already L = there × (already ≡ false) × (Loop L → ⊥)

abbrev pub Stopped : Type 0 → Bool → Links → Cause → Type 0
Stopped there already L cause =
    ((cause ≡ NoSuchStage) × (there → ⊥))
    ⊎ (((cause ≡ AlreadyThere) × there × (already ≡ true)) ⊎ ((cause ≡ LiveLoop) × there × (already ≡ false) × Loop L))

free_or_stopped : (there : Type 0) (already : Bool) (L : Links) (c : Cause) → Free there already L → Stopped there already L c → ⊥
free_or_stopped there already L c f (inl x) = x.1 f.0
free_or_stopped there already L c f (inr (inl x)) = both_ways already f.1 x.2
free_or_stopped there already L c f (inr (inr x)) = f.2 x.3

stopped_once : (there : Type 0) (already : Bool) (L : Links) (c d : Cause) → Stopped there already L c → Stopped there already L d → c ≡ d
stopped_once there already L c d (inl x) (inl y) = x.0 ∙ sym y.0
stopped_once there already L c d (inl x) (inr (inl y)) = absurd (x.1 y.1)
stopped_once there already L c d (inl x) (inr (inr y)) = absurd (x.1 y.1)
stopped_once there already L c d (inr (inl x)) (inl y) = absurd (y.1 x.1)
stopped_once there already L c d (inr (inl x)) (inr (inl y)) = x.0 ∙ sym y.0
stopped_once there already L c d (inr (inl x)) (inr (inr y)) = absurd (both_ways already y.2 x.2)
stopped_once there already L c d (inr (inr x)) (inl y) = absurd (y.1 x.1)
stopped_once there already L c d (inr (inr x)) (inr (inl y)) = absurd (both_ways already x.2 y.2)
stopped_once there already L c d (inr (inr x)) (inr (inr y)) = x.0 ∙ sym y.0

-- ---- an entry after others

-- it may follow them
abbrev pub Follows : List Entry → Entry → Type 0
Follows es (stage field name) = stages_in es < 64
Follows es (link u v) = Free ((u < stages_in es) × (v < stages_in es)) (links_in es u v) (between (links_in (es ++ link u v ∷ [])) (live_in es))
Follows es (live s) = Free (s < stages_in es) (live_in es s) (between (links_in es) (live_in (es ++ live s ∷ [])))

pub follows_or_unfit : (es : List Entry) (e : Entry) (c : Cause) → Follows es e → Unfit es e c → ⊥
follows_or_unfit es (stage field name) c f x = let n = x.1 in omega arith
follows_or_unfit es (link u v) c f x = free_or_stopped _ _ _ c f x
follows_or_unfit es (live s) c f x = free_or_stopped _ _ _ c f x

pub unfit_once : (es : List Entry) (e : Entry) (c d : Cause) → Unfit es e c → Unfit es e d → c ≡ d
unfit_once es (stage field name) c d x y = x.0 ∙ sym y.0
unfit_once es (link u v) c d x y = stopped_once _ _ _ c d x y
unfit_once es (live s) c d x y = stopped_once _ _ _ c d x y

-- ---- links and marks of a front, and with an entry that has none
between_more : (L M : ℕ → ℕ → Bool) (S R : ℕ → Bool) → ((a b : ℕ) → L a b ≡ true → M a b ≡ true) → ((a : ℕ) → S a ≡ true → R a ≡ true) → (a b : ℕ) → between L S a b ≡ true → between M R a b ≡ true
between_more L M S R f g a b t = go (cases_Bool (L a b)) (cases_Bool (S a)) (cases_Bool (S b))
  where
    go : (L a b ≡ true) ⊎ (L a b ≡ false) → (S a ≡ true) ⊎ (S a ≡ false) → (S b ≡ true) ⊎ (S b ≡ false) → between M R a b ≡ true
    go (inl x) (inl y) (inl z) = rw (f a b x, g a y, g b z)
    go (inl x) (inl y) (inr z) = absurd (both_ways _ (rw (x, y, z)) t)
    go (inl x) (inr y) q = absurd (both_ways _ (rw (x, y)) t)
    go (inr x) p q = absurd (both_ways _ (rw x) t)

front_links : (es fs : List Entry) (a b : ℕ) → links_in es a b ≡ true → links_in (es ++ fs) a b ≡ true
front_links es fs a b t = links_join es fs a b ∙ rw t

front_live : (es fs : List Entry) (a : ℕ) → live_in es a ≡ true → live_in (es ++ fs) a ≡ true
front_live es fs a t = live_join es fs a ∙ rw t

pub no_more_links : (es fs : List Entry) → ((a b : ℕ) → links_in fs a b ≡ false) → (a b : ℕ) → links_in (es ++ fs) a b ≡ links_in es a b
no_more_links es fs none a b = links_join es fs a b ∙ rw (none a b) (grind arith)

pub no_more_live : (es fs : List Entry) → ((a : ℕ) → live_in fs a ≡ false) → (a : ℕ) → live_in (es ++ fs) a ≡ live_in es a
no_more_live es fs none a = live_join es fs a ∙ rw (none a) (grind arith)

-- entries that fit fit without those at the end
pub fit_front : (width : ℕ) (es fs : List Entry) → Fit width (es ++ fs) → Fit width es
fit_front width es fs f =
    let n = f.few in
    record {
      formed = ((formed_join width es fs).0 f.formed).0;
      few = omega (arith, stages_join es fs);
      earlier = ((earlier_join 0 es fs).0 f.earlier).0;
      once = ((once_join es fs).0 f.once).0;
      no_live_loop = fewer_links _ _ (between_more _ _ _ _ (front_links es fs) (front_live es fs)) f.no_live_loop;
    }

first_false : (x y : Bool) → y ≡ true → (x && y) ≡ false → x ≡ false
first_false true y e h = absurd (both_ways y h e)
first_false false y e h = refl

-- the last of entries that fit follows the others
pub fit_last : (width : ℕ) (es : List Entry) (e : Entry) → Fit width (es ++ e ∷ []) → Formed width e × Follows es e
fit_last width es e f = (((formed_join width es (e ∷ [])).0 f.formed).1.0, follows e f)
  where
    follows : (e : Entry) → Fit width (es ++ e ∷ []) → Follows es e
    follows (stage field name) f = let n = f.few in omega (arith, stages_join es (stage field name ∷ []))
    follows (link u v) f =
        let p = ((earlier_join 0 es (link u v ∷ [])).0 f.earlier).1.0 in
        let apart : (links_in es u v && (eqb u u && eqb v v || false)) ≡ false = ((once_join es (link u v ∷ [])).0 f.once).2.0 u v in (
          (omega (arith, p.0), omega (arith, p.1)),
          first_false (links_in es u v) (eqb u u && eqb v v || false) (rw (eq-eqb u u refl, eq-eqb v v refl)) apart,
          fewer_links _ _ (between_more _ _ _ _ (λ a b t. t) (front_live es (link u v ∷ []))) f.no_live_loop,
        )
    follows (live s) f =
        let p = ((earlier_join 0 es (live s ∷ [])).0 f.earlier).1.0 in
        let apart : (live_in es s && (eqb s s || false)) ≡ false = ((once_join es (live s ∷ [])).0 f.once).2.1 s in (
          omega (arith, p),
          first_false (live_in es s) (eqb s s || false) (rw (eq-eqb s s refl)) apart,
          fewer_links _ _ (between_more _ _ _ _ (front_links es (live s ∷ [])) (λ a t. t)) f.no_live_loop,
        )

none_both : (x : Bool) → (x && false) ≡ false
none_both true = refl
none_both false = refl

-- with an entry that follows, entries fit still
pub fit_more : (width : ℕ) (es : List Entry) (e : Entry) → Fit width es → Formed width e → Follows es e → Fit width (es ++ e ∷ [])
fit_more width es (stage field name) f formed l =
    record {
      formed = (formed_join width es (stage field name ∷ [])).1 (f.formed, (formed, tt));
      few = omega (arith, stages_join es (stage field name ∷ []));
      earlier = (earlier_join 0 es (stage field name ∷ [])).1 (f.earlier, tt);
      once = (once_join es (stage field name ∷ [])).1 (f.once, tt, (λ a b. none_both (links_in es a b), λ a. none_both (live_in es a)));
      no_live_loop =
          fewer_links _ _
          (between_more _ _ _ _ (λ a b t. sym (no_more_links es (stage field name ∷ []) (λ _ _. refl) a b) ∙ t) (λ a t. sym (no_more_live es (stage field name ∷ []) (λ _. refl) a) ∙ t))
          f.no_live_loop;
    }
fit_more width es (link u v) f formed l =
    let n = f.few in
    record {
      formed = (formed_join width es (link u v ∷ [])).1 (f.formed, (tt, tt));
      few = omega (arith, stages_join es (link u v ∷ []));
      earlier = (earlier_join 0 es (link u v ∷ [])).1 (f.earlier, ((omega (arith, l.0.0), omega (arith, l.0.1)), tt));
      once = (once_join es (link u v ∷ [])).1 (f.once, (refl, tt), (λ a b. apart a b (cases_eq a u) (cases_eq b v), λ a. none_both (live_in es a)));
      no_live_loop = fewer_links _ _ (between_more _ _ _ _ (λ a b t. t) (λ a t. sym (no_more_live es (link u v ∷ []) (λ _. refl) a) ∙ t)) l.2;
    }
  where
    apart : (a b : ℕ) → (a ≡ u) ⊎ (a ≡ u → ⊥) → (b ≡ v) ⊎ (b ≡ v → ⊥) → (links_in es a b && (eqb a u && eqb b v || false)) ≡ false
    apart a b (inl p) (inl q) = let x : links_in es a b ≡ false = rw (p, q) l.1 in rw x
    apart a b (inl p) (inr q) = rw (ne_eqb b v q) (grind arith)
    apart a b (inr p) q = rw (ne_eqb a u p) (none_both (links_in es a b))
fit_more width es (live s) f formed l =
    let n = f.few in
    record {
      formed = (formed_join width es (live s ∷ [])).1 (f.formed, (tt, tt));
      few = omega (arith, stages_join es (live s ∷ []));
      earlier = (earlier_join 0 es (live s ∷ [])).1 (f.earlier, (omega (arith, l.0), tt));
      once = (once_join es (live s ∷ [])).1 (f.once, (refl, tt), (λ a b. none_both (links_in es a b), λ a. apart a (cases_eq a s)));
      no_live_loop = fewer_links _ _ (between_more _ _ _ _ (λ a b t. sym (no_more_links es (live s ∷ []) (λ _ _. refl) a b) ∙ t) (λ a t. t)) l.2;
    }
  where
    apart : (a : ℕ) → (a ≡ s) ⊎ (a ≡ s → ⊥) → (live_in es a && (eqb a s || false)) ≡ false
    apart a (inl p) = let x : live_in es a ≡ false = rw p l.1 in rw x
    apart a (inr p) = rw (ne_eqb a s p) (none_both (live_in es a))
