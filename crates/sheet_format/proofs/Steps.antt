-- Taking one entry in: the contents become what the entries then say, or it is refused for its cause.
use Rattle.std.proofs.Common.{◌≡◌, ℕ, ◌<◌, Bool, true, false, not, ◌&&◌, ◌||◌, eqb, ltb, List, [], ◌∷◌, ◌++◌, None, Ok, Err, Decides, Result, sym, refl, ap, ◌∙◌, subst, inl, inr, ⊎_elim, append-nil, arith}
use mathlib.Core.Path.{fun_ext}
use lib.Bits.{or_lt}
use Rattle.std.proofs.lemmas.Nat.{pow_below}
use Rattle.std.proofs.lemmas.Bool.{and_parts, both_ways, eqb-true, ltb-false, ltb-true, or_cases}
use Rattle.std.proofs.lemmas.Bool.Decides.{Decides-and, Decides-ltb}
use Rattle.theory.specs.Loops.{Links, Loop, between}
use Rattle.theory.specs.Moves.{with_link, with_stage}
use Rattle.graph.specs.declared.fault.Cause.{Cause}
use Rattle.graph.specs.declared.fault.Cause.TheVariants.{TooManyStages, NoSuchStage, AlreadyThere, LiveLoop}
use Rattle.graph.specs.declared.fault.Fault.{Fault}
use Rattle.graph.specs.declared.fault.Layer.TheVariants.{Graph}
use Rattle.graph.specs.Faults.{unless}
use Rattle.graph.specs.Graphs.{PlainGraph, Sound, links_of, linked_too, live_links, live_looped, live_of, live_too, one_more}
use Rattle.graph.proofs.Edits.{link_decides, link_links, link_live, live_live, live_marks, mark_decides, no_loop_without_links, sound_rows, tested}
use Rattle.graph.proofs.Marks.{marked_none, same_words}
use Rattle.graph.proofs.Rows.{no_rows, same_rows, unlinked_rows, with_mark_rows}
use Rattle.sheet_format.specs.Entries.{Entry, stage, link, live, stages_in, fields_in, links_in, live_in, names_in}
use Rattle.sheet_format.specs.Layout.{Contents, Says}
use Rattle.sheet_format.specs.Faulty.{Unfit, at}
use Rattle.sheet_format.specs.Reading.{made_or, no_contents, taken_in}
use Rattle.sheet_format.proofs.Joins.{fields_join, links_join, live_join, names_join, stages_join}
use Rattle.sheet_format.proofs.Fits.{Follows, Free, Stopped, follows_or_unfit, no_more_links, no_more_live, unfit_once}

-- ---- entries say one thing
pub says_one : (es : List Entry) (c d : Contents) → Says es c → Says es d → c ≡ d
says_one es c d s t = λ i. record { graph = record { n = n i; rows = rows i; live = live i }; fields = fields i; names = names i }
  where
    n : c.graph.n ≡ d.graph.n
    n = s.stages ∙ sym t.stages

    rows : c.graph.rows ≡ d.graph.rows
    rows = same_rows _ _ (sound_rows c.graph s.sound) (sound_rows d.graph t.sound) (λ a b. s.links a b ∙ sym (t.links a b))

    live : c.graph.live ≡ d.graph.live
    live = same_words _ _ s.sound.live_fits t.sound.live_fits (λ a. s.live_marks a ∙ sym (t.live_marks a))

    fields : c.fields ≡ d.fields
    fields = s.fields ∙ sym t.fields

    names : c.names ≡ d.names
    names = s.names ∙ sym t.names

pub says_nothing : Says [] no_contents
says_nothing =
    record {
      sound = record {
        few = omega arith;
        long = no_rows.long;
        fit = no_rows.fit;
        inside = λ a b t. absurd (both_ways _ (unlinked_rows a b) t);
        live_fits = omega arith;
        live_stages = λ s t. absurd (both_ways _ (marked_none s) t);
        no_live_loop = no_loop_without_links _ (λ a b. ap (λ x. x && live_of no_contents.graph a && live_of no_contents.graph b) (unlinked_rows a b));
      };
      stages = refl;
      links = unlinked_rows;
      live_marks = marked_none;
      fields = refl;
      names = refl;
    }

-- ---- graphs stay sound
sound_more : (g : PlainGraph) → Sound g → g.n < 64 → Sound (one_more g)
sound_more g s h =
    record {
      few = omega arith;
      long = s.long;
      fit = s.fit;
      inside = λ a b t. let p = s.inside a b t in (omega (arith, p.0), omega (arith, p.1));
      live_fits = s.live_fits;
      live_stages = λ a t. let p = s.live_stages a t in omega arith;
      no_live_loop = s.no_live_loop;
    }

sound_linked : (g : PlainGraph) → Sound g → (u v : ℕ) → u < g.n → v < g.n → (Loop (live_links (linked_too g u v)) → ⊥) → Sound (linked_too g u v)
sound_linked g s u v hu hv none =
    let few = s.few in
    let rows = with_mark_rows g.rows u v (sound_rows g s) (omega arith) in
    record {
      few = few;
      long = rows.long;
      fit = rows.fit;
      inside = λ a b t.
          ⊎_elim (s.inside a b)
          (λ (e : (eqb a u && eqb b v) ≡ true).
          let p = and_parts (eqb a u) (eqb b v) e in
          let x = eqb-true a u p.0 in
          let y = eqb-true b v p.1 in
          (omega arith, omega arith))
          (or_cases (links_of g a b) (eqb a u && eqb b v) (sym (link_links g s u v hu a b) ∙ t));
      live_fits = s.live_fits;
      live_stages = s.live_stages;
      no_live_loop = none;
    }

sound_live : (g : PlainGraph) → Sound g → (v : ℕ) → v < g.n → (Loop (live_links (live_too g v)) → ⊥) → Sound (live_too g v)
sound_live g s v h none =
    let few = s.few in
    record {
      few = few;
      long = s.long;
      fit = s.fit;
      inside = s.inside;
      live_fits = or_lt 64 _ _ s.live_fits (pow_below v 64 (omega arith));
      live_stages = λ a t.
          ⊎_elim (s.live_stages a) (λ (e : eqb a v ≡ true). let x = eqb-true a v e in omega arith)
          (or_cases (live_of g a) (eqb a v) (sym (live_marks g v a) ∙ t));
      no_live_loop = none;
    }

-- ---- one step

-- what taking an entry in answers, where these came before
pub data Taken (es : List Entry) (e : Entry) (place : ℕ) : Result Contents Fault → Type 0 where
  taken : (d : Contents) → Follows es e → Says (es ++ e ∷ []) d → Taken es e place (Ok d)
  refused : (cause : Cause) → Unfit es e cause → Taken es e place (Err (at cause Graph place))

-- an edit that goes by three tests
edited : (t a l : Bool) (there : Type 0) (already : Bool) (L : Links) → Decides t there → a ≡ already → (there → Decides l (Loop L))
    → (place : ℕ) (made : Contents) (P : Result Contents Fault → Type 0)
    → (Free there already L → P (Ok made)) → ((cause : Cause) → Stopped there already L cause → P (Err (at cause Graph place)))
    → P (made_or (unless t NoSuchStage (unless (not a) AlreadyThere (unless (not l) LiveLoop None))) place made)
edited false a l there already L d e f place made P done stop = stop NoSuchStage (inl (refl, λ h. both_ways false refl (d.1 h)))
edited true true l there already L d e f place made P done stop = stop AlreadyThere (inr (inl (refl, d.0 refl, sym e)))
edited true false true there already L d e f place made P done stop =
    stop LiveLoop (inr (inr (refl, d.0 refl, sym e, (f (d.0 refl)).0 refl)))
edited true false false there already L d e f place made P done stop =
    done (d.0 refl, sym e, λ h. both_ways false refl ((f (d.0 refl)).1 h))

or_false : (x : Bool) → (x || false) ≡ x
or_false true = refl
or_false false = refl

module _ (es : List Entry) (c : Contents) (s : Says es c) (place : ℕ) where
  step_stage : (field name : List ℕ) → Taken es (stage field name) place (taken_in c (stage field name) place)
  step_stage field name = go (ltb c.graph.n 64) refl
    where
      go : (b : Bool) → ltb c.graph.n 64 ≡ b
          → Taken es (stage field name) place
          (made_or (unless b TooManyStages None) place
          (record { graph = one_more c.graph; fields = c.fields ++ field ∷ []; names = c.names ++ name ∷ [] }))
      go true e =
          let n = s.stages in
          let low = ltb-true c.graph.n 64 e in
          taken _ (omega arith)
          (record {
            sound = sound_more c.graph s.sound low;
            stages = omega (arith, stages_join es (stage field name ∷ []));
            links = λ a b. s.links a b ∙ sym (no_more_links es (stage field name ∷ []) (λ _ _. refl) a b);
            live_marks = λ a. s.live_marks a ∙ sym (no_more_live es (stage field name ∷ []) (λ _. refl) a);
            fields = ap (λ x. x ++ field ∷ []) s.fields ∙ sym (fields_join es (stage field name ∷ []));
            names = ap (λ x. x ++ name ∷ []) s.names ∙ sym (names_join es (stage field name ∷ []));
          })
      go false e =
          let n = s.stages in
          let high = ltb-false c.graph.n 64 e in
          refused TooManyStages (refl, omega arith)

  step_link : (u v : ℕ) → Taken es (link u v) place (taken_in c (link u v) place)
  step_link u v =
      edited (ltb u c.graph.n && ltb v c.graph.n) (links_of c.graph u v) (live_looped (linked_too c.graph u v))
      ((u < stages_in es) × (v < stages_in es)) (links_in es u v) (between (links_in (es ++ link u v ∷ [])) (live_in es))
      (subst (λ n. Decides (ltb u c.graph.n && ltb v c.graph.n) ((u < n) × (v < n))) s.stages
      (Decides-and (ltb u c.graph.n) (ltb v c.graph.n) (Decides-ltb u c.graph.n) (Decides-ltb v c.graph.n)))
      (s.links u v)
      (λ h.
      let n = s.stages in
      tested _ _ _ (link_decides c.graph s.sound u v (omega (arith, h.0)) (omega (arith, h.1))) loops)
      place made (Taken es (link u v) place)
      (λ f. taken made f (says f))
      refused
    where
      made : Contents
      made = record { graph = linked_too c.graph u v; fields = c.fields; names = c.names }

      more : (a b : ℕ) → with_link (links_of c.graph) u v a b ≡ links_in (es ++ link u v ∷ []) a b
      more a b =
          ap (λ x. x || eqb a u && eqb b v) (s.links a b)
          ∙ ap (λ x. links_in es a b || x) (sym (or_false (eqb a u && eqb b v)))
          ∙ sym (links_join es (link u v ∷ []) a b)

      loops : (a b : ℕ) → between (with_link (links_of c.graph) u v) (live_of c.graph) a b ≡ between (links_in (es ++ link u v ∷ [])) (live_in es) a b
      loops a b = rw (more a b, s.live_marks a, s.live_marks b)

      says : Follows es (link u v) → Says (es ++ link u v ∷ []) made
      says f =
          let n = s.stages in
          let hu : u < c.graph.n = omega (arith, f.0.0) in
          let hv : v < c.graph.n = omega (arith, f.0.1) in
          record {
            sound = sound_linked c.graph s.sound u v hu hv (subst (λ L. Loop L → ⊥) (fun_ext (λ a. fun_ext (λ b. sym (link_live c.graph s.sound u v hu a b ∙ loops a b)))) f.2);
            stages = omega (arith, stages_join es (link u v ∷ []));
            links = λ a b. link_links c.graph s.sound u v hu a b ∙ more a b;
            live_marks = λ a. s.live_marks a ∙ sym (no_more_live es (link u v ∷ []) (λ _. refl) a);
            fields = s.fields ∙ sym (fields_join es (link u v ∷ []) ∙ append-nil (fields_in es));
            names = s.names ∙ sym (names_join es (link u v ∷ []) ∙ append-nil (names_in es));
          }

  step_live : (v : ℕ) → Taken es (live v) place (taken_in c (live v) place)
  step_live v =
      edited (ltb v c.graph.n) (live_of c.graph v) (live_looped (live_too c.graph v))
      (v < stages_in es) (live_in es v) (between (links_in es) (live_in (es ++ live v ∷ [])))
      (subst (λ n. Decides (ltb v c.graph.n) (v < n)) s.stages (Decides-ltb v c.graph.n))
      (s.live_marks v)
      (λ h. tested _ _ _ (mark_decides c.graph s.sound v) loops)
      place made (Taken es (live v) place)
      (λ f. taken made f (says f))
      refused
    where
      made : Contents
      made = record { graph = live_too c.graph v; fields = c.fields; names = c.names }

      more : (a : ℕ) → with_stage (live_of c.graph) v a ≡ live_in (es ++ live v ∷ []) a
      more a =
          ap (λ x. x || eqb a v) (s.live_marks a)
          ∙ ap (λ x. live_in es a || x) (sym (or_false (eqb a v)))
          ∙ sym (live_join es (live v ∷ []) a)

      loops : (a b : ℕ) → between (links_of c.graph) (with_stage (live_of c.graph) v) a b ≡ between (links_in es) (live_in (es ++ live v ∷ [])) a b
      loops a b = rw (s.links a b, more a, more b)

      says : Follows es (live v) → Says (es ++ live v ∷ []) made
      says f =
          let n = s.stages in
          let h : v < c.graph.n = omega (arith, f.0) in
          record {
            sound = sound_live c.graph s.sound v h (subst (λ L. Loop L → ⊥) (fun_ext (λ a. fun_ext (λ b. sym (live_live c.graph v a b ∙ loops a b)))) f.2);
            stages = omega (arith, stages_join es (live v ∷ []));
            links = λ a b. s.links a b ∙ sym (no_more_links es (live v ∷ []) (λ _ _. refl) a b);
            live_marks = λ a. live_marks c.graph v a ∙ more a;
            fields = s.fields ∙ sym (fields_join es (live v ∷ []) ∙ append-nil (fields_in es));
            names = s.names ∙ sym (names_join es (live v ∷ []) ∙ append-nil (names_in es));
          }

  pub step : (e : Entry) → Taken es e place (taken_in c e place)
  step (stage field name) = step_stage field name
  step (link u v) = step_link u v
  step (live v) = step_live v

-- an entry is taken in in one way alone
pub taken_one : {es : List Entry} {e : Entry} {place : ℕ} {r q : Result Contents Fault} → Taken es e place r → Taken es e place q → r ≡ q
taken_one {es} {e} (taken d f x) (taken d' f' x') = ap Ok (says_one (es ++ e ∷ []) d d' x x')
taken_one {es} {e} (taken d f x) (refused cause un) = absurd (follows_or_unfit es e cause f un)
taken_one {es} {e} (refused cause un) (taken d f x) = absurd (follows_or_unfit es e cause f un)
taken_one {es} {e} {place} (refused cause un) (refused cause' un') = ap (λ x. Err (at x Graph place)) (unfit_once es e cause cause' un un')
