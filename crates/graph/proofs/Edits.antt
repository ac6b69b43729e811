-- What the edits refuse and make, in words.
use Rattle.std.proofs.Common.{◌≡◌, ℕ, ◌^◌, ◌<◌, ◌≤◌, Bool, true, false, cond, not, ◌&&◌, ◌||◌, eqb, ltb, ◌⊎◌, List, [], ◌∷◌, replicate, Some, None, Decides, Option, Result, sym, refl, ap, ◌∙◌, subst, inl, inr, ⊎_elim, arith}
use mathlib.Core.Path.{fun_ext}
use lib.Bits.{and_lt, or_lt}
use Rattle.std.proofs.lemmas.Nat.{pow_below}
use Rattle.std.proofs.lemmas.Bool.{and_from, and_left, and_parts, and_right, cond-true, eqb-true, or_cases, both_ways, lt-ltb, le-ltb, ltb-true}
use Rattle.std.proofs.lemmas.Bool.Decides.{Decides-and, Decides-ltb, same_from_decides, nat_tests}
use Rattle.theory.specs.Loops.{Chain, Link, Links, Stages, Loop, Within, between}
use Rattle.theory.specs.Moves.{dropped, with_link, with_stage, without_stage}
use Rattle.theory.proofs.Deciding.{loop_test_decides}
use Rattle.theory.proofs.Walking.{chain_map}
use Rattle.graph.specs.declared.fault.Cause.{Cause}
use Rattle.graph.specs.declared.fault.Cause.TheVariants.{NoSuchStage, AlreadyThere, LiveLoop, NotThere}
use Rattle.graph.specs.declared.fault.Fault.{Fault}
use Rattle.graph.specs.declared.fault.Site.{Site}
use Rattle.graph.specs.declared.fault.Site.TheVariants.{Record as AtRecord, Call as AtCall}
use Rattle.graph.specs.declared.digraph.Digraph.{Digraph}
use Rattle.graph.specs.declared.graph.Graph.{Graph}
use Rattle.graph.specs.declared.stage_set.StageSet.{StageSet}
use Rattle.graph.specs.Edits.{Adds, Changed, Frees, LinksUp, MarksLive, TakesOff, Unlinks}
use Rattle.graph.specs.Faults.{after, answer, cause_of, unless}
use Rattle.graph.specs.Graphs.{PlainGraph, Sound, bare, free_refusal, freed, link_refusal, linked_too, links_of, live_links, live_looped, live_of, live_refusal, live_too, plain, unlink_refusal, unlinked}
use Rattle.graph.specs.Marks.{linked, marked}
use Rattle.graph.specs.StageSets.{words}
use Rattle.graph.proofs.Marks.{marked_minus, marked_none, marked_one, marked_set, same_words}
use Rattle.graph.proofs.Rows.{Rows, no_rows, unlinked_rows, rows_of, same_rows, with_mark_links, with_mark_rows, without_mark_links, without_mark_rows}

-- ---- every graph is sound
pub sound : (g : Graph) → Sound (plain g)
sound g =
    record {
      few = g.few;
      long = (rows_of g.links).long;
      fit = (rows_of g.links).fit;
      inside = λ a b h.
          let p = and_parts _ _ (g.links.inside a b h) in
          (ltb-true a g.n (sym (g.numbered a) ∙ p.0), ltb-true b g.n (sym (g.numbered b) ∙ p.1));
      live_fits = g.live.fits;
      live_stages = g.live_stages;
      no_live_loop = g.no_live_loop;
    }

pub sound_rows : (g : PlainGraph) → Sound g → Rows g.rows
sound_rows g s = record { long = s.long; fit = s.fit }

-- ---- what the tests refuse
-- a refusal that goes by three tests
pub adds : (t u v : Bool) (there already : Type 0) (L : Links) → Decides t there → Decides u already → (t ≡ true → Decides v (Loop L))
    → Adds (unless t NoSuchStage (unless (not u) AlreadyThere (unless (not v) LiveLoop None))) there already L
adds false u v there already L d e f =
    record {
      no_such_stage = (λ _ h. both_ways false refl (d.1 h), λ _. refl);
      already_there = (λ q. cc, λ h. absurd (both_ways false refl (d.1 h.0)));
      live_loop = (λ q. cc, λ h. absurd (both_ways false refl (d.1 h.0)));
      accepted = (λ q. cc, λ h. absurd (both_ways false refl (d.1 h.0)));
    }
adds true true v there already L d e f =
    record {
      no_such_stage = (λ q. cc, λ h. absurd (h (d.0 refl)));
      already_there = (λ _. (d.0 refl, e.0 refl), λ _. refl);
      live_loop = (λ q. cc, λ h. absurd (h.1 (e.0 refl)));
      accepted = (λ q. cc, λ h. absurd (h.1 (e.0 refl)));
    }
adds true false true there already L d e f =
    record {
      no_such_stage = (λ q. cc, λ h. absurd (h (d.0 refl)));
      already_there = (λ q. cc, λ h. absurd (both_ways false refl (e.1 h.1)));
      live_loop = (λ _. (d.0 refl, λ h. both_ways false refl (e.1 h), (f refl).0 refl), λ _. refl);
      accepted = (λ q. cc, λ h. absurd (h.2 ((f refl).0 refl)));
    }
adds true false false there already L d e f =
    record {
      no_such_stage = (λ q. cc, λ h. absurd (h (d.0 refl)));
      already_there = (λ q. cc, λ h. absurd (both_ways false refl (e.1 h.1)));
      live_loop = (λ q. cc, λ h. absurd (both_ways false refl ((f refl).1 h.2)));
      accepted = (λ _. (d.0 refl, λ h. both_ways false refl (e.1 h), λ h. both_ways false refl ((f refl).1 h)), λ _. refl);
    }

pub takes_off : (t u : Bool) (there present : Type 0) → Decides t there → Decides u present
    → TakesOff (unless t NoSuchStage (unless u NotThere None)) there present
takes_off false u there present d e =
    record {
      no_such_stage = (λ _ h. both_ways false refl (d.1 h), λ _. refl);
      not_there = (λ q. cc, λ h. absurd (both_ways false refl (d.1 h.0)));
      accepted = (λ q. cc, λ h. absurd (both_ways false refl (d.1 h.0)));
    }
takes_off true false there present d e =
    record {
      no_such_stage = (λ q. cc, λ h. absurd (h (d.0 refl)));
      not_there = (λ _. (d.0 refl, λ h. both_ways false refl (e.1 h)), λ _. refl);
      accepted = (λ q. cc, λ h. absurd (both_ways false refl (e.1 h.1)));
    }
takes_off true true there present d e =
    record {
      no_such_stage = (λ q. cc, λ h. absurd (h (d.0 refl)));
      not_there = (λ q. cc, λ h. absurd (h.1 (e.0 refl)));
      accepted = (λ _. (d.0 refl, e.0 refl), λ _. refl);
    }

-- ---- answers, and the causes in them
pub cause_answer : (o : Option Cause) (site : Site) → cause_of (answer o site) ≡ o
cause_answer None (AtRecord place) = refl
cause_answer None AtCall = refl
cause_answer (Some c) (AtRecord place) = refl
cause_answer (Some c) AtCall = refl

pub after_none : {S : Type 0} (o : Option Cause) (before made : S) → o ≡ None → after o before made ≡ made
after_none o before made e = ap (λ x. after x before made) e

after_some : {S : Type 0} (o : Option Cause) (before made : S) → (o ≡ None → ⊥) → after o before made ≡ before
after_some None before made some = absurd (some refl)
after_some (Some cause) before made some = refl

same_links : (L M : Links) → ((a b : ℕ) → L a b ≡ M a b) → L ≡ M
same_links L M e = fun_ext (λ a. fun_ext (λ b. e a b))

yes_decides : (t : Bool) → Decides t (t ≡ true)
yes_decides t = (λ e. e, λ e. e)

both_stages : (g : PlainGraph) (u v : ℕ) → Decides (ltb u g.n && ltb v g.n) ((u < g.n) × (v < g.n))
both_stages g u v = Decides-and _ _ (Decides-ltb u g.n) (Decides-ltb v g.n)

-- the live links, tested
pub live_decides : (g : PlainGraph) → Within g.n (live_links g) → (L : Links) → ((a b : ℕ) → live_links g a b ≡ L a b) → Decides (live_looped g) (Loop L)
live_decides g w L e = subst (λ M. Decides (live_looped g) (Loop M)) (same_links (live_links g) L e) (loop_test_decides g.n (live_links g) w)

pub no_loop_without_links : (L : Links) → ((a b : ℕ) → L a b ≡ false) → Loop L → ⊥
no_loop_without_links L none l = go l.rest l.closed
  where
    go : (xs : List ℕ) → Chain (Link L) l.first xs l.first → ⊥
    go [] w = both_ways _ (none _ _) w
    go (x ∷ xs) w = both_ways _ (none _ _) w.0

-- a graph's figures are its number, its links and its live marks
pub same_plain : (n : ℕ) (rows rows' : List ℕ) (live live' : ℕ) → rows ≡ rows' → live ≡ live' → ◌≡◌ {A = PlainGraph} (record { n = n; rows = rows; live = live }) (record { n = n; rows = rows'; live = live' })
same_plain n rows rows' live live' p q = λ i. record { n = n; rows = p i; live = q i }

pub bare_again : (n : ℕ) (links : Digraph) (live : StageSet) → ((a b : ℕ) → linked (words links.rows) a b ≡ false) → ((s : ℕ) → marked live.word s ≡ false)
    → ◌≡◌ {A = PlainGraph} (record { n = n; rows = words links.rows; live = live.word }) (bare n)
bare_again n links live no-links no-live =
    same_plain n _ _ _ _
    (same_rows (words links.rows) (replicate 64 0) (rows_of links) no_rows (λ a b. no-links a b ∙ sym (unlinked_rows a b)))
    (same_words live.word 0 live.fits (omega arith) (λ s. no-live s ∙ sym (marked_none s)))

-- ---- the four edits in words
pub link_links : (g : PlainGraph) → Sound g → (u v : ℕ) → u < g.n → (a b : ℕ) → links_of (linked_too g u v) a b ≡ with_link (links_of g) u v a b
link_links g s u v hu a b = let few = s.few in with_mark_links g.rows u v (sound_rows g s) (omega arith) a b

within_link : (g : PlainGraph) → Sound g → (u v : ℕ) → u < g.n → v < g.n → Within g.n (with_link (links_of g) u v)
within_link g s u v hu hv a b t =
    ⊎_elim (s.inside a b)
    (λ (e : (eqb a u && eqb b v) ≡ true). let p = and_parts _ _ e in let p0 = eqb-true a u p.0 in let p1 = eqb-true b v p.1 in (omega arith, omega arith))
    (or_cases _ _ t)

within_between : (n : ℕ) (L : Links) (S : Stages) → Within n L → Within n (between L S)
within_between n L S w a b t = w a b (grind arith)

same_within : (n : ℕ) (L M : Links) → ((a b : ℕ) → L a b ≡ M a b) → Within n M → Within n L
same_within n L M e w a b t = w a b (sym (e a b) ∙ t)

pub link_live : (g : PlainGraph) → Sound g → (u v : ℕ) → u < g.n → (a b : ℕ) → live_links (linked_too g u v) a b ≡ between (with_link (links_of g) u v) (live_of g) a b
link_live g s u v hu a b = ap (λ x. x && live_of g a && live_of g b) (link_links g s u v hu a b)

pub link_decides : (g : PlainGraph) → Sound g → (u v : ℕ) → u < g.n → v < g.n → Decides (live_looped (linked_too g u v)) (Loop (between (with_link (links_of g) u v) (live_of g)))
link_decides g s u v hu hv =
    live_decides (linked_too g u v)
    (same_within g.n _ _ (link_live g s u v hu) (within_between g.n _ (live_of g) (within_link g s u v hu hv)))
    _ (link_live g s u v hu)

-- a refused edit, and a done one
module _ (g h : PlainGraph) (made : PlainGraph) (o : Option Cause) (site : Site) (r : Result (Unit {0}) Fault)
    (answered : r ≡ answer o site) (left : h ≡ after o g made) where
  pub its_cause : cause_of r ≡ o
  its_cause = ap cause_of answered ∙ cause_answer o site

  pub its_old_graph : (cause_of r ≡ None → ⊥) → h ≡ g
  its_old_graph some = left ∙ after_some o g made (λ e. some (its_cause ∙ e))

  pub its_graph : cause_of r ≡ None → h ≡ made
  its_graph e = left ∙ after_none o g made (sym its_cause ∙ e)

adds_as : (o p : Option Cause) {there already : Type 0} {L : Links} → o ≡ p → Adds p there already L → Adds o there already L
adds_as o p {there} {already} {L} e = subst (λ x. Adds x there already L) (sym e)

takes_off_as : (o p : Option Cause) {there present : Type 0} → o ≡ p → TakesOff p there present → TakesOff o there present
takes_off_as o p {there} {present} e = subst (λ x. TakesOff x there present) (sym e)

changed_as : (g h k : PlainGraph) {L : Links} {S : Stages} → h ≡ k → Changed g k L S → Changed g h L S
changed_as g h k {L} {S} e = subst (λ x. Changed g x L S) (sym e)

pub link_words : (g h : PlainGraph) → Sound g → (u v : ℕ) (site : Site) (r : Result (Unit {0}) Fault)
    → r ≡ answer (link_refusal g u v) site → h ≡ after (link_refusal g u v) g (linked_too g u v) → LinksUp g u v (cause_of r) h
link_words g h s u v site r a l = (
  adds_as _ _ cause refusals,
  (
    its_old_graph g h (linked_too g u v) (link_refusal g u v) site r a l,
    λ e.
        let ends = (refusals.accepted.0 (sym cause ∙ e)).0 in
        changed_as g h _ (its_graph g h (linked_too g u v) (link_refusal g u v) site r a l e)
        (record { same_stages = refl; links = link_links g s u v ends.0; live = λ _. refl }),
  ),
)
  where
    cause : cause_of r ≡ link_refusal g u v
    cause = its_cause g h (linked_too g u v) (link_refusal g u v) site r a l

    refusals : Adds (link_refusal g u v) ((u < g.n) × (v < g.n)) (links_of g u v ≡ true) (between (with_link (links_of g) u v) (live_of g))
    refusals =
        adds _ _ _ _ _ _ (both_stages g u v) (yes_decides (links_of g u v))
        (λ t. let p = (both_stages g u v).0 t in link_decides g s u v p.0 p.1)

pub unlink_links : (g : PlainGraph) → Sound g → (u v : ℕ) → u < g.n → v < g.n → (a b : ℕ) → links_of (unlinked g u v) a b ≡ dropped (links_of g) u v a b
unlink_links g s u v hu hv a b = let few = s.few in without_mark_links g.rows u v (sound_rows g s) (omega arith) (omega arith) a b

pub unlink_words : (g h : PlainGraph) → Sound g → (u v : ℕ) (site : Site) (r : Result (Unit {0}) Fault)
    → r ≡ answer (unlink_refusal g u v) site → h ≡ after (unlink_refusal g u v) g (unlinked g u v) → Unlinks g u v (cause_of r) h
unlink_words g h s u v site r a l = (
  takes_off_as _ _ cause refusals,
  (
    its_old_graph g h (unlinked g u v) (unlink_refusal g u v) site r a l,
    λ e.
        let ends = (refusals.accepted.0 (sym cause ∙ e)).0 in
        changed_as g h _ (its_graph g h (unlinked g u v) (unlink_refusal g u v) site r a l e)
        (record { same_stages = refl; links = unlink_links g s u v ends.0 ends.1; live = λ _. refl }),
  ),
)
  where
    cause : cause_of r ≡ unlink_refusal g u v
    cause = its_cause g h (unlinked g u v) (unlink_refusal g u v) site r a l

    refusals : TakesOff (unlink_refusal g u v) ((u < g.n) × (v < g.n)) (links_of g u v ≡ true)
    refusals = takes_off _ _ _ _ (both_stages g u v) (yes_decides (links_of g u v))

pub live_marks : (g : PlainGraph) (v s : ℕ) → live_of (live_too g v) s ≡ with_stage (live_of g) v s
live_marks g v s = marked_set g.live v s

pub live_live : (g : PlainGraph) (v a b : ℕ) → live_links (live_too g v) a b ≡ between (links_of g) (with_stage (live_of g) v) a b
live_live g v a b = rw (live_marks g v a, live_marks g v b)

pub mark_decides : (g : PlainGraph) → Sound g → (v : ℕ) → Decides (live_looped (live_too g v)) (Loop (between (links_of g) (with_stage (live_of g) v)))
mark_decides g s v =
    live_decides (live_too g v) (within_between g.n _ (live_of (live_too g v)) s.inside) _ (live_live g v)

pub live_words : (g h : PlainGraph) → Sound g → (v : ℕ) (site : Site) (r : Result (Unit {0}) Fault)
    → r ≡ answer (live_refusal g v) site → h ≡ after (live_refusal g v) g (live_too g v) → MarksLive g v (cause_of r) h
live_words g h s v site r a l = (
  adds_as _ _ (its_cause g h (live_too g v) (live_refusal g v) site r a l)
      (adds _ _ _ _ _ _ (Decides-ltb v g.n) (yes_decides (live_of g v)) (λ _. mark_decides g s v)),
  (
    its_old_graph g h (live_too g v) (live_refusal g v) site r a l,
    λ e.
        changed_as g h _ (its_graph g h (live_too g v) (live_refusal g v) site r a l e)
        (record { same_stages = refl; links = λ _ _. refl; live = live_marks g v }),
  ),
)

pub free_marks : (g : PlainGraph) → Sound g → (v : ℕ) → v < g.n → (s : ℕ) → live_of (freed g v) s ≡ without_stage (live_of g) v s
free_marks g s v h k =
    let few = s.few in
    marked_minus g.live (2 ^ v) k s.live_fits (pow_below v 64 (omega arith)) ∙ ap (λ x. live_of g k && not x) (marked_one v k)

pub free_words : (g h : PlainGraph) → Sound g → (v : ℕ) (site : Site) (r : Result (Unit {0}) Fault)
    → r ≡ answer (free_refusal g v) site → h ≡ after (free_refusal g v) g (freed g v) → Frees g v (cause_of r) h
free_words g h s v site r a l = (
  takes_off_as _ _ cause refusals,
  (
    its_old_graph g h (freed g v) (free_refusal g v) site r a l,
    λ e.
        changed_as g h _ (its_graph g h (freed g v) (free_refusal g v) site r a l e)
        (record { same_stages = refl; links = λ _ _. refl; live = free_marks g s v (refusals.accepted.0 (sym cause ∙ e)).0 }),
  ),
)
  where
    cause : cause_of r ≡ free_refusal g v
    cause = its_cause g h (freed g v) (free_refusal g v) site r a l

    refusals : TakesOff (free_refusal g v) (v < g.n) (live_of g v ≡ true)
    refusals = takes_off _ _ _ _ (Decides-ltb v g.n) (yes_decides (live_of g v))

-- ---- from the tests that the code makes to its answer
pub stops : (t : Bool) (c : Cause) (later : Option Cause) → t ≡ false → unless t c later ≡ Some c
stops t c later e = ap (λ x. unless x c later) e

pub goes_on : (t : Bool) (c : Cause) (later : Option Cause) → t ≡ true → unless t c later ≡ later
goes_on t c later e = ap (λ x. unless x c later) e

-- what an edit with the refusal o owes: its answer, what it leaves, and both in words
abbrev Owed : Option Cause → Site → Result (Unit {0}) Fault → PlainGraph → PlainGraph → PlainGraph → Type 0 → Type 0
Owed o site r h g made words = record { answer : r ≡ answer o site; after : h ≡ after o g made; in_words : words }

module _ (g : Graph) (h : PlainGraph) (u v : ℕ) (site : Site) (r : Result (Unit {0}) Fault) (o : Option Cause) where
  pub link_post : link_refusal (plain g) u v ≡ o → r ≡ answer o site → h ≡ after o (plain g) (linked_too (plain g) u v)
      → Owed (link_refusal (plain g) u v) site r h (plain g) (linked_too (plain g) u v) (LinksUp (plain g) u v (cause_of r) h)
  link_post e a l =
      let a' = a ∙ ap (λ x. answer x site) (sym e) in
      let l' = l ∙ ap (λ x. after x (plain g) (linked_too (plain g) u v)) (sym e) in
      record { answer = a'; after = l'; in_words = link_words (plain g) h (sound g) u v site r a' l' }

  pub unlink_post : unlink_refusal (plain g) u v ≡ o → r ≡ answer o site → h ≡ after o (plain g) (unlinked (plain g) u v)
      → Owed (unlink_refusal (plain g) u v) site r h (plain g) (unlinked (plain g) u v) (Unlinks (plain g) u v (cause_of r) h)
  unlink_post e a l =
      let a' = a ∙ ap (λ x. answer x site) (sym e) in
      let l' = l ∙ ap (λ x. after x (plain g) (unlinked (plain g) u v)) (sym e) in
      record { answer = a'; after = l'; in_words = unlink_words (plain g) h (sound g) u v site r a' l' }

module _ (g : Graph) (h : PlainGraph) (v : ℕ) (site : Site) (r : Result (Unit {0}) Fault) (o : Option Cause) where
  pub live_post : live_refusal (plain g) v ≡ o → r ≡ answer o site → h ≡ after o (plain g) (live_too (plain g) v)
      → Owed (live_refusal (plain g) v) site r h (plain g) (live_too (plain g) v) (MarksLive (plain g) v (cause_of r) h)
  live_post e a l =
      let a' = a ∙ ap (λ x. answer x site) (sym e) in
      let l' = l ∙ ap (λ x. after x (plain g) (live_too (plain g) v)) (sym e) in
      record { answer = a'; after = l'; in_words = live_words (plain g) h (sound g) v site r a' l' }

  pub free_post : free_refusal (plain g) v ≡ o → r ≡ answer o site → h ≡ after o (plain g) (freed (plain g) v)
      → Owed (free_refusal (plain g) v) site r h (plain g) (freed (plain g) v) (Frees (plain g) v (cause_of r) h)
  free_post e a l =
      let a' = a ∙ ap (λ x. answer x site) (sym e) in
      let l' = l ∙ ap (λ x. after x (plain g) (freed (plain g) v)) (sym e) in
      record { answer = a'; after = l'; in_words = free_words (plain g) h (sound g) v site r a' l' }

-- ---- what the code's parts leave, as words
module _ (g : Graph) (d : Digraph) where
  pub linked_rows : (u v : ℕ) → u < g.n → v < g.n → ((a b : ℕ) → linked (words d.rows) a b ≡ with_link (linked (words g.links.rows)) u v a b) → words d.rows ≡ (linked_too (plain g) u v).rows
  linked_rows u v hu hv e =
      let few = g.few in
      same_rows _ _ (rows_of d) (with_mark_rows (words g.links.rows) u v (rows_of g.links) (omega arith))
      (λ a b. e a b ∙ sym (link_links (plain g) (sound g) u v hu a b))

  pub dropped_rows : (u v : ℕ) → u < g.n → v < g.n → ((a b : ℕ) → linked (words d.rows) a b ≡ dropped (linked (words g.links.rows)) u v a b) → words d.rows ≡ (unlinked (plain g) u v).rows
  dropped_rows u v hu hv e =
      same_rows _ _ (rows_of d) (without_mark_rows (words g.links.rows) u v (rows_of g.links))
      (λ a b. e a b ∙ sym (unlink_links (plain g) (sound g) u v hu hv a b))

module _ (g : Graph) (m : StageSet) where
  pub live_word : (v : ℕ) → v < g.n → ((s : ℕ) → marked m.word s ≡ (marked g.live.word s || eqb s v && ltb v 64)) → m.word ≡ (live_too (plain g) v).live
  live_word v h e =
      let few = g.few in
      same_words _ _ m.fits (or_lt 64 _ _ g.live.fits (pow_below v 64 (omega arith)))
      (λ s. e s ∙ (let q = live_marks (plain g) v s in grind (arith, nat_tests)))

  pub freed_word : (v : ℕ) → v < g.n → ((s : ℕ) → marked m.word s ≡ (marked g.live.word s && not (eqb s v))) → m.word ≡ (freed (plain g) v).live
  freed_word v h e =
      same_words _ _ m.fits (and_lt 64 _ _ g.live.fits (omega arith)) (λ s. e s ∙ sym (free_marks (plain g) (sound g) v h s))

-- a loop test of links that are known
pub tested : (t : Bool) (L M : Links) → Decides t (Loop L) → ((a b : ℕ) → L a b ≡ M a b) → Decides t (Loop M)
tested t L M d e = subst (λ K. Decides t (Loop K)) (same_links L M e) d

-- fewer links close no more loops
pub fewer_links : (L M : Links) → ((a b : ℕ) → L a b ≡ true → M a b ≡ true) → (Loop M → ⊥) → Loop L → ⊥
fewer_links L M f none l =
    none (record { first = l.first; rest = l.rest; apart = l.apart; closed = chain_map (Link L) (Link M) f l.first l.first l.rest l.closed })

pub no_loop : (t : Bool) (L M : Links) → Decides t (Loop L) → ((a b : ℕ) → L a b ≡ M a b) → t ≡ false → Loop M → ⊥
no_loop t L M d e f l = both_ways t f ((tested t L M d e).1 l)

-- the loop test that each adding edit makes
pub mark_tested : (g : Graph) (m : StageSet) (v : ℕ) (t : Bool) (L : Links) → v < g.n
    → ((s : ℕ) → marked m.word s ≡ (marked g.live.word s || eqb s v && ltb v 64))
    → ((a b : ℕ) → L a b ≡ between (linked (words g.links.rows)) (marked m.word) a b) → Decides t (Loop L) → live_looped (live_too (plain g) v) ≡ t
mark_tested g m v t L h more is d =
    same_from_decides _ t (mark_decides (plain g) (sound g) v) (tested t L _ d (λ a b. is a b ∙ rw (same a, same b)))
  where
    same : (s : ℕ) → marked m.word s ≡ with_stage (live_of (plain g)) v s
    same s = let few = g.few in more s ∙ grind (arith, nat_tests)

pub link_tested : (g : Graph) (d : Digraph) (u v : ℕ) (t : Bool) (L : Links) → u < g.n → v < g.n
    → ((a b : ℕ) → linked (words d.rows) a b ≡ with_link (linked (words g.links.rows)) u v a b)
    → ((a b : ℕ) → L a b ≡ between (linked (words d.rows)) (marked g.live.word) a b) → Decides t (Loop L) → live_looped (linked_too (plain g) u v) ≡ t
link_tested g d u v t L hu hv more is e =
    same_from_decides _ t (link_decides (plain g) (sound g) u v hu hv) (tested t L _ e (λ a b. is a b ∙ ap (λ x. x && live_of (plain g) a && live_of (plain g) b) (more a b)))

-- both ends are stages, so the digraph takes the link
pub both_linked : (g : Graph) (u v : ℕ) (t : Bool) (L M : Links) → u < g.n → v < g.n → t ≡ (marked g.links.stages.word u && marked g.links.stages.word v)
    → (N : Links) → ((a b : ℕ) → N a b ≡ cond t (L a b) (M a b)) → (a b : ℕ) → N a b ≡ L a b
both_linked g u v t L M hu hv e N is a b =
    let yes' : t ≡ true = e ∙ and_from _ _ (g.numbered u ∙ lt-ltb u g.n hu) (g.numbered v ∙ lt-ltb v g.n hv) in
    is a b ∙ cond-true t (L a b) (M a b) yes'

-- an end that is no stage
pub absent_end : (n u v : ℕ) → (n ≤ u) ⊎ ((u < n) × (n ≤ v)) → (ltb u n && ltb v n) ≡ false
absent_end n u v (inl h) = and_left _ _ (le-ltb u n h)
absent_end n u v (inr h) = and_right _ _ (le-ltb v n h.1)
