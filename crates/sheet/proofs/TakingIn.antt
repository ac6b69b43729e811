-- A graph takes records in as the specification of reading does.
use Rattle.std.proofs.Common.{◌≡◌, ℕ, ◌+◌, List, length, Some, None, Option, Result, sym, refl, ap, ◌∙◌}
use Rattle.std.proofs.lemmas.List.{length_push}
use Rattle.graph.specs.declared.fault.Cause.{Cause}
use Rattle.graph.specs.declared.fault.Fault.{Fault}
use Rattle.graph.specs.declared.fault.Site.{Site}
use Rattle.graph.specs.declared.fault.Site.TheVariants.{Record as AtRecord}
use Rattle.graph.specs.declared.graph.Graph.{Graph}
use Rattle.graph.specs.Faults.{after, answer}
use Rattle.graph.specs.Graphs.{PlainGraph, link_refusal, linked_too, live_refusal, live_too, one_more, plain, stage_refusal}
use Rattle.sheet_format.specs.Entries.{stage, link, live}
use Rattle.sheet_format.specs.Layout.{Contents}
use Rattle.sheet_format.specs.Reading.{made_or, taken_in}
use Rattle.sheet.specs.Readings.{Pictures, Took}

-- the site of a record's tag byte
abbrev tag_at : ℕ → Site
tag_at place = AtRecord place

-- an edit is refused, or leaves the graph of what it makes
made_took : (o : Option Cause) (place : ℕ) (made : Contents) (r : Result (Unit {0}) Fault) (h : Graph) → r ≡ answer o (tag_at place)
    → (o ≡ None → Pictures h made) → Took (made_or o place made) r h
made_took None place made r h e f = (e, f refl)
made_took (Some cause) place made r h e f = e

module _ (g h : Graph) (c : Contents) (ok : Pictures g c) (place : ℕ) (r : Result (Unit {0}) Fault) where
  -- an edit with this refusal and outcome
  edited : (refusal : PlainGraph → Option Cause) (outcome : PlainGraph → PlainGraph) (made : Contents)
      → r ≡ answer (refusal (plain g)) (tag_at place) → plain h ≡ after (refusal (plain g)) (plain g) (outcome (plain g))
      → made.graph ≡ outcome c.graph → length made.fields ≡ made.graph.n → Took (made_or (refusal c.graph) place made) r h
  edited refusal outcome made a l is each =
      made_took (refusal c.graph) place made r h (a ∙ ap (λ x. answer (refusal x) (tag_at place)) ok.graph)
      (λ none. record {
        graph = l ∙ ap (λ x. after (refusal x) x (outcome x)) ok.graph ∙ ap (λ o. after o c.graph (outcome c.graph)) none ∙ sym is;
        each = each;
      })

  pub stage_in : (field name : List ℕ) → r ≡ answer (stage_refusal (plain g)) (tag_at place)
      → plain h ≡ after (stage_refusal (plain g)) (plain g) (one_more (plain g)) → Took (taken_in c (stage field name) place) r h
  stage_in field name a l = edited stage_refusal one_more _ a l refl (length_push c.fields field ∙ ap (λ k. k + 1) ok.each)

  pub link_in : (u v : ℕ) → r ≡ answer (link_refusal (plain g) u v) (tag_at place)
      → plain h ≡ after (link_refusal (plain g) u v) (plain g) (linked_too (plain g) u v) → Took (taken_in c (link u v) place) r h
  link_in u v a l = edited (λ x. link_refusal x u v) (λ x. linked_too x u v) _ a l refl ok.each

  pub live_in : (s : ℕ) → r ≡ answer (live_refusal (plain g) s) (tag_at place)
      → plain h ≡ after (live_refusal (plain g) s) (plain g) (live_too (plain g) s) → Took (taken_in c (live s) place) r h
  live_in s a l = edited (λ x. live_refusal x s) (λ x. live_too x s) _ a l refl ok.each
