-- The text of a sheet that was read.
use Rattle.std.proofs.Common.{◌≡◌, ℕ, Bool, true, false, leb, List, [], ◌∷◌, ◌++◌, map, length, take, drop, Ok, codes, sym, refl, ap, ◌∙◌, arith}
use mathlib.Core.Path.{fun_ext}
use Rattle.std.proofs.lemmas.List.{append_assoc, length-map, take_at}
use Rattle.std.proofs.lemmas.Bool.{cond-true}
use Rattle.theory.specs.Loops.{Stages}
use Rattle.theory.specs.Prices.{Kind, cost}
use Rattle.graph.specs.declared.fault.Fault.{Fault}
use Rattle.graph.specs.Graphs.{PlainGraph}
use Rattle.graph.specs.Plans.{not_live}
use Rattle.price.specs.Costs.{price_at}
use Rattle.sheet_format.specs.Entries.{Entry, stage, link, live, fields_in, stages_in}
use Rattle.sheet_format.specs.Layout.{Contents}
use Rattle.sheet_format.specs.Promise.{ReadsTheLayout}
use Rattle.sheet_format.specs.Reading.{check, read_of, then}
use Rattle.sheet.specs.declared.figures.Figures.{Figures}
use Rattle.sheet.specs.FigureTexts.{figures_text}
use Rattle.sheet.specs.Filings.{Filing}
use Rattle.sheet.specs.Readings.{graph_after, left_after, prices_after, read_answer, room_for}
use Rattle.sheet.proofs.RecordSteps.{ok_not_err, then_ok}
use Rattle.report.specs.Lines.{hold_lines}
use Rattle.report.specs.Texts.{all_held, outcome_text, plan_text, sheet_text}

-- each stage has a field
fields_each : (es : List Entry) → length (fields_in es) ≡ stages_in es
fields_each [] = refl
fields_each (stage field name ∷ es) = let ih = fields_each es in omega arith
fields_each (link u v ∷ es) = fields_each es
fields_each (live s ∷ es) = fields_each es

passed_check : (t : Bool) (f : Fault) → check t f ≡ Ok tt → t ≡ true
passed_check true f e = refl
passed_check false f e = ok_not_err tt f (sym e)

-- the stages that are not live, as a set
pub same_held : (g : PlainGraph) (c : Contents) (held : Stages) → g ≡ c.graph → ((s : ℕ) → held s ≡ not_live g s) → held ≡ not_live c.graph
same_held g c held e is = fun_ext is ∙ ap not_live e

-- three lines, and those that follow
lines_joined : (x y z : List ℕ)
    → (codes "low " ++ (x ++ (codes "\nhigh " ++ (y ++ codes "\ncases 0\n")))) ++ z
    ≡ codes "low " ++ ((x ++ codes "\n") ++ (codes "high " ++ ((y ++ codes "\n") ++ (codes "cases 0\n" ++ z))))
lines_joined x y z = simp append_assoc

module _ {P : Type 0} (K : Kind P) (F : Filing P) where
  -- the printed prices before the lines of the holds
  pub plan_joined : (c : Contents) (low high : Figures) (held : Stages) → low ≡ F.figures_of K.nothing → high ≡ F.figures_of (all_held K F c) → held ≡ not_live c.graph
      → (codes "low " ++ (figures_text low ++ (codes "\nhigh " ++ (figures_text high ++ codes "\ncases 0\n")))) ++ hold_lines held 0 c.names ≡ plan_text K F c
  plan_joined c low high held a b h =
      rw (a, b, h) (lines_joined (figures_text (F.figures_of K.nothing)) (figures_text (F.figures_of (all_held K F c))) (hold_lines (not_live c.graph) 0 c.names))

  -- the cost of holding every stage that is not live, from the first prices
  pub same_high : (c : Contents) (prices : List P) (held : Stages) (n : ℕ) → n ≡ c.graph.n → take c.graph.n prices ≡ map F.price_of c.fields → held ≡ not_live c.graph
      → cost K (price_at (take n prices) K.nothing) (length (take n prices)) held ≡ all_held K F c
  same_high c prices held n e q h =
      ap (λ ps. cost K (price_at ps K.nothing) (length ps) held) (ap (λ k. take k prices) e ∙ q)
      ∙ ap (λ x. cost K (price_at (map F.price_of c.fields) K.nothing) (length (map F.price_of c.fields)) x) h

  module _ (bytes : List ℕ) (was : List P) (answer : Ok tt ≡ read_answer F bytes (length was)) (words : ReadsTheLayout F.code F.width bytes) where
    -- the contents that were read
    contents : (c : Contents) × (read_of F.code F.width bytes ≡ Ok c) × (room_for c.graph.n (length was) ≡ Ok tt)
    contents = then_ok (read_of F.code F.width bytes) (λ c. room_for c.graph.n (length was)) tt (sym answer)

    roomy : leb contents.0.graph.n (length was) ≡ true
    roomy = passed_check _ _ contents.2

    each : length contents.0.fields ≡ contents.0.graph.n
    each =
        let l = (words.reads_what_is_laid_out contents.0).0 contents.1 in
        ap length l.says.fields ∙ fields_each l.entries ∙ sym l.says.stages

    -- what the sheet says, with the graph and the prices that reading left
    pub read_out : (g : PlainGraph) (old : PlainGraph) (prices : List P) → g ≡ graph_after F bytes (length was) old → prices ≡ prices_after F bytes was
        → (c : Contents) × (read_of F.code F.width bytes ≡ Ok c) × (g ≡ c.graph) × (take c.graph.n prices ≡ map F.price_of c.fields)
        × (plan_text K F c ≡ sheet_text K F bytes (length was))
    read_out g old prices e q =
        let c = contents.0 in
        let same_graph = e ∙ ap (λ x. left_after x (length was) (λ y. y.graph) old) contents.1 ∙ cond-true _ c.graph old roomy in
        let same_prices = q ∙ ap (λ x. left_after x (length was) (λ y. map F.price_of y.fields ++ drop y.graph.n was) was) contents.1 ∙ cond-true _ _ was roomy in
        let text = ap (λ x. outcome_text K F (then x (λ y. then (room_for y.graph.n (length was)) (λ _. Ok y)))) contents.1 ∙ ap (λ x. outcome_text K F (then x (λ _. Ok c))) contents.2 in (
          c,
          contents.1,
          same_graph,
          ap (take c.graph.n) same_prices ∙ take_at (map F.price_of c.fields) (drop c.graph.n was) c.graph.n (length-map c.fields F.price_of ∙ each),
          sym text,
        )
