-- What reading owes where it is refused, where prices are too few, and where it is done.
use Rattle.std.proofs.Common.{◌≡◌, ℕ, ◌<◌, ◌≤◌, true, false, leb, List, ◌++◌, map, length, drop, Ok, Err, Result, sym, refl, ap, ◌∙◌}
use Rattle.std.proofs.lemmas.Bool.{cond-false, cond-true, le-leb, lt-leb}
use Rattle.graph.specs.declared.fault.Cause.TheVariants.{TablesTooSmall}
use Rattle.graph.specs.declared.fault.Fault.{Fault}
use Rattle.graph.specs.declared.fault.Layer.TheVariants.{Call}
use Rattle.graph.specs.declared.graph.Graph.{Graph}
use Rattle.graph.specs.Graphs.{PlainGraph}
use Rattle.sheet_format.specs.Faulty.{at}
use Rattle.sheet_format.specs.Layout.{Contents}
use Rattle.sheet_format.specs.Promise.{ReadsTheLayout}
use Rattle.sheet_format.specs.Reading.{check, read_of, then}
use Rattle.sheet_format.proofs.Reading.{reading_accepts_exactly_the_layout_lem}
use Rattle.sheet.specs.Filings.{Filing}
use Rattle.sheet.specs.Readings.{Made, Pictures, ReadsInWords, graph_after, left_after, prices_after, read_answer, room_for}

pub made_was_err : (t : Result Contents Fault) (f : Fault) → Made t (Err f) → t ≡ Err f
made_was_err (Ok c) f k = absurd k
made_was_err (Err h) f k = ap Err (sym k)

pub made_was_ok : (t : Result Contents Fault) (g : Graph) → Made t (Ok g) → (c : Contents) × (t ≡ Ok c) × Pictures g c
made_was_ok (Ok c) g k = (c, refl, k)
made_was_ok (Err h) g k = absurd k

module _ {P : Type 0} (F : Filing P) (bytes : List ℕ) (old new : PlainGraph) (was now_prices : List P) (r : Result (Unit {0}) Fault) where
  abbrev Owed : Type 0
  Owed = record {
    answer : r ≡ read_answer F bytes (length was);
    graph : new ≡ graph_after F bytes (length was) old;
    prices : now_prices ≡ prices_after F bytes was;
    in_words : ReadsInWords F bytes r old new was now_prices;
  }

  -- the answer and what is left, in the format's words
  in_words_from : r ≡ read_answer F bytes (length was) → new ≡ graph_after F bytes (length was) old → now_prices ≡ prices_after F bytes was
      → ReadsInWords F bytes r old new was now_prices
  in_words_from a g p =
      record {
        laid_out_is_read = λ c l h.
            let e = (words.reads_what_is_laid_out c).1 l in
            let t : leb c.graph.n (length was) ≡ true = le-leb c.graph.n (length was) h in (
              a ∙ answer_at (Ok c) e ∙ ap (λ x. check x (at TablesTooSmall Call 0)) t,
              g ∙ graph_at (Ok c) e ∙ cond-true _ c.graph old t,
              p ∙ prices_at (Ok c) e ∙ cond-true _ _ was t,
            );
        too_few_prices = λ c l h.
            let e = (words.reads_what_is_laid_out c).1 l in
            let t : leb c.graph.n (length was) ≡ false = lt-leb c.graph.n (length was) h in (
              a ∙ answer_at (Ok c) e ∙ ap (λ x. check x (at TablesTooSmall Call 0)) t,
              g ∙ graph_at (Ok c) e ∙ cond-false _ c.graph old t,
              p ∙ prices_at (Ok c) e ∙ cond-false _ _ was t,
            );
        faulty_is_refused = λ f l.
            let e = (words.refuses_the_first_fault f).1 l in
            (a ∙ answer_at (Err f) e, g ∙ graph_at (Err f) e, p ∙ prices_at (Err f) e);
        one_of_the_two = words;
      }
    where
      words : ReadsTheLayout F.code F.width bytes
      words = reading_accepts_exactly_the_layout_lem F.code F.width bytes

      answer_at : (t : Result Contents Fault) → read_of F.code F.width bytes ≡ t → read_answer F bytes (length was) ≡ then t (λ c. room_for c.graph.n (length was))
      answer_at t e = ap (λ x. then x (λ c. room_for c.graph.n (length was))) e

      graph_at : (t : Result Contents Fault) → read_of F.code F.width bytes ≡ t → graph_after F bytes (length was) old ≡ left_after t (length was) (λ c. c.graph) old
      graph_at t e = ap (λ x. left_after x (length was) (λ c. c.graph) old) e

      prices_at : (t : Result Contents Fault) → read_of F.code F.width bytes ≡ t
          → prices_after F bytes was ≡ left_after t (length was) (λ c. map F.price_of c.fields ++ drop c.graph.n was) was
      prices_at t e = ap (λ x. left_after x (length was) (λ c. map F.price_of c.fields ++ drop c.graph.n was) was) e

  -- reading gave t, so this is owed of it
  from_reading : (t : Result Contents Fault) → read_of F.code F.width bytes ≡ t → r ≡ then t (λ c. room_for c.graph.n (length was))
      → new ≡ left_after t (length was) (λ c. c.graph) old
      → now_prices ≡ left_after t (length was) (λ c. map F.price_of c.fields ++ drop c.graph.n was) was → Owed
  from_reading t e a g p =
      let answer = a ∙ ap (λ x. then x (λ c. room_for c.graph.n (length was))) (sym e) in
      let graph = g ∙ ap (λ x. left_after x (length was) (λ c. c.graph) old) (sym e) in
      let prices = p ∙ ap (λ x. left_after x (length was) (λ c. map F.price_of c.fields ++ drop c.graph.n was) was) (sym e) in
      record { answer = answer; graph = graph; prices = prices; in_words = in_words_from answer graph prices }

  pub refused_post : (f : Fault) → read_of F.code F.width bytes ≡ Err f → r ≡ Err f → new ≡ old → now_prices ≡ was → Owed
  refused_post f e a g p = from_reading (Err f) e a g p

  module _ (c : Contents) (e : read_of F.code F.width bytes ≡ Ok c) where
    pub crowded_post : length was < c.graph.n → r ≡ Err (at TablesTooSmall Call 0) → new ≡ old → now_prices ≡ was → Owed
    crowded_post h a g p =
        let t : leb c.graph.n (length was) ≡ false = lt-leb c.graph.n (length was) h in
        from_reading (Ok c) e (a ∙ ap (λ x. check x (at TablesTooSmall Call 0)) (sym t)) (g ∙ sym (cond-false _ c.graph old t)) (p ∙ sym (cond-false _ _ was t))

    pub done_post : c.graph.n ≤ length was → r ≡ Ok tt → new ≡ c.graph → now_prices ≡ map F.price_of c.fields ++ drop c.graph.n was → Owed
    done_post h a g p =
        let t : leb c.graph.n (length was) ≡ true = le-leb c.graph.n (length was) h in
        from_reading (Ok c) e (a ∙ ap (λ x. check x (at TablesTooSmall Call 0)) (sym t)) (g ∙ sym (cond-true _ c.graph old t)) (p ∙ sym (cond-true _ _ was t))
