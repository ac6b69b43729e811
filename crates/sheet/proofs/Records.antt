-- The next record of a sheet, as the reader finds it.
use Rattle.std.proofs.Common.{◌≡◌, ℕ, ◌+◌, ◌-◌, ◌<◌, ◌≤◌, true, false, ◌&&◌, ltb, leb, ◌⊎◌, List, length, get_or, take, drop, Some, None, Ok, Err, Result, sym, ap, ◌∙◌, arith}
use Rattle.std.proofs.lemmas.List.{at_drop_more, at_drop_all, length-drop}
use Rattle.std.proofs.lemmas.Bool.{and_from, le-leb, lt-ltb}
use Rattle.std.proofs.lemmas.Bool.Decides.{nat_tests}
use Rattle.graph.specs.declared.fault.Cause.TheVariants.{RecordLength}
use Rattle.graph.specs.declared.fault.Fault.{Fault}
use Rattle.graph.specs.declared.fault.Layer.TheVariants.{Record}
use Rattle.sheet_format.specs.Entries.{Entry}
use Rattle.sheet_format.specs.Faulty.{at}
use Rattle.sheet_format.specs.Reading.{check, entry_of, formed_or, record_of, then}
use Rattle.sheet.specs.Records.{next_of}

module _ (w p : ℕ) (sheet : List ℕ) where
  pub next_end : length sheet ≤ p → Ok None ≡ next_of w p (drop p sheet)
  next_end h = sym (at_drop_all (next_of w p) sheet p h)

  -- the record whose length byte is at p
  pub next_here : p < length sheet → next_of w p (drop p sheet) ≡ then (record_of w p (get_or sheet p 0) (drop (p + 1) sheet)) (λ e. Ok (Some e))
  next_here h = at_drop_more (next_of w p) sheet p 0 h

  pub next_short : p < length sheet → (get_or sheet p 0 ≡ 0) ⊎ (length sheet - p - 1 < get_or sheet p 0) → Err (at RecordLength Record p) ≡ next_of w p (drop p sheet)
  next_short h k =
      let rest = length-drop (p + 1) sheet in
      let e : (ltb 0 (get_or sheet p 0) && leb (get_or sheet p 0) (length (drop (p + 1) sheet))) ≡ false = grind (arith, nat_tests) in
      sym (next_here h ∙ ap (λ t. then (then (check t (at RecordLength Record p)) (λ _. formed_or (entry_of w (take (get_or sheet p 0) (drop (p + 1) sheet))) (p + 1))) (λ e. Ok (Some e))) e)

  -- a record of a good length is what its tag byte and body say
  pub next_entry : p < length sheet → (get_or sheet p 0 ≡ 0 → ⊥) → get_or sheet p 0 ≤ length sheet - p - 1
      → (r : Result Entry Fault) → r ≡ formed_or (entry_of w (take (p + 1 + get_or sheet p 0 - (p + 1)) (drop (p + 1) sheet))) (p + 1)
      → then r (λ e. Ok (Some e)) ≡ next_of w p (drop p sheet)
  next_entry h some short r is =
      let rest = length-drop (p + 1) sheet in
      let len : p + 1 + get_or sheet p 0 - (p + 1) ≡ get_or sheet p 0 = omega arith in
      let e : (ltb 0 (get_or sheet p 0) && leb (get_or sheet p 0) (length (drop (p + 1) sheet))) ≡ true =
      and_from _ _ (lt-ltb 0 (get_or sheet p 0) (omega arith)) (le-leb (get_or sheet p 0) (length (drop (p + 1) sheet)) (omega arith)) in
      ap (λ x. then x (λ e. Ok (Some e))) (is ∙ ap (λ k. formed_or (entry_of w (take k (drop (p + 1) sheet))) (p + 1)) len)
      ∙ sym (next_here h ∙ ap (λ t. then (then (check t (at RecordLength Record p)) (λ _. formed_or (entry_of w (take (get_or sheet p 0) (drop (p + 1) sheet))) (p + 1))) (λ e. Ok (Some e))) e)
