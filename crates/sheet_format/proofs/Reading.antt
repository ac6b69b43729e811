-- Reading accepts exactly what is laid out, and refuses with the first fault.
use Rattle.std.proofs.Common.{◌≡◌, ℕ, ◌+◌, ◌⊎◌, List, [], ◌∷◌, ◌++◌, length, drop, Ok, Err, Result, sym, refl, ap, ◌∙◌, subst, inl, inr, append-nil, le_refl, arith}
use Rattle.graph.specs.declared.fault.Cause.TheVariants.{RecordBody}
use Rattle.graph.specs.declared.fault.Fault.{Fault}
use Rattle.graph.specs.declared.fault.Layer.TheVariants.{Graph, Record}
use Rattle.graph.proofs.Edits.{no_loop_without_links}
use Rattle.sheet_format.specs.Entries.{all_bytes, body, record_bytes}
use Rattle.sheet_format.specs.Layout.{Contents, Fit, Framed, LaidOut}
use Rattle.sheet_format.specs.Faulty.{Refused, at, bad_body, bad_kind, bad_length, bad_size, bad_version, unfit}
use Rattle.sheet_format.specs.Reading.{no_contents, read_of, records_from, taken_in, then}
use Rattle.sheet_format.specs.Promise.{ReadingAcceptsExactlyTheLayout}
use Rattle.sheet_format.proofs.Bodies.{ill_formed, ill_sized, judged, judged_one}
use Rattle.sheet_format.proofs.Frames.{frame_accepted, framing, kind_refused, size_refused, version_refused}
use Rattle.sheet_format.proofs.Records.{Verdict, fitting_read, record_read, records_judged}
use Rattle.sheet_format.proofs.Steps.{refused, says_nothing, says_one, step, taken_one}

fit_none : (width : ℕ) → Fit width []
fit_none width = record { formed = tt; few = omega arith; earlier = tt; once = tt; no_live_loop = no_loop_without_links _ (λ a b. refl) }

module _ (code width : ℕ) (bytes : List ℕ) where
  -- what reading answers is so
  read_judged : Verdict code width bytes (read_of code width bytes)
  read_judged =
      framing code bytes width (λ r. Verdict code width bytes (then r (λ _. records_from width 4 0 (drop 4 bytes) no_contents)))
      (λ framed. records_judged code width bytes (length (drop 4 bytes)) [] (fit_none width) no_contents says_nothing (drop 4 bytes) (le_refl _) framed)
      (λ f x. x)

  -- reading goes by the records of its frame
  framed_read : (records : List ℕ) → Framed code bytes records → read_of code width bytes ≡ records_from width 4 0 records no_contents
  framed_read records f =
      ap (λ r. then r (λ _. records_from width 4 0 (drop 4 bytes) no_contents)) (frame_accepted code bytes records f)
      ∙ ap (λ bs. records_from width 4 0 (drop 4 bs) no_contents) f.laid

  laid_out_read : (c : Contents) → LaidOut code width bytes c → read_of code width bytes ≡ Ok c
  unfolding records_from
  laid_out_read c l =
      let run = fitting_read width l.entries l.fit [] in
      framed_read _ l.framed
      ∙ ap (λ bs. records_from width 4 0 bs no_contents) (sym (append-nil (all_bytes l.entries)))
      ∙ run.same ∙ ap Ok (says_one l.entries _ c run.says l.says)

  refused_read : (f : Fault) → Refused code width bytes f → read_of code width bytes ≡ Err f
  unfolding records_from
  refused_read f (bad_version h) = ap (λ r. then r (λ _. records_from width 4 0 (drop 4 bytes) no_contents)) (version_refused code bytes h)
  refused_read f (bad_size fine h) = ap (λ r. then r (λ _. records_from width 4 0 (drop 4 bytes) no_contents)) (size_refused code bytes fine h)
  refused_read f (bad_kind other n rest framed) =
      ap (λ r. then r (λ _. records_from width 4 0 (drop 4 bytes) no_contents)) (kind_refused code bytes other n rest framed)
  refused_read f (bad_length es fit len more framed h) =
      let run = fitting_read width es fit (len ∷ more) in
      let place : ℕ = 4 + length (all_bytes es) in
      framed_read _ framed ∙ run.same
      ∙ ap (λ r. then r (λ e. then (taken_in run.contents e (place + 1)) (λ d. records_from width (place + 1) len more d)))
      (judged_one (judged width place len more) (ill_sized h))
  refused_read f (bad_body es fit len more framed low high none) =
      let run = fitting_read width es fit (len ∷ more) in
      let place : ℕ = 4 + length (all_bytes es) in
      let tag : place + 1 ≡ 5 + length (all_bytes es) = omega arith in
      framed_read _ framed ∙ run.same
      ∙ ap (λ r. then r (λ e. then (taken_in run.contents e (place + 1)) (λ d. records_from width (place + 1) len more d)))
      (judged_one (judged width place len more) (ill_formed low high none))
      ∙ ap (λ p. Err (at RecordBody Record p)) tag
  refused_read f (unfit es fit e formed more framed cause un) =
      let run = fitting_read width es fit (record_bytes e ++ more) in
      let place : ℕ = 4 + length (all_bytes es) in
      let tag : place + 1 ≡ 5 + length (all_bytes es) = omega arith in
      framed_read _ framed ∙ run.same
      ∙ ap (λ r. then r (λ e'. then (taken_in run.contents e' (place + 1)) (λ d. records_from width (place + 1) (length (body e)) (body e ++ more) d)))
      (record_read width place e more formed)
      ∙ ap (λ r. then r (λ d. records_from width (place + 1) (length (body e)) (body e ++ more) d))
      (taken_one (step es run.contents run.says (place + 1) e) (refused cause un))
      ∙ ap (λ p. Err (at cause Graph p)) tag

-- an answer is contents or a fault, and not two
either : (code width : ℕ) (bytes : List ℕ) (r : Result Contents Fault) → Verdict code width bytes r
    → ((c : Contents) × LaidOut code width bytes c) ⊎ ((f : Fault) × Refused code width bytes f)
either code width bytes (Ok c) v = inl (c, v)
either code width bytes (Err f) v = inr (f, v)

same_contents : (c d : Contents) → ◌≡◌ {A = Result Contents Fault} (Ok c) (Ok d) → c ≡ d
same_contents c d e = cc

same_fault : (f g : Fault) → ◌≡◌ {A = Result Contents Fault} (Err f) (Err g) → f ≡ g
same_fault f g e = cc

not_two : (c : Contents) (f : Fault) → ◌≡◌ {A = Result Contents Fault} (Ok c) (Err f) → ⊥
not_two c f e = let z : ◌≡◌ {A = ℕ} 0 1 = cc in omega arith

pub reading_accepts_exactly_the_layout_lem : ReadingAcceptsExactlyTheLayout
reading_accepts_exactly_the_layout_lem code width bytes =
    record {
      reads_what_is_laid_out = λ c. (λ e. subst (Verdict code width bytes) e (read_judged code width bytes), laid_out_read code width bytes c);
      refuses_the_first_fault = λ f. (λ e. subst (Verdict code width bytes) e (read_judged code width bytes), refused_read code width bytes f);
      laid_out_or_faulty = either code width bytes (read_of code width bytes) (read_judged code width bytes);
      never_both = λ c f l r. not_two c f (sym (laid_out_read code width bytes c l) ∙ refused_read code width bytes f r);
      one_contents = λ c d l m. same_contents c d (sym (laid_out_read code width bytes c l) ∙ laid_out_read code width bytes d m);
      one_fault = λ f g r s. same_fault f g (sym (refused_read code width bytes f r) ∙ refused_read code width bytes g s);
    }
