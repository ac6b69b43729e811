-- Records read one after another.
use Rattle.std.proofs.Common.{◌≡◌, ℕ, zero, suc, ◌+◌, ◌≤◌, List, [], ◌∷◌, ◌++◌, length, take, drop, Ok, Err, Result, sym, refl, ap, ◌∙◌, subst, append_assoc, append-nil, arith}
use Rattle.std.proofs.lemmas.List.{drop_at, length-append, length-drop, length-take-le, take-append-drop, take_at}
use Rattle.graph.specs.declared.fault.Cause.TheVariants.{RecordBody}
use Rattle.graph.specs.declared.fault.Fault.{Fault}
use Rattle.graph.specs.declared.fault.Layer.TheVariants.{Graph, Record}
use Rattle.sheet_format.specs.Entries.{Entry, stage, link, live, all_bytes, body, record_bytes, Formed}
use Rattle.sheet_format.specs.Layout.{Contents, Fit, Framed, LaidOut, Says}
use Rattle.sheet_format.specs.Faulty.{Refused, at, bad_body, bad_length, unfit}
use Rattle.sheet_format.specs.Reading.{no_contents, record_of, records_from, taken_in, then}
use Rattle.sheet_format.proofs.Bodies.{Judged, formed, ill_formed, ill_sized, judged, judged_one}
use Rattle.sheet_format.proofs.Joins.{bytes_join}
use Rattle.sheet_format.proofs.Fits.{Follows, fit_front, fit_last, fit_more, follows_or_unfit}
use Rattle.sheet_format.proofs.Steps.{Taken, refused, says_nothing, step, taken}

-- what is left of a record is passed over
pub skipped : (width left : ℕ) (bs : List ℕ) (place : ℕ) (c : Contents)
    → records_from width place left bs c ≡ records_from width (place + left) 0 (drop left bs) c
unfolding records_from
skipped width zero bs place c = let e : place ≡ place + 0 = omega arith in ap (λ p. records_from width p 0 bs c) e
skipped width (suc left) [] place c = refl
skipped width (suc left) (b ∷ bs) place c =
    let e : (place + 1) + left ≡ place + suc left = omega arith in
    skipped width left bs (place + 1) c ∙ ap (λ p. records_from width p 0 (drop left bs) c) e

body_long : (e : Entry) → 1 ≤ length (body e)
body_long (stage field name) = omega arith
body_long (link u v) = omega arith
body_long (live s) = omega arith

-- the bytes of entries and of one more
bytes_last : (es : List Entry) (e : Entry) (rest : List ℕ) → all_bytes (es ++ e ∷ []) ++ rest ≡ all_bytes es ++ (record_bytes e ++ rest)
bytes_last es e rest =
    ap (λ x. x ++ rest) (bytes_join es (e ∷ []) ∙ ap (λ x. all_bytes es ++ x) (append-nil (record_bytes e)))
    ∙ append_assoc (all_bytes es) (record_bytes e) rest

bytes_last_length : (es : List Entry) (e : Entry) → length (all_bytes (es ++ e ∷ [])) ≡ length (all_bytes es) + (1 + length (body e))
bytes_last_length es e =
    ap length (bytes_join es (e ∷ []) ∙ ap (λ x. all_bytes es ++ x) (append-nil (record_bytes e)))
    ∙ length-append (all_bytes es) (record_bytes e) ∙ omega arith

-- ---- what reading records finds is so
abbrev pub Verdict : ℕ → ℕ → List ℕ → Result Contents Fault → Type 0
Verdict code width bytes (Ok c) = LaidOut code width bytes c
Verdict code width bytes (Err f) = Refused code width bytes f

module _ (code width : ℕ) (bytes : List ℕ) where
  -- from these entries on, the bytes that are left are judged
  abbrev Judges : ℕ → Type 0
  Judges n =
      (es : List Entry) → Fit width es → (c : Contents) → Says es c → (rest : List ℕ) → length rest ≤ n
      → Framed code bytes (all_bytes es ++ rest) → Verdict code width bytes (records_from width (4 + length (all_bytes es)) 0 rest c)

  next_judged : (len : ℕ) (more : List ℕ) → Judges (length more) → (es : List Entry) → Fit width es → (c : Contents) → Says es c
      → Framed code bytes (all_bytes es ++ len ∷ more) → Verdict code width bytes (records_from width (4 + length (all_bytes es)) 0 (len ∷ more) c)
  unfolding records_from
  next_judged len more later es fit c says framed = by_record _ (judged width place len more)
    where
      place : ℕ
      place = 4 + length (all_bytes es)

      tag : place + 1 ≡ 5 + length (all_bytes es)
      tag = omega arith

      by_entry : (e : Entry) → len ≤ length more → Formed width e → body e ≡ take len more → (r : Result Contents Fault) → Taken es e (place + 1) r
          → Verdict code width bytes (then r (λ d. records_from width (place + 1) len more d))
      by_entry e high f is r t = go r t
        where
          size : length (body e) ≡ len
          size = ap length is ∙ length-take-le len more high

          whole : record_bytes e ++ drop len more ≡ len ∷ more
          whole = λ i. size i ∷ (ap (λ x. x ++ drop len more) is ∙ take-append-drop len more) i

          again : Framed code bytes (all_bytes es ++ (record_bytes e ++ drop len more))
          again = subst (λ x. Framed code bytes (all_bytes es ++ x)) (sym whole) framed

          go : (r : Result Contents Fault) → Taken es e (place + 1) r → Verdict code width bytes (then r (λ d. records_from width (place + 1) len more d))
          go r (taken d follows says') =
              let on : place + 1 + len ≡ 4 + length (all_bytes (es ++ e ∷ [])) = omega (arith, size, bytes_last_length es e) in
              let jump = skipped width len more (place + 1) d ∙ ap (λ p. records_from width p 0 (drop len more) d) on in
              subst (Verdict code width bytes) (sym jump)
              (later (es ++ e ∷ []) (fit_more width es e fit f follows) d says' (drop len more) (omega (arith, length-drop len more))
              (subst (Framed code bytes) (sym (bytes_last es e (drop len more))) again))
          go r (refused cause un) = subst (λ p. Refused code width bytes (at cause Graph p)) (sym tag) (unfit es fit e f (drop len more) again cause un)

      by_record : (r : Result Entry Fault) → Judged width place len more r
          → Verdict code width bytes (then r (λ e. then (taken_in c e (place + 1)) (λ d. records_from width (place + 1) len more d)))
      by_record r (ill_sized h) = bad_length es fit len more framed h
      by_record r (ill_formed low high none) =
          subst (λ p. Refused code width bytes (at RecordBody Record p)) (sym tag) (bad_body es fit len more framed low high none)
      by_record r (formed e low high f is) = by_entry e high f is _ (step es c says (place + 1) e)

  pub records_judged : (n : ℕ) → Judges n
  unfolding records_from
  records_judged n es fit c says [] small framed =
      record { entries = es; framed = subst (Framed code bytes) (append-nil (all_bytes es)) framed; fit = fit; says = says }
  records_judged zero es fit c says (len ∷ more) small framed = absurd (omega arith)
  records_judged (suc n) es fit c says (len ∷ more) small framed =
      next_judged len more (λ fs fit' d says' rest small' framed'. records_judged n fs fit' d says' rest (omega arith) framed') es fit c says framed

-- ---- entries that fit are read to what they say
pub record_read : (width place : ℕ) (e : Entry) (rest : List ℕ) → Formed width e → record_of width place (length (body e)) (body e ++ rest) ≡ Ok e
record_read width place e rest f =
    judged_one (judged width place (length (body e)) (body e ++ rest))
    (formed e (body_long e) (omega (arith, length-append (body e) rest)) f (sym (take_at (body e) rest (length (body e)) refl)))

-- from a place, these contents and these bytes on, reading goes on as from others, which the entries say
pub record GoesOn (width place place' : ℕ) (bs bs' : List ℕ) (c : Contents) (es : List Entry) : Type 0 where
  pub contents : Contents
  pub says : Says es contents
  pub same : records_from width place 0 bs c ≡ records_from width place' 0 bs' contents

one_read : (width place : ℕ) (es : List Entry) (c : Contents) → Says es c → (e : Entry) → Formed width e → Follows es e → (rest : List ℕ)
    → GoesOn width place (place + (1 + length (body e))) (record_bytes e ++ rest) rest c (es ++ e ∷ [])
unfolding records_from
one_read width place es c s e f follows rest = go (taken_in c e (place + 1)) refl (step es c s (place + 1) e)
  where
    go : (r : Result Contents Fault) → taken_in c e (place + 1) ≡ r → Taken es e (place + 1) r
        → GoesOn width place (place + (1 + length (body e))) (record_bytes e ++ rest) rest c (es ++ e ∷ [])
    go r is (refused cause un) = absurd (follows_or_unfit es e cause follows un)
    go r is (taken d f' says) =
        let on : place + 1 + length (body e) ≡ place + (1 + length (body e)) = omega arith in
        record {
          contents = d;
          says = says;
          same =
              ap (λ r. then r (λ e'. then (taken_in c e' (place + 1)) (λ d. records_from width (place + 1) (length (body e)) (body e ++ rest) d))) (record_read width place e rest f)
              ∙ ap (λ r. then r (λ d. records_from width (place + 1) (length (body e)) (body e ++ rest) d)) is
              ∙ skipped width (length (body e)) (body e ++ rest) (place + 1) d
              ∙ ap (λ p. records_from width p 0 (drop (length (body e)) (body e ++ rest)) d) on
              ∙ ap (λ bs. records_from width (place + (1 + length (body e))) 0 bs d) (drop_at (body e) rest (length (body e)) refl);
        }

all_read : (width : ℕ) (more : List Entry) (place : ℕ) (es : List Entry) (c : Contents) → Says es c → Fit width (es ++ more) → (rest : List ℕ)
    → GoesOn width place (place + length (all_bytes more)) (all_bytes more ++ rest) rest c (es ++ more)
all_read width [] place es c s fit rest =
    let on : place ≡ place + 0 = omega arith in
    record {
      contents = c;
      says = subst (λ fs. Says fs c) (sym (append-nil es)) s;
      same = ap (λ p. records_from width p 0 rest c) on;
    }
all_read width (e ∷ more) place es c s fit rest =
    let regroup : (es ++ e ∷ []) ++ more ≡ es ++ e ∷ more = append_assoc es (e ∷ []) more in
    let whole : Fit width ((es ++ e ∷ []) ++ more) = subst (Fit width) (sym regroup) fit in
    let last = fit_last width es e (fit_front width (es ++ e ∷ []) more whole) in
    let one = one_read width place es c s e last.0 last.1 (all_bytes more ++ rest) in
    let others = all_read width more (place + (1 + length (body e))) (es ++ e ∷ []) one.contents one.says whole rest in
    let on : place + (1 + length (body e)) + length (all_bytes more) ≡ place + length (all_bytes (e ∷ more)) =
    omega (arith, length-append (record_bytes e) (all_bytes more)) in
    record {
      contents = others.contents;
      says = subst (λ fs. Says fs others.contents) regroup others.says;
      same =
          ap (λ bs. records_from width place 0 bs c) (append_assoc (record_bytes e) (all_bytes more) rest)
          ∙ one.same ∙ others.same ∙ ap (λ p. records_from width p 0 rest others.contents) on;
    }

pub fitting_read : (width : ℕ) (es : List Entry) → Fit width es → (rest : List ℕ)
    → GoesOn width 4 (4 + length (all_bytes es)) (all_bytes es ++ rest) rest no_contents es
fitting_read width es fit rest = all_read width es 4 [] no_contents says_nothing fit rest
