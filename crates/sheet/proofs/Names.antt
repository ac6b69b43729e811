-- A stage's name is a part of the sheet.
use Rattle.std.proofs.Common.{◌≡◌, ℕ, zero, suc, ◌+◌, ◌≤◌, List, [], ◌∷◌, ◌++◌, length, get_or, take, drop, Some, Ok, sym, ap, ◌∙◌, subst, arith}
use Rattle.std.proofs.lemmas.List.{drop-drop, length-take, take_all, take-take}
use Rattle.sheet_format.specs.Entries.{Entry, Formed, body, stage}
use Rattle.sheet_format.specs.Reading.{no_contents, record_of}
use Rattle.sheet_format.proofs.Bodies.{Judged, formed, judged}
use Rattle.sheet.specs.declared.record.Entry.{Entry as Told}
use Rattle.sheet.specs.declared.record.Entry.TheVariants.{Stage, Link, Live}
use Rattle.sheet.specs.Records.{EntryPlaced, NameIn, entry_told, next_of}
use Rattle.sheet.proofs.Records.{next_here}
use Rattle.sheet.proofs.RecordSteps.{found_some, next_within}

-- what stands behind a front of a taken part is a part too
behind : (xs name ys : List ℕ) (len : ℕ) → xs ++ name ≡ take len ys → name ≡ take (length name) (drop (length xs) ys)
behind [] name ys len e =
    let long : length name ≤ len = omega (arith, ap length e, length-take len ys) in
    sym (take_all (length name) name (omega arith)) ∙ ap (take (length name)) e ∙ take-take (length name) len ys long
behind (x ∷ xs) name [] zero e = absurd (omega (arith, ap length e))
behind (x ∷ xs) name [] (suc len) e = absurd (omega (arith, ap length e))
behind (x ∷ xs) name (y ∷ ys) zero e = absurd (omega (arith, ap length e))
behind (x ∷ xs) name (y ∷ ys) (suc len) e = behind xs name ys len (ap (drop 1) e)

formed_of : {width place len : ℕ} {more : List ℕ} {e : Entry} → Judged width place len more (Ok e) → Formed width e × (body e ≡ take len more)
formed_of (formed e low high f q) = (f, q)

name_part : (w p : ℕ) (sheet field name : List ℕ) → next_of w p (drop p sheet) ≡ Ok (Some (stage field name)) → name ≡ take (length name) (drop (p + 2 + w) sheet)
name_part w p sheet field name e =
    let h = next_within w p sheet no_contents (stage field name) e in
    let r = found_some (record_of w p (get_or sheet p 0) (drop (p + 1) sheet)) (stage field name) (sym (next_here w p sheet h) ∙ e) in
    let f = formed_of (subst (Judged w p (get_or sheet p 0) (drop (p + 1) sheet)) r (judged w p (get_or sheet p 0) (drop (p + 1) sheet))) in
    let place : p + 1 + length (1 ∷ field) ≡ p + 2 + w = omega (arith, f.0.0) in
    behind (1 ∷ field) name (drop (p + 1) sheet) (get_or sheet p 0) f.1
    ∙ ap (take (length name)) (drop-drop (length (1 ∷ field)) (p + 1) sheet ∙ ap (λ k. drop k sheet) place)

pub name_in : (w p : ℕ) (sheet : List ℕ) (e : Told) → next_of w p (drop p sheet) ≡ Ok (Some (entry_told e)) → EntryPlaced e (p + 2 + w) → NameIn sheet e
name_in w p sheet (Stage s) e k = name_part w p sheet s.field.now s.name.bytes.now e ∙ ap (λ x. take (length s.name.bytes.now) (drop x sheet)) (sym k)
name_in w p sheet (Link u v) e k = tt
name_in w p sheet (Live s) e k = tt
