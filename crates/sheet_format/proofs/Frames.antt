-- A sheet's frame: it is accepted exactly if it is laid out, and refused for its first fault.
use Rattle.std.proofs.Common.{◌≡◌, ℕ, ◌+◌, ◌*◌, ◌≤◌, Bool, true, false, ◌&&◌, eqb, leb, ◌≢◌, List, [], ◌∷◌, length, get_or, drop, Ok, Err, Result, refl, ap, ◌∙◌, inl, inr, ⊎_elim, arith}
use Rattle.std.proofs.lemmas.Bool.{and_cases, and_from, and_left, and_parts, and_right, both_ways, cases_Bool, eq-eqb, eqb-false, eqb-true, le-leb, leb-false, leb-true, lt-leb, ne_eqb}
use Rattle.graph.specs.declared.fault.Cause.TheVariants.{Version, Size, Kind}
use Rattle.graph.specs.declared.fault.Fault.{Fault}
use Rattle.graph.specs.declared.fault.Layer.TheVariants.{Frame}
use Rattle.sheet_format.specs.Layout.{Framed}
use Rattle.sheet_format.specs.Faulty.{BadSize, BadVersion, Refused, at, bad_kind, bad_size, bad_version}
use Rattle.sheet_format.specs.Reading.{check, frame_of, is_sized, is_version, then}

-- ---- the tests
version_passes : (bytes : List ℕ) → (BadVersion bytes → ⊥) → is_version bytes ≡ true
version_passes [] fine = absurd (fine (inl refl))
version_passes (b ∷ bs) fine =
    ⊎_elim (λ (e : eqb b 1 ≡ true). e) (λ (e : eqb b 1 ≡ false). absurd (fine (inr (b, bs, refl, eqb-false b 1 e)))) (cases_Bool (eqb b 1))

version_fails : (bytes : List ℕ) → BadVersion bytes → is_version bytes ≡ false
version_fails bytes (inl e) = ap is_version e
version_fails bytes (inr x) = ap is_version x.2 ∙ ne_eqb x.0 1 x.3

version_bad : (bytes : List ℕ) → is_version bytes ≡ false → BadVersion bytes
version_bad [] e = inl refl
version_bad (b ∷ bs) e = inr (b, bs, refl, eqb-false b 1 e)

size_fails : (bytes : List ℕ) → BadSize bytes → is_sized bytes ≡ false
size_fails bytes (inl h) = and_left _ _ (and_left _ _ (lt-leb 4 (length bytes) h))
size_fails bytes (inr (inl h)) = and_left _ _ (and_right (leb 4 (length bytes)) _ (lt-leb (length bytes) 20000 h))
size_fails bytes (inr (inr x)) =
    let full : List ℕ = x.0 ∷ (x.1 ∷ (x.2 ∷ x.3)) in
    ap is_sized x.4
    ∙ and_right (leb 4 (length full) && leb (length full) 20000) _ (ne_eqb (x.1 * 256 + x.2 + 3) (length full) (λ e. x.5 (omega arith)))

size_bad : (bytes : List ℕ) → is_sized bytes ≡ false → BadSize bytes
size_bad [] e = inl (omega arith)
size_bad (v ∷ []) e = inl (omega arith)
size_bad (v ∷ (high ∷ [])) e = inl (omega arith)
size_bad (v ∷ (high ∷ (low ∷ rest))) e =
    ⊎_elim
    (λ (f : (leb 4 (length (v ∷ (high ∷ (low ∷ rest)))) && leb (length (v ∷ (high ∷ (low ∷ rest)))) 20000) ≡ false).
    ⊎_elim (λ (h : leb 4 (length (v ∷ (high ∷ (low ∷ rest)))) ≡ false). inl (leb-false _ _ h))
    (λ (h : leb (length (v ∷ (high ∷ (low ∷ rest)))) 20000 ≡ false). inr (inl (leb-false _ _ h)))
    (and_cases _ _ f))
    (λ (f : eqb (high * 256 + low + 3) (length (v ∷ (high ∷ (low ∷ rest)))) ≡ false).
    inr (inr (v, high, low, rest, refl, λ q. eqb-false _ _ f (omega arith))))
    (and_cases _ _ e)

-- a frame that passes both tests
tested_frame : (bytes : List ℕ) → is_version bytes ≡ true → is_sized bytes ≡ true → Framed (get_or bytes 3 0) bytes (drop 4 bytes)
tested_frame [] v s = absurd (both_ways false refl v)
tested_frame (a ∷ []) v s = absurd (both_ways false refl s)
tested_frame (a ∷ (high ∷ [])) v s = absurd (both_ways false refl s)
tested_frame (a ∷ (high ∷ (low ∷ []))) v s = absurd (both_ways false refl s)
tested_frame (a ∷ (high ∷ (low ∷ (kind ∷ records)))) v s =
    let bytes : List ℕ = a ∷ (high ∷ (low ∷ (kind ∷ records))) in
    let p = and_parts (leb 4 (length bytes) && leb (length bytes) 20000) (eqb (high * 256 + low + 3) (length bytes)) s in
    let q = and_parts (leb 4 (length bytes)) (leb (length bytes) 20000) p.0 in
    let sum : high * 256 + low + 3 ≡ length bytes = eqb-true _ _ p.1 in
    record {
      high = high;
      low = low;
      laid = ap (λ x. x ∷ (high ∷ (low ∷ (kind ∷ records)))) (eqb-true a 1 v);
      count = omega arith;
      most = leb-true _ _ q.1;
    }

-- ---- what the frame's check answers
abbrev tests : Bool → Bool → Bool → Result (Unit {0}) Fault
tests v s k = then (check v (at Version Frame 0)) (λ _. then (check s (at Size Frame 1)) (λ _. check k (at Kind Frame 3)))

module _ (code : ℕ) (bytes : List ℕ) where
  pub version_refused : BadVersion bytes → frame_of code bytes ≡ Err (at Version Frame 0)
  version_refused h = ap (λ v. tests v (is_sized bytes) (eqb (get_or bytes 3 0) code)) (version_fails bytes h)

  pub size_refused : (BadVersion bytes → ⊥) → BadSize bytes → frame_of code bytes ≡ Err (at Size Frame 1)
  size_refused fine h =
      ap (λ v. tests v (is_sized bytes) (eqb (get_or bytes 3 0) code)) (version_passes bytes fine)
      ∙ ap (λ s. tests true s (eqb (get_or bytes 3 0) code)) (size_fails bytes h)

  framed_tests : (kind : ℕ) (records : List ℕ) → Framed kind bytes records → frame_of code bytes ≡ check (eqb kind code) (at Kind Frame 3)
  framed_tests kind records f =
      ap (frame_of code) f.laid
      ∙ ap (λ s. tests true s (eqb kind code)) sized
    where
      full : List ℕ
      full = 1 ∷ (f.high ∷ (f.low ∷ (kind ∷ records)))

      most : length full ≤ 20000
      most = rw f.laid at f.most

      sized : is_sized full ≡ true
      sized =
          let count = f.count in
          and_from (leb 4 (length full) && leb (length full) 20000) (eqb (f.high * 256 + f.low + 3) (length full))
          (and_from (leb 4 (length full)) (leb (length full) 20000) (le-leb 4 (length full) (omega arith)) (le-leb (length full) 20000 most))
          (eq-eqb (f.high * 256 + f.low + 3) (length full) (omega arith))

  pub kind_refused : (other : ℕ) → other ≢ code → (rest : List ℕ) → Framed other bytes rest → frame_of code bytes ≡ Err (at Kind Frame 3)
  kind_refused other n rest f = framed_tests other rest f ∙ ap (λ k. check k (at Kind Frame 3)) (ne_eqb other code n)

  pub frame_accepted : (records : List ℕ) → Framed code bytes records → frame_of code bytes ≡ Ok tt
  frame_accepted records f = framed_tests code records f ∙ ap (λ k. check k (at Kind Frame 3)) (eq-eqb code code refl)

  pub framing : (width : ℕ) (P : Result (Unit {0}) Fault → Type 0) → (Framed code bytes (drop 4 bytes) → P (Ok tt))
      → ((f : Fault) → Refused code width bytes f → P (Err f)) → P (frame_of code bytes)
  framing width P done stop = go (is_version bytes) refl (is_sized bytes) refl (eqb (get_or bytes 3 0) code) refl
    where
      go : (v : Bool) → is_version bytes ≡ v → (s : Bool) → is_sized bytes ≡ s → (k : Bool) → eqb (get_or bytes 3 0) code ≡ k → P (tests v s k)
      go false e s f k g = stop _ (bad_version (version_bad bytes e))
      go true e false f k g = stop _ (bad_size (λ h. both_ways _ (version_fails bytes h) e) (size_bad bytes f))
      go true e true f false g = stop _ (bad_kind (get_or bytes 3 0) (eqb-false _ _ g) (drop 4 bytes) (tested_frame bytes e f))
      go true e true f true g = done (rw (← eqb-true _ _ g) (tested_frame bytes e f))
