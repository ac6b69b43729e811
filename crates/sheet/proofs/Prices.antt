-- Prices written over the first of a table, one after another.
use Rattle.std.proofs.Common.{◌≡◌, ℕ, ◌≤◌, List, [], ◌∷◌, ◌++◌, map, length, take, drop, sym, ◌∙◌, ap, arith}
use Rattle.std.proofs.lemmas.List.{length-append, length-drop, length-map, length-take, take-append-drop}
use Rattle.sheet.specs.Filings.{Filing}

module _ {P : Type 0} (F : Filing P) where
  -- the prices of these fields in the first places of a table
  abbrev pub written : List (List ℕ) → List P → List P
  written fields prices = map F.price_of fields ++ drop (length fields) prices

  module _ (prices old : List P) (all : List (List ℕ)) (i : ℕ) where
    -- the prices in the first i places are there, and those of these fields are to follow
    pub none_to_write : take i prices ++ written [] (drop i prices) ≡ written all old → prices ≡ written all old
    none_to_write e = sym (take-append-drop i prices) ∙ e

    -- where there is room for all, no field is to follow past the end of the table
    pub no_room_left : (f : List ℕ) (fields : List (List ℕ)) → take i prices ++ written (f ∷ fields) (drop i prices) ≡ written all old → length all ≤ length old
        → length prices ≡ length old → length prices ≤ i → ⊥
    no_room_left f fields e room same done =
        omega (
          arith,
          ap length e,
          length-append (take i prices) (written (f ∷ fields) (drop i prices)),
          length-take i prices,
          length-append (map F.price_of (f ∷ fields)) (drop (length (f ∷ fields)) (drop i prices)),
          length-map (f ∷ fields) F.price_of,
          length-append (map F.price_of all) (drop (length all) old),
          length-map all F.price_of,
          length-drop (length all) old,
        )
