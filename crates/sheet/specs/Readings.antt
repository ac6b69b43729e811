-- What reading a sheet into a graph and a table of prices answers and leaves.
use Rattle.std.specs.Prelude.{◌≡◌, ℕ, ◌<◌, ◌≤◌, cond, List, ◌++◌, map, length, drop, Ok, Err, Result, nat_le}
use Rattle.graph.specs.declared.fault.Cause.TheVariants.{TablesTooSmall}
use Rattle.graph.specs.declared.fault.Fault.{Fault}
use Rattle.graph.specs.declared.fault.Layer.TheVariants.{Call}
use Rattle.graph.specs.declared.graph.Graph.{Graph}
use Rattle.graph.specs.Graphs.{PlainGraph, plain}
use Rattle.sheet_format.specs.Faulty.{Refused, at}
use Rattle.sheet_format.specs.Layout.{Contents, LaidOut}
use Rattle.sheet_format.specs.Promise.{ReadsTheLayout}
use Rattle.sheet_format.specs.Reading.{check, read_of, then}
use Rattle.sheet.specs.Filings.{Filing}

-- A sheet reads as these contents.
abbrev pub Reads : {P : Type 0} → Filing P → List ℕ → Contents → Type 0
Reads F bytes c = read_of F.code F.width bytes ≡ Ok c

-- A table has room for the price of each stage.
abbrev pub room_for : ℕ → ℕ → Result (Unit {0}) Fault
room_for n room = check (nat_le n room) (at TablesTooSmall Call 0)

-- What reading a sheet answers, into a table with room for so many prices: the sheet's own fault, then too few prices.
abbrev pub read_answer : {P : Type 0} → Filing P → List ℕ → ℕ → Result (Unit {0}) Fault
read_answer F bytes room = then (read_of F.code F.width bytes) (λ c. room_for c.graph.n room)

-- What is left where reading gave this: something made of the contents if they were read and there is room, and
-- else what was there.
abbrev pub left_after : {S : Type 0} → Result Contents Fault → ℕ → (Contents → S) → S → S
left_after (Ok c) room made old = cond (nat_le c.graph.n room) (made c) old
left_after (Err f) room made old = old

-- The graph after reading.
abbrev pub graph_after : {P : Type 0} → Filing P → List ℕ → ℕ → PlainGraph → PlainGraph
graph_after F bytes room old = left_after (read_of F.code F.width bytes) room (λ c. c.graph) old

-- The first n prices are those that the fields stand for, and the others stay.
abbrev pub prices_after : {P : Type 0} → Filing P → List ℕ → List P → List P
prices_after F bytes old =
    left_after (read_of F.code F.width bytes) (length old) (λ c. map F.price_of c.fields ++ drop c.graph.n old) old

-- Reading in the format's words, where r is the answer, the graph went from g to h and the prices from ps to qs. A
-- sheet that is laid out is read, if there is room for its prices, and else refused with 11; a faulty one is
-- refused with its first fault; every sheet is one of the two, and a refusal leaves graph and prices as they were.
pub record ReadsInWords {P : Type 0} (F : Filing P) (bytes : List ℕ) (r : Result (Unit {0}) Fault) (g h : PlainGraph) (ps qs : List P) : Type 0 where
  pub laid_out_is_read : (c : Contents) → LaidOut F.code F.width bytes c → c.graph.n ≤ length ps
      → (r ≡ Ok tt) × (h ≡ c.graph) × (qs ≡ map F.price_of c.fields ++ drop c.graph.n ps)
  pub too_few_prices : (c : Contents) → LaidOut F.code F.width bytes c → length ps < c.graph.n
      → (r ≡ Err (at TablesTooSmall Call 0)) × (h ≡ g) × (qs ≡ ps)
  pub faulty_is_refused : (f : Fault) → Refused F.code F.width bytes f → (r ≡ Err f) × (h ≡ g) × (qs ≡ ps)
  pub one_of_the_two : ReadsTheLayout F.code F.width bytes

-- ---- the graph of a sheet, while its records are taken in

-- The graph is that of the contents, which have a price field for each of its stages.
pub record Pictures (g : Graph) (c : Contents) : Type 0 where
  pub graph : plain g ≡ c.graph
  pub each : length c.fields ≡ c.graph.n

-- A record was taken into the graph, or refused.
abbrev pub Took : Result Contents Fault → Result (Unit {0}) Fault → Graph → Type 0
Took (Ok c) r g = (r ≡ Ok tt) × Pictures g c
Took (Err f) r g = r ≡ Err f

-- The graph of the contents was made, or their fault was returned.
abbrev pub Made : Result Contents Fault → Result Graph Fault → Type 0
Made (Ok c) (Ok g) = Pictures g c
Made (Ok c) (Err f) = ⊥
Made (Err f) (Ok g) = ⊥
Made (Err f) (Err h) = h ≡ f
