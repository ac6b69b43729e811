-- How a sheet is laid out.
use Rattle.std.specs.Prelude.{◌≡◌, ℕ, ◌+◌, ◌*◌, ◌<◌, ◌≤◌, false, List, [], ◌∷◌, length}
use Rattle.theory.specs.Loops.{Loop, between}
use Rattle.graph.specs.Graphs.{PlainGraph, Sound, links_of, live_of}
use Rattle.sheet_format.specs.Entries.{Entry, stage, link, live, all_bytes, AllFormed, stages_in, fields_in, names_in, links_in, live_in}

-- What a sheet says: a graph, and the price field and the name of each of its stages.
pub record Contents : Type 0 where
  pub graph : PlainGraph
  pub fields : List (List ℕ)
  pub names : List (List ℕ)

-- The frame: byte 0 is the version, 1; bytes 1 and 2, big-endian, count the bytes after byte 2; byte 3 is the
-- price kind's code; the records follow. A sheet has at most 20,000 bytes.
pub record Framed (code : ℕ) (bytes records : List ℕ) : Type 0 where
  pub high : ℕ
  pub low : ℕ
  pub laid : bytes ≡ 1 ∷ (high ∷ (low ∷ (code ∷ records)))
  pub count : high * 256 + low ≡ 1 + length records
  pub most : length bytes ≤ 20000

-- Links and marks name earlier stages only, where n stages came before.
abbrev pub Earlier : ℕ → List Entry → Type 0
Earlier n [] = Unit {0}
Earlier n (stage field name ∷ es) = Earlier (n + 1) es
Earlier n (link u v ∷ es) = ((u < n) × (v < n)) × Earlier n es
Earlier n (live s ∷ es) = (s < n) × Earlier n es

-- No link and no mark is there twice.
abbrev pub Once : List Entry → Type 0
Once [] = Unit {0}
Once (stage field name ∷ es) = Once es
Once (link u v ∷ es) = (links_in es u v ≡ false) × Once es
Once (live s ∷ es) = (live_in es s ≡ false) × Once es

-- Records that make a graph: each as laid out, at most 64 stages, numbers name earlier stages only, nothing is
-- there twice, and live stages alone contain no loop.
pub record Fit (width : ℕ) (es : List Entry) : Type 0 where
  pub formed : AllFormed width es
  pub few : stages_in es ≤ 64
  pub earlier : Earlier 0 es
  pub once : Once es
  pub no_live_loop : Loop (between (links_in es) (live_in es)) → ⊥

-- Contents that are what the records say.
pub record Says (es : List Entry) (c : Contents) : Type 0 where
  pub sound : Sound c.graph
  pub stages : c.graph.n ≡ stages_in es
  pub links : (a b : ℕ) → links_of c.graph a b ≡ links_in es a b
  pub live_marks : (a : ℕ) → live_of c.graph a ≡ live_in es a
  pub fields : c.fields ≡ fields_in es
  pub names : c.names ≡ names_in es

-- The bytes are laid out as these contents, for a price kind with this code and field width.
pub record LaidOut (code width : ℕ) (bytes : List ℕ) (c : Contents) : Type 0 where
  pub entries : List Entry
  pub framed : Framed code bytes (all_bytes entries)
  pub fit : Fit width entries
  pub says : Says entries c
