-- The records of a sheet: what they say, and their bytes.
use Rattle.std.specs.Prelude.{◌≡◌, ℕ, ◌+◌, ◌≤◌, Bool, true, false, ◌&&◌, ◌||◌, List, [], ◌∷◌, ◌++◌, length, ◌==◌, nat_le}

-- What a record says: a stage with its price field and its name, a link from one stage to another, or a live mark.
pub data Entry : Type 0 where
  stage : List ℕ → List ℕ → Entry
  link : ℕ → ℕ → Entry
  live : ℕ → Entry

-- A record's tag byte and body.
abbrev pub body : Entry → List ℕ
body (stage field name) = 1 ∷ (field ++ name)
body (link u v) = 2 ∷ (u ∷ (v ∷ []))
body (live s) = 3 ∷ (s ∷ [])

-- A record: a length byte that counts what follows it, then the tag byte and the body.
abbrev pub record_bytes : Entry → List ℕ
record_bytes e = length (body e) ∷ body e

-- The bytes of records, one after another.
abbrev pub all_bytes : List Entry → List ℕ
all_bytes [] = []
all_bytes (e ∷ es) = record_bytes e ++ all_bytes es

-- Each byte of a name is hexadecimal 21 to 7E.
abbrev pub printable : List ℕ → Bool
printable [] = true
printable (b ∷ bs) = nat_le 0x21 b && nat_le b 0x7E && printable bs

-- A record is as laid out: a stage has a price field of its kind's width, and a name of 1 to 32 printable bytes.
abbrev pub Formed : ℕ → Entry → Type 0
Formed width (stage field name) = (length field ≡ width) × (1 ≤ length name) × (length name ≤ 32) × (printable name ≡ true)
Formed width (link u v) = Unit {0}
Formed width (live s) = Unit {0}

-- Each record of a list is as laid out.
abbrev pub AllFormed : ℕ → List Entry → Type 0
AllFormed width [] = Unit {0}
AllFormed width (e ∷ es) = Formed width e × AllFormed width es

-- ---- what a list of records says

-- How many stages there are.
abbrev pub stages_in : List Entry → ℕ
stages_in [] = 0
stages_in (stage field name ∷ es) = 1 + stages_in es
stages_in (link u v ∷ es) = stages_in es
stages_in (live s ∷ es) = stages_in es

-- The price fields of the stages, in their order.
abbrev pub fields_in : List Entry → List (List ℕ)
fields_in [] = []
fields_in (stage field name ∷ es) = field ∷ fields_in es
fields_in (link u v ∷ es) = fields_in es
fields_in (live s ∷ es) = fields_in es

-- The names of the stages, in their order.
abbrev pub names_in : List Entry → List (List ℕ)
names_in [] = []
names_in (stage field name ∷ es) = name ∷ names_in es
names_in (link u v ∷ es) = names_in es
names_in (live s ∷ es) = names_in es

-- Whether there is a link from a to b.
abbrev pub links_in : List Entry → ℕ → ℕ → Bool
links_in [] a b = false
links_in (stage field name ∷ es) a b = links_in es a b
links_in (link u v ∷ es) a b = a == u && b == v || links_in es a b
links_in (live s ∷ es) a b = links_in es a b

-- Whether stage a is marked live.
abbrev pub live_in : List Entry → ℕ → Bool
live_in [] a = false
live_in (stage field name ∷ es) a = live_in es a
live_in (link u v ∷ es) a = live_in es a
live_in (live s ∷ es) a = a == s || live_in es a
