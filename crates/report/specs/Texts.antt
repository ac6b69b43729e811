-- The text of a sheet.
use Rattle.std.specs.Prelude.{ℕ, List, ◌++◌, map, length, Ok, Err, codes, Result}
use Rattle.theory.specs.Prices.{Kind, cost}
use Rattle.graph.specs.declared.fault.Fault.{Fault}
use Rattle.graph.specs.Plans.{not_live}
use Rattle.price.specs.Costs.{price_at}
use Rattle.price.specs.Counts.{counts}
use Rattle.price.specs.Memories.{memories}
use Rattle.sheet_format.specs.Layout.{Contents}
use Rattle.sheet_format.specs.Reading.{read_of, then}
use Rattle.sheet.specs.declared.kind.Kind.{Kind as SheetKind}
use Rattle.sheet.specs.declared.kind.Kind.TheVariants.{Count, Memory}
use Rattle.sheet.specs.FigureTexts.{figures_text}
use Rattle.sheet.specs.Filings.{Filing, count_filing, memory_filing}
use Rattle.sheet.specs.Kinds.{kind_of}
use Rattle.sheet.specs.Readings.{room_for}
use Rattle.report.specs.Lines.{hold_lines, refusal_line}

module _ {P : Type 0} (K : Kind P) (F : Filing P) where
  -- A price after a word, as a line.
  abbrev pub price_line : List ℕ → P → List ℕ
  price_line word p = word ++ (codes " " ++ (figures_text (F.figures_of p) ++ codes "\n"))

  -- The cost of holding every stage that is not live.
  abbrev pub all_held : Contents → P
  all_held c =
      cost K (price_at (map F.price_of c.fields) K.nothing) (length (map F.price_of c.fields)) (not_live c.graph)

  -- What is known of a sheet's graph before any case is taken: a floor of nothing, the ceiling of holding every
  -- stage that is not live, no case, and those holds with their names.
  abbrev pub plan_text : Contents → List ℕ
  plan_text c =
      price_line (codes "low") K.nothing
      ++ (price_line (codes "high") (all_held c) ++ (codes "cases 0\n" ++ hold_lines (not_live c.graph) 0 c.names))

  -- The text of a sheet that was read, or the line of its fault.
  abbrev pub outcome_text : Result Contents Fault → List ℕ
  outcome_text (Ok c) = plan_text c
  outcome_text (Err f) = refusal_line f

  -- The text of a sheet, read into a table with room for so many prices.
  abbrev pub sheet_text : List ℕ → ℕ → List ℕ
  sheet_text bytes room =
      outcome_text (then (read_of F.code F.width bytes) (λ c. then (room_for c.graph.n room) (λ _. Ok c)))

-- The text of a sheet that is read as this kind.
abbrev pub text_by : SheetKind → List ℕ → List ℕ
text_by Memory bytes = sheet_text memories memory_filing bytes 64
text_by Count bytes = sheet_text counts count_filing bytes 64

-- What `holds` prints: the sheet is read as Memory if byte 3 is 1, and else as Count.
abbrev pub holds_text : List ℕ → List ℕ
holds_text bytes = text_by (kind_of bytes) bytes
