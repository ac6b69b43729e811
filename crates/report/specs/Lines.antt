-- The lines that are printed.
use Rattle.std.specs.Prelude.{ℕ, ◌+◌, cond, List, [], ◌∷◌, ◌++◌, codes, decimal}
use Rattle.theory.specs.Loops.{Stages}
use Rattle.graph.specs.declared.fault.Fault.{Fault}
use Rattle.graph.specs.FaultTexts.{fault_text}
use Rattle.sheet.specs.declared.figures.Figures.{Figures}
use Rattle.sheet.specs.FigureTexts.{figures_text}

-- A refusal, as a line.
abbrev pub refusal_line : Fault → List ℕ
refusal_line f = fault_text f ++ codes "\n"

-- The lines of a floor, a ceiling, and no case taken.
abbrev pub head_lines : Figures → Figures → List ℕ
head_lines low high = codes "low " ++ (figures_text low ++ (codes "\nhigh " ++ (figures_text high ++ codes "\ncases 0\n")))

-- A held stage, by its number and name.
abbrev pub hold_line : ℕ → List ℕ → List ℕ
hold_line s name = codes "hold " ++ (decimal s ++ (codes " " ++ (name ++ codes "\n")))

-- The held stages, rising, from stage s on.
abbrev pub hold_lines : Stages → ℕ → List (List ℕ) → List ℕ
hold_lines held s [] = []
hold_lines held s (name ∷ names) = cond (held s) (hold_line s name) [] ++ hold_lines held (s + 1) names
