-- What is printed of a price's figures.
use Rattle.std.specs.Prelude.{ℕ, List, ◌++◌, codes, decimal}
use Rattle.sheet.specs.declared.figures.Figures.{Figures}
use Rattle.sheet.specs.declared.figures.Figures.TheVariants.{One, Two}

-- A price's figures in decimal; two are parted by a space.
abbrev pub figures_text : Figures → List ℕ
figures_text (One a) = decimal a
figures_text (Two a b) = decimal a ++ (codes " " ++ decimal b)
