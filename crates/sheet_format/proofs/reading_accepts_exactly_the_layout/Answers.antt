use Rattle.sheet_format.proofs.Reading.{reading_accepts_exactly_the_layout_lem}
use Rattle.sheet_format.proofs.reading_accepts_exactly_the_layout.Goals as goal

pub returns : goal.returns
returns c = reading_accepts_exactly_the_layout_lem
