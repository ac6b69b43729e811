use Rattle.std.proofs.Common.{ap, ◌∙◌}
use mathlib.Core.Path.{fun_ext}
use Rattle.rules.specs.Searches.{none_passes}
use Rattle.rules.proofs.dome.is_within.Goals as goal

pub returns : goal.returns
returns c = c.is_empty.ensures ∙ ap none_passes (fun_ext c.difference.ensures)
