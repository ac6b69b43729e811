use Rattle.std.proofs.Common.{ap, ◌∙◌}
use mathlib.Core.Path.{fun_ext}
use Rattle.rules.specs.Searches.{lowest}
use Rattle.rules.proofs.core_rule.lowest_mate.Goals as goal

pub returns : goal.returns
returns c = c.lowest_of.ensures ∙ ap lowest (fun_ext c.mates.ensures)
