use Rattle.std.proofs.lemmas.Bool.Decides.{Decides-at, same_from_decides}
use Rattle.graph.proofs.Marks.{mark_below}
use Rattle.graph.specs.StageSets.{stages}
use Rattle.rules.proofs.StageWords.{no_stage_decides}
use Rattle.rules.specs.Searches.{none_passes_decides}
use Rattle.rules.proofs.sets.is_empty.Goals as goal

pub returns : goal.returns
returns c =
    let set = c.args.set in
    same_from_decides _ _
    (Decides-at _ _ c.eq.ensures (no_stage_decides set c.empty.result c.empty.ensures))
    (none_passes_decides (stages set) (λ t. mark_below set.word t set.fits))
