use Rattle.std.proofs.Common.{◌≡◌, ◌++◌, vec_items}
use Rattle.graph.specs.StageSets.{stages}
use Rattle.sheet.specs.Stages.{names_of, stages_left}
use Rattle.report.specs.Lines.{hold_lines}
use Rattle.report.proofs.names.push_holds.Given as goal

abbrev pub invariant-loop-s : goal.invariant-loop-s
invariant-loop-s g l =
    vec_items l.text ++ hold_lines (stages l.held) l.s-iterator.count (names_of (stages_left l.s-iterator.iter))
    ≡ vec_items l.initial.text ++ hold_lines (stages l.held) 0 (names_of (stages_left l.initial.s-iterator.iter))
