use Rattle.std.proofs.Common.{◌≡◌, ◌-◌, length}
use Rattle.sheet.specs.Stages.{stages_left}
use Rattle.sheet.proofs.stages.StagesIterator.next.Given as goal

abbrev pub invariant-loop-record : goal.invariant-loop-record
invariant-loop-record l = stages_left l.self ≡ stages_left l.initial.self

abbrev pub decreases-loop-record : goal.decreases-loop-record
decreases-loop-record l = length l.self.reader.sheet.now - l.self.reader.at
