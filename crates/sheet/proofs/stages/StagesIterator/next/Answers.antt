use Rattle.std.proofs.Common.{length, sym, ap, ◌∙◌, arith}
use Rattle.std.specs.Option.{option_flatten}
use Rattle.sheet.proofs.StageSteps.{none_left, no_stage_passed, stage_first}
use Rattle.sheet.proofs.stages.StagesIterator.next.Goals as goal

pub returns-in-Stage-clause-steps : goal.returns-in-Stage-clause-steps
returns-in-Stage-clause-steps c =
    sym c.loop-record.invariant
    ∙ stage_first c.loop-record.self.reader c.next.new.self c.next.result c.next.ensures c.in-Some.record
    (sym (c.flatten.ensures ∙ ap option_flatten c.ok.ensures.value) ∙ c.in-Some.is) c.in-Stage.stage c.in-Stage.is

pub returns-in-Stage-clause-goes : goal.returns-in-Stage-clause-goes
returns-in-Stage-clause-goes c =
    let e = ap length (returns-in-Stage-clause-steps c) in
    record { on = λ _. (tt, tt, omega (arith, e)); keeps = tt; rests = λ _. tt }

pub loop-record-preserved : goal.loop-record-preserved
loop-record-preserved c =
    no_stage_passed c.loop-record.self.reader c.next.new.self c.next.result c.next.ensures c.in-Some.record
    (sym (c.flatten.ensures ∙ ap option_flatten c.ok.ensures.value) ∙ c.in-Some.is) c.in_default-entry.not-Stage
    ∙ c.loop-record.invariant

pub returns-clause-steps : goal.returns-clause-steps
returns-clause-steps c =
    let left =
    none_left c.loop-record.self.reader c.next.new.self c.next.result c.next.ensures
    (sym (c.flatten.ensures ∙ ap option_flatten c.ok.ensures.value) ∙ c.in_default.is) in
    (sym c.loop-record.invariant ∙ left.0, left.1)
