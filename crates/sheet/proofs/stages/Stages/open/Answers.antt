use Rattle.sheet.proofs.StageSteps.{few_ahead, stages_opened}
use Rattle.sheet.proofs.stages.Stages.open.Goals as goal

pub returns-clause-in_words : goal.returns-clause-in_words
returns-clause-in_words g c contents ok =
    let F = g.P.FiledPrice.filing in
    stages_opened F.code F.width c.args.sheet.now c.in_ok-reader.reader c.in_ok-reader.ensures contents ok

pub returns-clause-few : goal.returns-clause-few
returns-clause-few g c = few_ahead c.in_ok-reader.reader c.args.sheet.now c.in_ok-reader.ensures.1
