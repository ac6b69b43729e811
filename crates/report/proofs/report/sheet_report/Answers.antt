use Rattle.std.proofs.Common.{◌∙◌}
use Rattle.std.proofs.lemmas.Result.{IfOk-weaker}
use Rattle.graph.specs.Graphs.{plain}
use Rattle.report.proofs.Reports.{read_out}
use Rattle.report.proofs.report.sheet_report.Goals as goal

pub returns-in-Ok : goal.returns-in-Ok
returns-in-Ok g c =
    let K = g.P.Price.kind in
    let F = g.P.FiledPrice.filing in
    let e = c.in-Ok.ensures in
    let o = read_out K F c.args.sheet.now c.args.prices.now e.answer e.in_words.one_of_the_two (plain c.read.new.graph) (plain c.empty-graph.result) c.read.new.prices e.graph e.prices in
    IfOk-weaker c.plan.result _ _ (λ t f. f o.0 o.1 o.2 o.3 ∙ o.4) c.plan.ensures
