use Rattle.std.proofs.Common.{◌++◌, ap, ◌∙◌}
use Rattle.graph.specs.Graphs.{plain}
use Rattle.graph.specs.StageSets.{stages}
use Rattle.report.specs.Lines.{hold_lines}
use Rattle.report.proofs.Reports.{plan_joined, same_held, same_high}
use Rattle.report.proofs.report.plan.Goals as goal

pub returns : goal.returns
returns g c d ok same_graph same_prices =
    let K = g.P.Price.kind in
    let F = g.P.FiledPrice.filing in
    let set = stages c.not_live-held.result in
    let held = same_held (plain c.args.graph.now) d set same_graph c.not_live-held.ensures in
    let n = c.stage_count-n.ensures ∙ ap (λ x. x.n) same_graph in
    let low = c.figures-low.ensures ∙ ap F.figures_of c.nothing.ensures in
    let high = c.figures-high.ensures ∙ ap F.figures_of (c.cost.ensures ∙ same_high K F d c.args.prices.now set c.stage_count-n.result n same_prices held) in
    c.in_ok-push_holds.ensures d ok
    ∙ ap (λ x. x ++ hold_lines set 0 d.names) (ap (λ v. v.items) c.into_bytes-text.ensures.value ∙ c.in_ok-head.ensures)
    ∙ plan_joined K F d c.figures-low.result c.figures-high.result set low high held
