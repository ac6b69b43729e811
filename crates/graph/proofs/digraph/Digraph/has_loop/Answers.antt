use Rattle.std.proofs.Common.{◌-◌, sym, ◌∙◌, arith}
use Rattle.graph.specs.Marks.{linked}
use Rattle.graph.specs.StageSets.{words}
use Rattle.graph.proofs.Loops.{looped_less, looped_here, looped_none, rows_decide}
use Rattle.graph.proofs.Rows.{rows_of}
use Rattle.graph.proofs.digraph.Digraph.has_loop.Goals as goal

pub loop-v-preserved : goal.loop-v-preserved
loop-v-preserved c =
    looped_less (linked (words c.loop-v.rows)) (linked (words c.rows_past-rows.result)) c.loop-v.v (omega arith)
    (sym (c.row.ensures (c.loop-v.v - 1)) ∙ sym c.has.ensures ∙ c.if-has.false)
    c.rows_past-rows.ensures
    ∙ c.loop-v.invariant

pub returns-then-has : goal.returns-then-has
returns-then-has c =
    let g = c.args.self.now in
    rows_decide (words g.rows) (rows_of g) _
    (sym c.loop-v.invariant ∙ looped_here (linked (words c.loop-v.rows)) c.loop-v.v (omega arith)
    (sym (c.row.ensures (c.loop-v.v - 1)) ∙ sym c.has.ensures ∙ c.if-has.true))

pub returns : goal.returns
returns c =
    let g = c.args.self.now in
    rows_decide (words g.rows) (rows_of g) _
    (sym c.loop-v.invariant ∙ looped_none (linked (words c.loop-v.rows)) c.loop-v.v (omega arith))
