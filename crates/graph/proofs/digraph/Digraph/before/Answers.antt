use Rattle.std.proofs.Common.{sym, ap, ◌∙◌, inl, arith}
use Rattle.graph.specs.Digraphs.{links}
use Rattle.graph.specs.StageSets.{stages, words}
use Rattle.graph.proofs.Columns.{left_out, taken_all, taken_more}
use Rattle.graph.proofs.Rows.{past_rows, rows_of}
use Rattle.graph.proofs.digraph.Digraph.before.Goals as goal
use Rattle.graph.proofs.digraph.Digraph.before.Goals.{then-is_linked, else-is_linked}

pub loop-u-preserved : goal.loop-u-preserved
loop-u-preserved c s = elim c.if-is_linked.branch [
  | then-is_linked w ↦
      ap (λ x. stages x s) w.set-is
      ∙ taken_more (λ t. links c.args.self.now t c.args.v) (stages c.loop-u.set) c.loop-u.u c.loop-u.invariant (stages w.with-set.result) c.loop-u-test.true
      (sym c.is_linked.ensures ∙ w.if-is_linked.true) w.with-set.ensures s
  | else-is_linked w ↦
      ap (λ x. stages x s) w.set-is
      ∙ left_out (λ t. links c.args.self.now t c.args.v) (stages c.loop-u.set) c.loop-u.u c.loop-u.invariant
      (sym c.is_linked.ensures ∙ w.if-is_linked.false) s
]

pub returns : goal.returns
returns c =
    let g = c.args.self.now in
    taken_all (λ t. links g t c.args.v) (stages c.loop-u.set) c.loop-u.u c.loop-u.invariant (omega arith)
    (λ s h. past_rows (words g.rows) (rows_of g) s c.args.v (inl h))
