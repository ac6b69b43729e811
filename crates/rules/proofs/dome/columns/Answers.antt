use Rattle.std.proofs.Common.{inr, rules}
use Rattle.graph.specs.StageSets.{words}
use Rattle.graph.proofs.Rows.{made_rows, past_rows, rows_of}
use Rattle.rules.proofs.dome.columns.Goals as goal

pub returns : goal.returns
returns c =
    let g = c.args.graph.now in
    made_rows _ _ c.from_fn.result c.from_fn.ensures.items _ (λ v y q k. (k.met.1, search rules)) (λ v s h. past_rows (words g.rows) (rows_of g) s v (inr h))
