use Rattle.std.proofs.Common.{inl, rules}
use Rattle.graph.specs.StageSets.{words}
use Rattle.graph.proofs.Rows.{made_rows, past_rows, rows_of_sets}
use Rattle.graph.proofs.digraph.rows.rows_among.Goals as goal

pub returns : goal.returns
returns c = made_rows _ _ c.from_fn.result c.from_fn.ensures.items _ (λ u y q k. (λ b. search rules, search rules))
    (λ a b h. rw (past_rows (words c.args.rows.now) (rows_of_sets c.args.rows.now c.told-rows) a b (inl h)))
