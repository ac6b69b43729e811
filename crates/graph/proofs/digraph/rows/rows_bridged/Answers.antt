use Rattle.std.proofs.Common.{ℕ, ◌≤◌, ◌&&◌, ◌||◌, ◌∙◌, inl, rules}
use Rattle.graph.specs.Marks.{linked}
use Rattle.graph.specs.StageSets.{stages, words}
use Rattle.graph.proofs.Rows.{made_rows, past_rows, rows_of_sets}
use Rattle.graph.proofs.digraph.rows.rows_bridged.Goals as goal

pub returns : goal.returns
returns c a b =
    let rows = words c.args.rows.now in
    let none = λ (a b : ℕ) (h : 64 ≤ a). past_rows rows (rows_of_sets c.args.rows.now c.told-rows) a b (inl h) in
    made_rows _ _ c.from_fn.result c.from_fn.ensures.items (λ u w. linked rows u w || linked rows u c.args.v && stages c.row-after.result w)
    (λ u y q k. (λ b. search rules, search rules)) (λ a b h. rw (none a b h, none a c.args.v h)) a b
    ∙ rw (c.row-after.ensures b)
