use Rattle.std.proofs.Common.{◌<◌, ◌≤◌, inl, inr, ⊎_elim, arith}
use Rattle.std.proofs.lemmas.Bool.{cases_lt}
use Rattle.std.proofs.lemmas.Bool.Decides.{nat_tests}
use Rattle.graph.specs.StageSets.{words}
use Rattle.graph.proofs.Rows.{past_rows, rows_of_sets}
use Rattle.graph.proofs.digraph.rows.rows_past.Goals as goal

pub returns : goal.returns
returns c a b =
    let rows = rows_of_sets c.args.rows.now c.told-rows in
    let e = c.rows_among.ensures a b in
    let f = c.rows_bridged.ensures a b in
    let x = c.without.ensures a in
    let y = c.without.ensures b in
    let l = c.below.ensures a in
    let m = c.below.ensures b in
    ⊎_elim
    (λ (ha : a < 64). ⊎_elim
    (λ (hb : b < 64). grind (arith, nat_tests))
    (λ (hb : 64 ≤ b).
    let p = past_rows (words c.args.rows.now) rows a b (inr hb) in
    let q = past_rows (words c.args.rows.now) rows c.args.v b (inr hb) in
    grind (arith, nat_tests))
    (cases_lt b 64))
    (λ (ha : 64 ≤ a).
    let p = past_rows (words c.args.rows.now) rows a b (inl ha) in
    let q = past_rows (words c.args.rows.now) rows a c.args.v (inl ha) in
    grind (arith, nat_tests))
    (cases_lt a 64)
