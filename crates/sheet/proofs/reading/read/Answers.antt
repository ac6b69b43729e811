use Rattle.std.proofs.Common.{◌≤◌, ◌++◌, map, length, drop, Err, sym, refl, ap, ◌∙◌, arith}
use Rattle.std.proofs.lemmas.Result.{err_from_is_err_and}
use Rattle.sheet.proofs.ReadPost.{crowded_post, done_post, made_was_err, made_was_ok, refused_post}
use Rattle.sheet.proofs.RecordSteps.{ok_not_err}
use Rattle.sheet.proofs.reading.read.Goals as goal

pub returns-in_err-made : goal.returns-in_err-made
returns-in_err-made g c =
    let F = g.P.FiledPrice.filing in
    let p = err_from_is_err_and c.from_residual.result c.from_residual.ensures.1 in
    refused_post F c.args.sheet.now _ _ c.args.prices.now _ c.from_residual.result p.0
    (made_was_err _ _ c.in_err-made.ensures ∙ ap Err (sym p.2)) p.1 refl refl

pub returns-then-prices-stage_count : goal.returns-then-prices-stage_count
returns-then-prices-stage_count g c =
    let F = g.P.FiledPrice.filing in
    let m = made_was_ok _ c.in_ok-made.made c.in_ok-made.ensures in
    let n = c.stage_count.ensures ∙ ap (λ x. x.n) m.2.graph in
    crowded_post F c.args.sheet.now _ _ c.args.prices.now _ _ m.0 m.1 (omega (arith, n, c.if-prices-stage_count.true)) (ap Err c.new.ensures) refl refl

pub returns-in_err-set_prices : goal.returns-in_err-set_prices
returns-in_err-set_prices g c =
    let m = made_was_ok _ c.in_ok-made.made c.in_ok-made.ensures in
    let n = c.stage_count.ensures ∙ ap (λ x. x.n) m.2.graph in
    let room : length m.0.fields ≤ length c.args.prices.now = omega (arith, n, m.2.each, c.if-prices-stage_count.false) in
    ok_not_err tt _ (sym (c.set_prices.ensures m.0 m.1 room).0 ∙ c.in_err-set_prices.was)

pub returns : goal.returns
returns g c =
    let F = g.P.FiledPrice.filing in
    let m = made_was_ok _ c.in_ok-made.made c.in_ok-made.ensures in
    let n = c.stage_count.ensures ∙ ap (λ x. x.n) m.2.graph in
    let room : length m.0.fields ≤ length c.args.prices.now = omega (arith, n, m.2.each, c.if-prices-stage_count.false) in
    done_post F c.args.sheet.now _ _ c.args.prices.now _ _ m.0 m.1 (omega (arith, n, c.if-prices-stage_count.false)) refl m.2.graph
    ((c.set_prices.ensures m.0 m.1 room).1 ∙ ap (λ k. map F.price_of m.0.fields ++ drop k c.args.prices.now) m.2.each)
