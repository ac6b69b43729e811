use Rattle.std.proofs.Common.{◌≡◌, ◌∷◌, ◌++◌, take, drop, sym, ap, ◌∙◌, rules}
use Rattle.sheet.specs.Stages.{fields_of, plain_stage, stages_left}
use Rattle.sheet.proofs.Prices.{no_room_left, written}
use Rattle.sheet.proofs.reading.set_prices.Goals as goal

-- a stage past the end of the table does not come, where there is room for all
pub loop-n-preserved : goal.loop-n-preserved
loop-n-preserved g c room =
    let F = g.P.FiledPrice.filing in
    let prices = c.loop-n.prices in
    let i = c.loop-n.n-iterator.count in
    let more : stages_left c.loop-n.n-iterator.iter ≡ plain_stage c.in-Some.stage ∷ stages_left c.next.new.self.iter = search rules in
    let past : c.in-Some.n ≡ i = search rules in
    absurd
    (no_room_left F prices c.args.prices.now _ i _ _
    (sym (ap (λ ss. take i prices ++ written F (fields_of ss) (drop i prices)) more) ∙ c.loop-n.invariant room) room c.loop-n.auto.prices (rw (sym past) c.if-n-prices.false))
