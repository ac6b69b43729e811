use Rattle.std.proofs.Common.{◌≡◌, ◌≤◌, ◌++◌, length, take, drop}
use Rattle.sheet.specs.Stages.{fields_of, stages_left}
use Rattle.sheet.proofs.Prices.{written}
use Rattle.sheet.proofs.reading.set_prices.Given as goal

-- the prices of the stages that came are there, and those of the stages that are left are to follow, where there is room for all
abbrev pub invariant-loop-n : goal.invariant-loop-n
invariant-loop-n g l =
    let F = g.P.FiledPrice.filing in
    let all = fields_of (stages_left l.initial.n-iterator.iter) in
    length all ≤ length l.initial.prices
    → take l.n-iterator.count l.prices ++ written F (fields_of (stages_left l.n-iterator.iter)) (drop l.n-iterator.count l.prices) ≡ written F all l.initial.prices
