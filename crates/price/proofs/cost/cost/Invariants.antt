use Rattle.std.proofs.Common.{◌≡◌}
use Rattle.theory.specs.Prices.{cost}
use Rattle.graph.specs.StageSets.{stages}
use Rattle.price.specs.Costs.{price_at}
use Rattle.price.proofs.cost.cost.Given as goal

-- The sum is the cost of the stages before s.
abbrev pub invariant-loop-s : goal.invariant-loop-s
invariant-loop-s g l =
    let k = g.P.Price.kind in
    l.sum ≡ cost k (price_at l.prices k.nothing) l.s (stages l.set)
