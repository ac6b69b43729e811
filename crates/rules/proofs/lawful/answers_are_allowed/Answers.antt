use Rattle.rules.specs.Nets.{inside, net}
use Rattle.rules.proofs.lawful.answers_are_allowed.Goals as goal

pub returns : goal.returns
returns g c =
    let graph = c.args.graph.now in
    g.met.R.Rule.lawful c.args.rule.now (net graph) c.args.prices.now (inside graph)
