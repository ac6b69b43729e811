use Rattle.std.proofs.Common.{◌≡◌, ap, ◌∙◌, rules}
use mathlib.Core.Path.{fun_ext}
use Rattle.std.proofs.lemmas.Bool.Decides.{Decides-at}
use Rattle.rules.specs.NeighbourLaws.{fed_by_one_decides}
use Rattle.rules.specs.NeighbourTests.{fed_by_one, only}
use Rattle.rules.specs.Nets.{inside, links_in, net}
use Rattle.rules.proofs.in1.has_only_link_in.Goals as goal

pub returns-then-has-clause-in_words : goal.returns-then-has-clause-in_words
returns-then-has-clause-in_words g c =
    let graph = c.args.graph.now in
    let K = g.P.Price.kind in
    let one : c.only_stage.result ≡ only (λ u. links_in (net graph) u c.args.v) = c.only_stage.ensures ∙ ap only (fun_ext c.before-then-has.ensures) in
    let test : c.is_some_and.result ≡ fed_by_one K c.args.prices.now (net graph) c.args.v = search rules in
    Decides-at _ _ test (fed_by_one_decides K c.args.prices.now (net graph) (inside graph) c.args.v)
