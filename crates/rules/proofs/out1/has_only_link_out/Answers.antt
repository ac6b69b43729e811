use Rattle.std.proofs.Common.{◌≡◌, ap, ◌∙◌, rules}
use mathlib.Core.Path.{fun_ext}
use Rattle.std.proofs.lemmas.Bool.Decides.{Decides-at}
use Rattle.rules.specs.NeighbourLaws.{read_by_one_decides}
use Rattle.rules.specs.NeighbourTests.{read_by_one, only}
use Rattle.rules.specs.Nets.{inside, links_in, net}
use Rattle.rules.proofs.out1.has_only_link_out.Goals as goal

pub returns-then-has-clause-in_words : goal.returns-then-has-clause-in_words
returns-then-has-clause-in_words g c =
    let graph = c.args.graph.now in
    let K = g.P.Price.kind in
    let one : c.only_stage.result ≡ only (links_in (net graph) c.args.v) = c.only_stage.ensures ∙ ap only (fun_ext c.after.ensures) in
    let test : c.is_some_and.result ≡ read_by_one K c.args.prices.now (net graph) c.args.v = search rules in
    Decides-at _ _ test (read_by_one_decides K c.args.prices.now (net graph) (inside graph) c.args.v)
