use Rattle.std.proofs.Common.{◌≡◌, true, ap, ◌∙◌, rules}
use mathlib.Core.Path.{fun_ext}
use Rattle.std.proofs.lemmas.Bool.Decides.{Decides-at}
use Rattle.rules.specs.Nets.{inside, links_in, net, stage_in}
use Rattle.rules.specs.Searches.{none_passes}
use Rattle.rules.specs.StageLaws.{none_before_decides}
use Rattle.rules.specs.StageTests.{none_before}
use Rattle.rules.proofs.in0.has_none_before.Goals as goal

pub returns-then-has-clause-test : goal.returns-then-has-clause-test
returns-then-has-clause-test c =
    let g = net c.args.graph.now in
    let there : stage_in g c.args.s ≡ true = search rules in
    let none : c.is_empty.result ≡ none_passes (λ u. links_in g u c.args.s) = c.is_empty.ensures ∙ ap none_passes (fun_ext c.before-then-has.ensures) in
    rw there none

pub returns-then-has-clause-in_words : goal.returns-then-has-clause-in_words
returns-then-has-clause-in_words c =
    let graph = c.args.graph.now in
    let test : c.is_empty.result ≡ none_before (net graph) c.args.s = returns-then-has-clause-test c in
    Decides-at _ _ test (none_before_decides (net graph) (inside graph) c.args.s)
