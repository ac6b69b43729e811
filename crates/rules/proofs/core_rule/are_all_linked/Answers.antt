use Rattle.std.proofs.Common.{◌≡◌, true, not, ◌&&◌, ◌||◌, ap, ◌∙◌, rules}
use mathlib.Core.Path.{fun_ext}
use Rattle.graph.specs.StageSets.{stages}
use Rattle.rules.specs.Nets.{links_in, net}
use Rattle.rules.specs.Searches.{none_passes}
use Rattle.rules.proofs.core_rule.are_all_linked.Goals as goal

pub returns-then-not-is_empty : goal.returns-then-not-is_empty
returns-then-not-is_empty c =
    let g = net c.args.graph.now in
    let some : not (none_passes (stages c.args.set)) ≡ true = search rules in
    let rest : c.is_empty-then-not-is_empty.result ≡ none_passes (λ w. (links_in g c.args.v w || links_in g w c.args.v) && not (stages c.args.set w)) =
    c.is_empty-then-not-is_empty.ensures
    ∙ ap none_passes (fun_ext (λ w. rw (c.difference.ensures w, c.union-linked.ensures w, c.after.ensures w, c.before-2.ensures w))) in
    rw some rest
