use Rattle.std.proofs.Common.{◌≡◌, rules}
use Rattle.std.proofs.lemmas.Bool.Decides.{Decides-at}
use Rattle.rules.specs.LinkLaws.{dominated_link_decides}
use Rattle.rules.specs.Nets.{inside, net}
use Rattle.rules.specs.LinkTests.{dominated_link}
use Rattle.rules.proofs.dome.is_dominated.Goals as goal

pub returns-clause-in_words : goal.returns-clause-in_words
returns-clause-in_words c =
    let g = c.args.graph.now in
    let test : c.is_dominated.result ≡ dominated_link (net g) c.args.u c.args.v = search rules in
    Decides-at _ _ test (dominated_link_decides (net g) (inside g) c.args.u c.args.v)
