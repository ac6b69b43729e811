use Rattle.std.proofs.Common.{refl}
use Rattle.std.proofs.lemmas.Bool.{both_ways}
use Rattle.graph.proofs.Rows.{no_links}
use Rattle.graph.proofs.digraph.Digraph.new.Goals as goal

pub invariant_of-result : goal.invariant_of-result
invariant_of-result c = record { long = refl; inside = λ u w h. absurd (both_ways _ (no_links c.empty.result c.empty.ensures u w) h) }

pub returns-clause-no_links : goal.returns-clause-no_links
returns-clause-no_links c = no_links c.empty.result c.empty.ensures
