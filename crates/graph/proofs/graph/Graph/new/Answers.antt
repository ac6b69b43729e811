use Rattle.std.proofs.Common.{Some, ap, ◌∙◌, arith}
use Rattle.std.proofs.lemmas.Bool.{both_ways, le-ltb}
use Rattle.std.proofs.lemmas.Bool.Decides.{nat_tests}
use Rattle.graph.proofs.Edits.{bare_again, no_loop_without_links}
use Rattle.graph.proofs.graph.Graph.new.Goals as goal

pub invariant_of-result : goal.invariant_of-result
invariant_of-result c = record { few = omega arith; numbered = λ s. let e = c.below.ensures s in rw c.new.ensures.on (e ∙ grind (arith, nat_tests)); live_stages = λ s h. absurd (both_ways _ (c.empty.ensures s) h); no_live_loop = no_loop_without_links _ (λ a b. rw (c.new.ensures.no_links a b)) }

pub returns : goal.returns
returns c =
    rw (le-ltb 64 c.args.n (omega arith)) (ap Some (bare_again c.args.n c.new.result c.empty.result c.new.ensures.no_links c.empty.ensures))
