use Rattle.std.proofs.Common.{sym, ◌∙◌, arith}
use Rattle.std.proofs.lemmas.Bool.{both_ways, le-ltb}
use Rattle.graph.proofs.Edits.{bare_again, no_loop_without_links}
use Rattle.graph.proofs.graph.Graph.empty.Goals as goal

pub invariant_of-result : goal.invariant_of-result
invariant_of-result c = record { few = omega arith; numbered = λ s. rw c.new.ensures.on (c.empty.ensures s ∙ sym (le-ltb s 0 (omega arith))); live_stages = λ s h. absurd (both_ways _ (c.empty-2.ensures s) h); no_live_loop = no_loop_without_links _ (λ a b. rw (c.new.ensures.no_links a b)) }

pub returns : goal.returns
returns c = bare_again 0 c.new.result c.empty-2.result c.new.ensures.no_links c.empty-2.ensures
