use Rattle.std.proofs.Common.{Some, None, Err, sym, refl, ap, ◌∙◌, arith}
use Rattle.std.proofs.lemmas.Bool.{and_from, lt-ltb, not_from_true, not_from_false}
use Rattle.graph.specs.declared.fault.Cause.TheVariants.{AlreadyThere, LiveLoop, NoSuchStage}
use Rattle.graph.proofs.Edits.{absent_end, both_linked, goes_on, link_post, link_tested, linked_rows, no_loop, same_plain, stops}
use Rattle.graph.proofs.graph.Graph.link.Goals as goal

pub returns-then-from-n : goal.returns-then-from-n
returns-then-from-n c =
    link_post c.args.self.now _ c.args.from c.args.to c.args.site _ (Some NoSuchStage)
    (stops _ _ _ (absent_end c.args.self.now.n c.args.from c.args.to c.then-from-n.either)) (ap Err c.at.ensures) refl

pub returns-then-is_linked : goal.returns-then-is_linked
returns-then-is_linked c =
    link_post c.args.self.now _ c.args.from c.args.to c.args.site _ (Some AlreadyThere)
    (goes_on _ _ _ (and_from _ _ (lt-ltb c.args.from c.args.self.now.n (omega arith)) (lt-ltb c.args.to c.args.self.now.n (omega arith)))
    ∙ stops _ _ _ (not_from_true _ (sym c.if-is_linked.ensures))) (ap Err c.at-then-is_linked.ensures) refl

pub returns-then-has_loop : goal.returns-then-has_loop
returns-then-has_loop c =
    let g = c.args.self.now in
    let more = both_linked g c.args.from c.args.to c.link.result _ _ (omega arith) (omega arith) c.link.ensures.answer _ c.link.ensures.links in
    link_post g _ c.args.from c.args.to c.args.site _ (Some LiveLoop)
    (goes_on _ _ _ (and_from _ _ (lt-ltb c.args.from g.n (omega arith)) (lt-ltb c.args.to g.n (omega arith)))
    ∙ goes_on _ _ _ (not_from_false _ (sym c.if-is_linked.ensures))
    ∙ stops _ _ _ (not_from_true _ (link_tested g c.link.new.self c.args.from c.args.to c.has_loop.result _ (omega arith) (omega arith) more c.among.ensures.links c.has_loop.ensures ∙ c.if-has_loop.true)))
    (ap Err c.at-then-has_loop.ensures) refl

pub invariant_of-self : goal.invariant_of-self
invariant_of-self c =
    let g = c.args.self.now in record { few = g.few; numbered = λ s. rw c.link.ensures.stages (g.numbered s); live_stages = g.live_stages; no_live_loop = no_loop c.has_loop.result _ _ c.has_loop.ensures c.among.ensures.links c.if-has_loop.false }

pub returns : goal.returns
returns c =
    let g = c.args.self.now in
    let more = both_linked g c.args.from c.args.to c.link.result _ _ (omega arith) (omega arith) c.link.ensures.answer _ c.link.ensures.links in
    link_post g _ c.args.from c.args.to c.args.site _ None
    (goes_on _ _ _ (and_from _ _ (lt-ltb c.args.from g.n (omega arith)) (lt-ltb c.args.to g.n (omega arith)))
    ∙ goes_on _ _ _ (not_from_false _ (sym c.if-is_linked.ensures))
    ∙ goes_on _ _ _ (not_from_false _ (link_tested g c.link.new.self c.args.from c.args.to c.has_loop.result _ (omega arith) (omega arith) more c.among.ensures.links c.has_loop.ensures ∙ c.if-has_loop.false)))
    refl
    (same_plain g.n _ _ _ _ (linked_rows g c.link.new.self c.args.from c.args.to (omega arith) (omega arith) more) refl)
