use Rattle.std.proofs.Common.{Some, None, Err, sym, refl, ap, ◌∙◌, arith}
use Rattle.std.proofs.lemmas.Bool.{and_from, lt-ltb}
use Rattle.std.proofs.lemmas.Bool.Decides.{nat_tests}
use Rattle.graph.specs.declared.fault.Cause.TheVariants.{NoSuchStage, NotThere}
use Rattle.graph.proofs.Edits.{absent_end, dropped_rows, fewer_links, goes_on, same_plain, stops, unlink_post}
use Rattle.graph.proofs.graph.Graph.unlink.Goals as goal

pub returns-then-from-n : goal.returns-then-from-n
returns-then-from-n c =
    unlink_post c.args.self.now _ c.args.from c.args.to c.args.site _ (Some NoSuchStage)
    (stops _ _ _ (absent_end c.args.self.now.n c.args.from c.args.to c.then-from-n.either)) (ap Err c.at.ensures) refl

pub returns-then-not-is_linked : goal.returns-then-not-is_linked
returns-then-not-is_linked c =
    unlink_post c.args.self.now _ c.args.from c.args.to c.args.site _ (Some NotThere)
    (goes_on _ _ _ (and_from _ _ (lt-ltb c.args.from c.args.self.now.n (omega arith)) (lt-ltb c.args.to c.args.self.now.n (omega arith)))
    ∙ stops _ _ _ (sym c.if-not-is_linked.ensures)) (ap Err c.at-then-not-is_linked.ensures) refl

pub invariant_of-self : goal.invariant_of-self
invariant_of-self c =
    let g = c.args.self.now in record { few = g.few; numbered = λ s. rw c.drop_link.ensures.stages (g.numbered s); live_stages = g.live_stages; no_live_loop = fewer_links _ _ (λ a b h. let e = c.drop_link.ensures.links a b in grind (arith, nat_tests)) g.no_live_loop }

pub returns : goal.returns
returns c =
    let g = c.args.self.now in
    unlink_post g _ c.args.from c.args.to c.args.site _ None
    (goes_on _ _ _ (and_from _ _ (lt-ltb c.args.from g.n (omega arith)) (lt-ltb c.args.to g.n (omega arith)))
    ∙ goes_on _ _ _ (sym c.if-not-is_linked.ensures)) refl
    (same_plain g.n _ _ _ _ (dropped_rows g c.drop_link.new.self c.args.from c.args.to (omega arith) (omega arith) c.drop_link.ensures.links) refl)
