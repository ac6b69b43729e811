use Rattle.std.proofs.Common.{Some, None, Err, sym, refl, ap, ◌∙◌, arith}
use Rattle.std.proofs.lemmas.Bool.{lt-ltb, le-ltb, not_from_true, not_from_false}
use Rattle.std.proofs.lemmas.Bool.Decides.{nat_tests}
use Rattle.graph.specs.declared.fault.Cause.TheVariants.{AlreadyThere, LiveLoop, NoSuchStage}
use Rattle.graph.proofs.Edits.{goes_on, live_post, live_word, mark_tested, no_loop, same_plain, stops}
use Rattle.graph.proofs.graph.Graph.mark_live.Goals as goal

pub returns-then-stage-self : goal.returns-then-stage-self
returns-then-stage-self c =
    live_post c.args.self.now _ c.args.stage c.args.site _ (Some NoSuchStage)
    (stops _ _ _ (le-ltb c.args.stage c.args.self.now.n (omega arith))) (ap Err c.at.ensures) refl

pub returns-then-has : goal.returns-then-has
returns-then-has c =
    live_post c.args.self.now _ c.args.stage c.args.site _ (Some AlreadyThere)
    (goes_on _ _ _ (lt-ltb c.args.stage c.args.self.now.n (omega arith)) ∙ stops _ _ _ (not_from_true _ (sym c.if-has.ensures))) (ap Err c.at-then-has.ensures) refl

pub returns-then-has_loop : goal.returns-then-has_loop
returns-then-has_loop c =
    let g = c.args.self.now in
    live_post g _ c.args.stage c.args.site _ (Some LiveLoop)
    (goes_on _ _ _ (lt-ltb c.args.stage g.n (omega arith)) ∙ goes_on _ _ _ (not_from_false _ (sym c.if-has.ensures))
    ∙ stops _ _ _ (not_from_true _ (mark_tested g c.with-live.result c.args.stage c.has_loop.result _ (omega arith) c.with-live.ensures c.among.ensures.links c.has_loop.ensures ∙ c.if-has_loop.true)))
    (ap Err c.at-then-has_loop.ensures) refl

pub invariant_of-self : goal.invariant_of-self
invariant_of-self c =
    let g = c.args.self.now in record { few = g.few; numbered = g.numbered; live_stages = λ s h. let e = c.with-live.ensures s in let old = g.live_stages s in grind (arith, nat_tests); no_live_loop = no_loop c.has_loop.result _ _ c.has_loop.ensures c.among.ensures.links c.if-has_loop.false }

pub returns : goal.returns
returns c =
    let g = c.args.self.now in
    live_post g _ c.args.stage c.args.site _ None
    (goes_on _ _ _ (lt-ltb c.args.stage g.n (omega arith)) ∙ goes_on _ _ _ (not_from_false _ (sym c.if-has.ensures))
    ∙ goes_on _ _ _ (not_from_false _ (mark_tested g c.with-live.result c.args.stage c.has_loop.result _ (omega arith) c.with-live.ensures c.among.ensures.links c.has_loop.ensures ∙ c.if-has_loop.false)))
    refl
    (same_plain g.n _ _ _ _ refl (live_word g c.with-live.result c.args.stage (omega arith) c.with-live.ensures))
