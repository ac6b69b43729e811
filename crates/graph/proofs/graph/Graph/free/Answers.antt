use Rattle.std.proofs.Common.{Some, None, Err, sym, refl, ap, ◌∙◌, arith}
use Rattle.std.proofs.lemmas.Bool.{lt-ltb, le-ltb}
use Rattle.std.proofs.lemmas.Bool.Decides.{nat_tests}
use Rattle.graph.specs.declared.fault.Cause.TheVariants.{NoSuchStage, NotThere}
use Rattle.graph.proofs.Edits.{fewer_links, free_post, freed_word, goes_on, same_plain, stops}
use Rattle.graph.proofs.graph.Graph.free.Goals as goal

pub returns-then-stage-self : goal.returns-then-stage-self
returns-then-stage-self c =
    free_post c.args.self.now _ c.args.stage c.args.site _ (Some NoSuchStage)
    (stops _ _ _ (le-ltb c.args.stage c.args.self.now.n (omega arith))) (ap Err c.at.ensures) refl

pub returns-then-not-has : goal.returns-then-not-has
returns-then-not-has c =
    free_post c.args.self.now _ c.args.stage c.args.site _ (Some NotThere)
    (goes_on _ _ _ (lt-ltb c.args.stage c.args.self.now.n (omega arith)) ∙ stops _ _ _ (sym c.if-not-has.ensures)) (ap Err c.at-then-not-has.ensures) refl

pub invariant_of-self : goal.invariant_of-self
invariant_of-self c =
    let g = c.args.self.now in record { few = g.few; numbered = g.numbered; live_stages = λ s h. g.live_stages s (let e = c.without-self.ensures s in grind (arith, nat_tests)); no_live_loop = fewer_links _ _ (λ a b h. let p = c.without-self.ensures a in let q = c.without-self.ensures b in grind (arith, nat_tests)) g.no_live_loop }

pub returns : goal.returns
returns c =
    let g = c.args.self.now in
    free_post g _ c.args.stage c.args.site _ None
    (goes_on _ _ _ (lt-ltb c.args.stage g.n (omega arith)) ∙ goes_on _ _ _ (sym c.if-not-has.ensures)) refl
    (same_plain g.n _ _ _ _ refl (freed_word g c.without-self.result c.args.stage (omega arith) c.without-self.ensures))
