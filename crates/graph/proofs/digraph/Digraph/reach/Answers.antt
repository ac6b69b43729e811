use Rattle.std.proofs.Common.{◌≡◌, Decides, sym, ◌∙◌, subst, arith, rules}
use Rattle.theory.specs.Loops.{Link}
use Rattle.theory.specs.Reach.{reaches}
use Rattle.theory.specs.Walks.{Walk}
use Rattle.graph.specs.Digraphs.{links}
use Rattle.graph.specs.Marks.{linked, marked}
use Rattle.graph.specs.StageSets.{words}
use Rattle.graph.proofs.Columns.{reach_walks, reaches_inside, reaches_more}
use Rattle.graph.proofs.digraph.Digraph.reach.Goals as goal

pub loop-k-preserved : goal.loop-k-preserved
loop-k-preserved c = record {
  long = search rules;
  so_far = reaches_more (links c.args.self.now) (linked (words c.loop-k.rows)) (linked (words c.rows_bridged-rows.result)) c.loop-k.k c.loop-k.invariant.so_far c.rows_bridged-rows.ensures;
}

pub invariant_of-result : goal.invariant_of-result
invariant_of-result c =
    let g = c.args.self.now in
    record { long = c.loop-k.invariant.long; inside = λ u w h. reaches_inside (links g) (marked g.stages.word) g.inside c.loop-k.k u w (sym (c.loop-k.invariant.so_far u w) ∙ h) }

pub returns-clause-walks : goal.returns-clause-walks
returns-clause-walks c a b =
    let g = c.args.self.now in
    let e : c.loop-k.k ≡ 64 = omega arith in
    let q : linked (words c.loop-k.rows) a b ≡ reaches 64 (links g) a b = rw e at (c.loop-k.invariant.so_far a b) in
    subst (λ x. Decides x (Walk (Link (links g)) a b)) (sym q) (reach_walks g a b)
