use Rattle.std.proofs.Common.{◌≡◌, ℕ, ◌<◌, true, ◌&&◌, ◌||◌, eqb, ltb, get_or, set, ◌⊎◌, inl, inr, sym, ◌∙◌, arith, rules}
use Rattle.std.proofs.lemmas.Bool.{and_from, and_parts, eqb-true, ne_eqb, or_cases}
use Rattle.std.proofs.lemmas.Bool.Decides.{nat_tests}
use Rattle.theory.specs.Moves.{with_link}
use Rattle.graph.specs.declared.digraph.Digraph.{Digraph}
use Rattle.graph.specs.declared.stage_set.StageSet.{StageSet}
use Rattle.graph.specs.Digraphs.{links}
use Rattle.graph.specs.Marks.{linked, marked}
use Rattle.graph.specs.StageSets.{stages, words}
use Rattle.graph.proofs.Rows.{row_changed, row_links}
use Rattle.graph.proofs.Marks.{mark_below}
use Rattle.graph.proofs.digraph.Digraph.link.Goals as goal

-- the row of stage u with stage v too
linked_more : (g : Digraph) (u v : ℕ) (i x : StageSet) → u < 64 → v < 64 → ((t : ℕ) → stages x t ≡ (stages (get_or g.rows u i) t || eqb t v && ltb v 64))
    → (a b : ℕ) → linked (words (set g.rows u x)) a b ≡ with_link (links g) u v a b
linked_more g u v i x hu hv is =
    row_changed g.rows u x (with_link (links g) u v) g.long hu
    (λ b. let r = row_links g.rows u i (rw g.long hu) b in is b ∙ grind (arith, nat_tests))
    (λ a b d. let n = ne_eqb a u d in grind (arith, nat_tests))

-- a link between two stages leaves none of them
inside_with_link : (g : Digraph) (u v : ℕ) → marked g.stages.word u ≡ true → marked g.stages.word v ≡ true → (a b : ℕ) → with_link (links g) u v a b ≡ true → (marked g.stages.word a && marked g.stages.word b) ≡ true
inside_with_link g u v mu mv a b t = go (or_cases _ _ t)
  where
    go : (links g a b ≡ true) ⊎ ((eqb a u && eqb b v) ≡ true) → (marked g.stages.word a && marked g.stages.word b) ≡ true
    go (inl l) = g.inside a b l
    go (inr e) =
        let p = and_parts _ _ e in
        and_from (marked g.stages.word a) (marked g.stages.word b) (rw (eqb-true a u p.0) mu) (rw (eqb-true b v p.1) mv)

-- a stage's number is below 64
below : (g : Digraph) (s : ℕ) → true ≡ marked g.stages.word s → s < 64
below g s e = mark_below g.stages.word s g.stages.fits (sym e)

pub listed : goal.listed
listed c = let h = below c.args.self.now c.args.from c.if-not-has.ensures in let l = c.args.self.now.long in omega arith

pub bounds-self-from : goal.bounds-self-from
bounds-self-from c = below c.args.self.now c.args.from c.if-not-has.ensures

pub listed-2 : goal.listed-2
listed-2 c = let h = below c.args.self.now c.args.from c.if-not-has.ensures in let l = c.args.self.now.long in omega arith

pub bounds-self-from-2 : goal.bounds-self-from-2
bounds-self-from-2 c = below c.args.self.now c.args.from c.if-not-has.ensures

pub invariant_of-self : goal.invariant_of-self
invariant_of-self c =
    let g = c.args.self.now in
    record { long = search rules; inside = λ a b h. inside_with_link g c.args.from c.args.to (sym c.if-not-has.ensures) (sym c.if-not-has-2.ensures) a b (sym (linked_more g c.args.from c.args.to _ _ (below g c.args.from c.if-not-has.ensures) (below g c.args.to c.if-not-has-2.ensures) c.with.ensures a b) ∙ h) }

pub returns-clause-links : goal.returns-clause-links
returns-clause-links c =
    let g = c.args.self.now in linked_more g c.args.from c.args.to _ _ (below g c.args.from c.if-not-has.ensures) (below g c.args.to c.if-not-has-2.ensures) c.with.ensures
