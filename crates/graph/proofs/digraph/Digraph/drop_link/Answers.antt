use Rattle.std.proofs.Common.{◌≡◌, ℕ, ◌<◌, not, ◌&&◌, eqb, get_or, set, inl, sym, ◌∙◌, arith, rules}
use Rattle.std.proofs.lemmas.Bool.{and_parts, ne_eqb}
use Rattle.std.proofs.lemmas.Bool.Decides.{nat_tests}
use Rattle.theory.specs.Moves.{dropped}
use Rattle.graph.specs.declared.digraph.Digraph.{Digraph}
use Rattle.graph.specs.declared.stage_set.StageSet.{StageSet}
use Rattle.graph.specs.Digraphs.{links}
use Rattle.graph.specs.Marks.{linked}
use Rattle.graph.specs.StageSets.{stages, words}
use Rattle.graph.proofs.Rows.{past_rows, row_changed, row_links, rows_of}
use Rattle.graph.proofs.digraph.Digraph.drop_link.Goals as goal

-- the row of stage u without stage v
linked_less : (g : Digraph) (u v : ℕ) (i x : StageSet) → u < 64 → ((t : ℕ) → stages x t ≡ (stages (get_or g.rows u i) t && not (eqb t v)))
    → (a b : ℕ) → linked (words (set g.rows u x)) a b ≡ dropped (links g) u v a b
linked_less g u v i x hu is =
    row_changed g.rows u x (dropped (links g) u v) g.long hu
    (λ b. let r = row_links g.rows u i (rw g.long hu) b in is b ∙ grind (arith, nat_tests))
    (λ a b d. let n = ne_eqb a u d in grind (arith, nat_tests))

pub invariant_of-self : goal.invariant_of-self
invariant_of-self c =
    let g = c.args.self.now in
    record {
      long = search rules;
      inside = λ a b h.
          g.inside a b
          (and_parts _ _ (sym (linked_less g c.args.from c.args.to _ _ c.if-from-lt64.true c.without.ensures a b) ∙ h)).0;
    }

pub returns-then-from-lt64-clause-links : goal.returns-then-from-lt64-clause-links
returns-then-from-lt64-clause-links c = linked_less c.args.self.now c.args.from c.args.to _ _ c.if-from-lt64.true c.without.ensures

-- no link leads from a number past the stages
pub returns-else-from-lt64-clause-links : goal.returns-else-from-lt64-clause-links
returns-else-from-lt64-clause-links c a b =
    let g = c.args.self.now in
    let none = past_rows (words g.rows) (rows_of g) c.args.from b (inl c.if-from-lt64.false) in
    grind (arith, nat_tests)
