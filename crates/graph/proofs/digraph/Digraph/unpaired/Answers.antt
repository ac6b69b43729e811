use Rattle.std.proofs.Common.{sym, ◌∙◌, inl, rules}
use Rattle.std.proofs.lemmas.Bool.{and_parts}
use Rattle.graph.specs.StageSets.{words}
use Rattle.graph.proofs.Rows.{made_rows, past_rows, rows_of}
use Rattle.graph.proofs.digraph.Digraph.unpaired.Goals as goal

pub invariant_of-result : goal.invariant_of-result
invariant_of-result c =
    let g = c.args.self.now in
    record {
      long = c.from_fn.ensures.items.long;
      inside = λ u w h.
          g.inside u w
          (and_parts _ _
          (sym (made_rows _ _ c.from_fn.result c.from_fn.ensures.items _ (λ v y q k. (k.met.1, search rules)) (λ a b l. rw (past_rows (words g.rows) (rows_of g) a b (inl l))) u w) ∙ h)).0;
    }

pub returns-clause-links : goal.returns-clause-links
returns-clause-links c =
    let g = c.args.self.now in
    made_rows _ _ c.from_fn.result c.from_fn.ensures.items _ (λ u y q k. (k.met.1, search rules)) (λ a b h. rw (past_rows (words g.rows) (rows_of g) a b (inl h)))
