use Rattle.std.proofs.Common.{sym, ◌∙◌, arith}
use Rattle.rules.proofs.LinkSearches.{link_found, link_none, none_from}
use Rattle.rules.proofs.link_search.lowest_link.Goals as goal
use Rattle.rules.proofs.link_search.lowest_link.Goals.{else-search-test, then-search-test+then-loop-w-test+then-test}

pub search-preserved : goal.search-preserved
search-preserved g c =
    (c.loop-w.invariant.0, λ f h. none_from f c.search.u c.loop-w.w (omega arith) (c.search.invariant.1 f h) (c.loop-w.invariant.1 f h))

pub returns : goal.returns
returns g c f h = elim c.search-test.branch [
  | else-search-test w ↦ w.found-is ∙ c.search.invariant.0 ∙ sym (link_none f c.search.u (omega arith) (c.search.invariant.1 f h))
  | then-search-test+then-loop-w-test+then-test w ↦
      w.found-is
      ∙ sym
      (link_found f c.search.u w.loop-w.w w.search-test.true w.loop-w-test.true (c.search.invariant.1 f h) (w.loop-w.invariant.1 f h)
      (sym (h _ _ _ w.search-test.true w.loop-w-test.true w.test.ensures) ∙ w.if-test.true))
]
