use Rattle.std.proofs.Common.{sym, ◌∙◌, arith}
use Rattle.rules.proofs.Searches.{lowest_found, lowest_none, none_more}
use Rattle.rules.proofs.search.lowest_stage.Goals as goal

pub returns-then-test : goal.returns-then-test
returns-then-test g c f h =
    sym (lowest_found f c.loop-s.s c.loop-s-test.true (c.loop-s.invariant f h) (sym (h _ _ c.loop-s-test.true c.test.ensures) ∙ c.if-test.true))

pub loop-s-preserved : goal.loop-s-preserved
loop-s-preserved g c f h =
    none_more f c.loop-s.s (c.loop-s.invariant f h) (sym (h _ _ c.loop-s-test.true c.test.ensures) ∙ c.if-test.false)

pub returns : goal.returns
returns g c f h = sym (lowest_none f c.loop-s.s (omega arith) (c.loop-s.invariant f h))
