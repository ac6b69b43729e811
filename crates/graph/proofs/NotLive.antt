-- The stages that are not live are a plan.
use Rattle.std.proofs.Common.{ℕ, arith}
use Rattle.std.proofs.lemmas.Bool.{lt-ltb}
use Rattle.std.proofs.lemmas.Bool.Decides.{nat_tests}
use Rattle.theory.specs.Loops.{Link}
use Rattle.theory.specs.Walks.{ClosedWalk, Free}
use Rattle.theory.proofs.Deciding.{loop_of}
use Rattle.theory.proofs.Walking.{breaks_iff_no_closed_walk_avoids_lem, chain_map}
use Rattle.graph.specs.Graphs.{PlainGraph, Sound, links_of, live_links}
use Rattle.graph.specs.Plans.{NotLiveStagesAreAPlan, not_live}

module _ (g : PlainGraph) (s : Sound g) where
  -- a link between stages that are all live
  live_link : (a b : ℕ) → Free (links_of g) (not_live g) a b → Link (live_links g) a b
  live_link a b h =
      let p = s.inside a b h.0 in
      let x = lt-ltb a g.n p.0 in
      let y = lt-ltb b g.n p.1 in
      grind (arith, nat_tests)

  live_walk : ClosedWalk (Free (links_of g) (not_live g)) → ClosedWalk (Link (live_links g))
  live_walk (a, (xs, w)) = (a, (xs, chain_map (Free (links_of g) (not_live g)) (Link (live_links g)) live_link a a xs w))

pub not_live_stages_are_a_plan_lem : NotLiveStagesAreAPlan
not_live_stages_are_a_plan_lem g s =
    record {
      breaks = (breaks_iff_no_closed_walk_avoids_lem (links_of g) (not_live g)).1 (λ r. s.no_live_loop (loop_of (live_links g) (live_walk g s r)));
      no_live_stage = λ k h. grind (arith, nat_tests);
    }
