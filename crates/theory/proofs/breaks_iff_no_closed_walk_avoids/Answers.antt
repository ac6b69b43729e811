use Rattle.theory.proofs.Walking.{breaks_iff_no_closed_walk_avoids_lem}
use Rattle.theory.proofs.breaks_iff_no_closed_walk_avoids.Goals as goal

pub returns : goal.returns
returns c = breaks_iff_no_closed_walk_avoids_lem
