use Rattle.theory.proofs.Reaching.{on_loop_iff_reached_back, reaching_decides_walks}
use Rattle.theory.proofs.reaching_decides.Goals as goal

pub returns : goal.returns
returns c = record { walks = reaching_decides_walks; loops = on_loop_iff_reached_back }
