use Rattle.theory.proofs.Dropping.{dominated, off_loops}
use Rattle.theory.proofs.needless_links_drop_freely.Goals as goal

pub returns : goal.returns
returns c = record { off_unpaired_loops = off_loops; dominated = dominated }
