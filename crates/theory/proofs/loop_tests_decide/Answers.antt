use Rattle.theory.proofs.Deciding.{breaking_test_decides, loop_test_decides}
use Rattle.theory.proofs.loop_tests_decide.Goals as goal

pub returns : goal.returns
returns c = record { loops = loop_test_decides; breaking = breaking_test_decides }
