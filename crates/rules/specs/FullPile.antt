-- What the full pile answers.
use Rattle.std.specs.Prelude.{List, Option}
use Rattle.std.specs.Option.{option_or}
use Rattle.theory.specs.Prices.{Kind}
use Rattle.rules.specs.declared.action.Action.{Action}
use Rattle.rules.specs.CoreRules.{core_answer}
use Rattle.rules.specs.LinkRules.{dome_answer, pie_answer}
use Rattle.rules.specs.NeighbourRules.{in1_answer, out1_answer}
use Rattle.rules.specs.Nets.{Net}
use Rattle.rules.specs.StageRules.{in0_answer, loop_answer, out0_answer}

-- The first answer that is present of these: LOOP's, IN0's, OUT0's, IN1's, OUT1's, PIE's, CORE's, DOME's.
abbrev pub full_answer : {P : Type 0} → Kind P → List P → Net → Option Action
full_answer K prices g =
    option_or (loop_answer g)
    (option_or (in0_answer g)
    (option_or (out0_answer g)
    (option_or (in1_answer K prices g)
    (option_or (out1_answer K prices g)
    (option_or (pie_answer g)
    (option_or (core_answer K prices g)
    (dome_answer g)))))))
