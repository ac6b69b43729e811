use Rattle.std.proofs.Common.{◌&&◌, ◌∙◌, nat_le, rules}
use Rattle.std.proofs.lemmas.Iterator.{YieldsList-from_slice}
use Rattle.std.proofs.lemmas.Iterator.Search.{all_from_yields_List}
use Rattle.sheet.proofs.Bodies.{printable_all}
use Rattle.sheet.proofs.reader.entries.is_printable.Goals as goal

pub returns : goal.returns
returns c =
    all_from_yields_List (λ b. nat_le 0x21 b && nat_le b 0x7E) _ _ _ c.all.ensures.ran (YieldsList-from_slice c.args.name.now cc) (λ x b q h. search rules)
    ∙ printable_all c.args.name.now
