use Rattle.std.proofs.Common.{◌≡◌, ◌+◌, Ok, sym, refl, subst, arith}
use Rattle.sheet.specs.Records.{EntryPlaced, entry_told}
use Rattle.sheet.proofs.Names.{name_in}
use Rattle.sheet.proofs.Records.{next_entry}
use Rattle.sheet.proofs.reader.Reader.next.Goals as goal

pub returns : goal.returns
returns c =
    let self = c.args.self.now in
    let entry = c.in_ok-entry.entry in
    let name-at : self.at + 1 + 1 + self.width ≡ self.at + 2 + self.width = omega arith in
    let answers = next_entry self.width self.at self.sheet.now c.if-at-sheet.false c.if-len-eq0.false c.if-len-sheet.false (Ok (entry_told entry)) c.in_ok-entry.ensures.entry in
    let placed = subst (λ k. EntryPlaced entry k) name-at c.in_ok-entry.ensures.name in
    record {
      answers = answers;
      places = (refl, placed);
      name_is_a_part = name_in self.width self.at self.sheet.now entry (sym answers) placed;
      goes_on = refl;
      same_sheet = refl;
      same_width = refl;
    }
