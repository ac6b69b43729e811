use Rattle.std.proofs.Common.{◌≡◌, ◌-◌, length, drop}
use Rattle.sheet_format.specs.Layout.{Contents}
use Rattle.sheet_format.specs.Reading.{no_contents, records_from}
use Rattle.sheet.specs.Readings.{Pictures}
use Rattle.sheet.proofs.ReadLoop.{Over}
use Rattle.sheet.proofs.reading.graph_of.Given as goal

abbrev pub invariant-loop-record : goal.invariant-loop-record
invariant-loop-record g l =
    let F = g.P.FiledPrice.filing in
    Over l.sheet F.width l.reader
    × ((c : Contents) × Pictures l.graph c
    × (records_from F.width l.reader.at 0 (drop l.reader.at l.sheet) c ≡ records_from F.width 4 0 (drop 4 l.sheet) no_contents))

abbrev pub decreases-loop-record : goal.decreases-loop-record
decreases-loop-record g l = length l.sheet - l.reader.at
