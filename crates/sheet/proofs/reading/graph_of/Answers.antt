use Rattle.std.proofs.Common.{◌≡◌, drop, Some, Ok, Err, sym, refl, ap, ◌∙◌}
use Rattle.std.proofs.lemmas.Result.{err_from_is_err_and}
use Rattle.sheet_format.specs.Reading.{no_contents, records_from, taken_in}
use Rattle.sheet.specs.Records.{entry_told}
use Rattle.sheet.proofs.ReadLoop.{faulty, found_less, found_place, framed, made_err, made_ok, no_more, over_still, taken_not, taken_on, took_not, took_ok, unframed}
use Rattle.sheet.proofs.reading.graph_of.Goals as goal

pub returns-in_err-reader : goal.returns-in_err-reader
returns-in_err-reader g c =
    let F = g.P.FiledPrice.filing in
    let p = err_from_is_err_and c.from_residual.result c.from_residual.ensures.1 in
    made_err _ _ p.0 (unframed F.code F.width c.args.sheet.now p.0 (c.in_err-reader.ensures ∙ ap Err (sym p.2))) p.1

pub loop-record-init : goal.loop-record-init
loop-record-init g c =
    let F = g.P.FiledPrice.filing in
    let o = c.in_ok-reader.ensures in (
      record { same_sheet = o.1; same_width = o.3 },
      (
        no_contents,
        record { graph = c.empty-graph.ensures; each = refl },
        ap (λ p. records_from F.width p 0 (drop p c.args.sheet.now) no_contents) o.2,
      ),
    )

pub returns-in_err-record : goal.returns-in_err-record
returns-in_err-record g c =
    let F = g.P.FiledPrice.filing in
    let p = err_from_is_err_and c.from_residual-in_err-record.result c.from_residual-in_err-record.ensures.1 in
    let inv = c.loop-record.invariant in
    made_err _ _ p.0
    (framed F.code F.width c.args.sheet.now c.in_ok-reader.ensures.0 ∙ sym inv.1.2
    ∙ faulty c.args.sheet.now F.width c.loop-record.reader c.next.new.self c.next.result inv.0 c.next.ensures p.0 (c.in_err-record.was ∙ ap Err (sym p.2)) inv.1.0)
    p.1

pub loop-record-smaller : goal.loop-record-smaller
loop-record-smaller g c =
    let F = g.P.FiledPrice.filing in
    let inv = c.loop-record.invariant in
    let is : c.next.result ≡ Ok (Some c.in-Some.record) = c.in_ok-record.was ∙ ap Ok c.in-Some.is in
    found_less c.args.sheet.now F.width c.loop-record.reader c.next.new.self c.next.result inv.0 c.next.ensures c.in-Some.record is

pub loop-record-preserved : goal.loop-record-preserved
loop-record-preserved g c =
    let F = g.P.FiledPrice.filing in
    let inv = c.loop-record.invariant in
    let is : c.next.result ≡ Ok (Some c.in-Some.record) = c.in_ok-record.was ∙ ap Ok c.in-Some.is in
    let place = found_place c.args.sheet.now F.width c.loop-record.reader c.next.new.self c.next.result inv.0 c.next.ensures c.in-Some.record is in
    let took = took_ok _ c.take_in.result c.take_in.new.graph (c.take_in.ensures inv.1.0 inv.1.1) c.in_ok-take_in.was in (
      over_still c.args.sheet.now F.width c.loop-record.reader c.next.new.self c.next.result inv.0 c.next.ensures,
      (
        took.0,
        took.2,
        taken_on c.args.sheet.now F.width c.loop-record.reader c.next.new.self c.next.result inv.0 c.next.ensures c.in-Some.record is inv.1.0 took.0
            (ap (λ k. taken_in inv.1.0 (entry_told c.in-Some.record.entry) k) (sym place) ∙ took.1)
            ∙ inv.1.2,
      ),
    )

pub returns-in_err-take_in : goal.returns-in_err-take_in
returns-in_err-take_in g c =
    let F = g.P.FiledPrice.filing in
    let p = err_from_is_err_and c.from_residual-in_err-take_in.result c.from_residual-in_err-take_in.ensures.1 in
    let inv = c.loop-record.invariant in
    let is : c.next.result ≡ Ok (Some c.in-Some.record) = c.in_ok-record.was ∙ ap Ok c.in-Some.is in
    let place = found_place c.args.sheet.now F.width c.loop-record.reader c.next.new.self c.next.result inv.0 c.next.ensures c.in-Some.record is in
    let refused = took_not _ c.take_in.result c.take_in.new.graph p.0 (c.take_in.ensures inv.1.0 inv.1.1) (c.in_err-take_in.was ∙ ap Err (sym p.2)) in
    made_err _ _ p.0
    (framed F.code F.width c.args.sheet.now c.in_ok-reader.ensures.0 ∙ sym inv.1.2
    ∙ taken_not c.args.sheet.now F.width c.loop-record.reader c.next.new.self c.next.result inv.0 c.next.ensures c.in-Some.record is inv.1.0 p.0
    (ap (λ k. taken_in inv.1.0 (entry_told c.in-Some.record.entry) k) (sym place) ∙ refused))
    p.1

pub returns : goal.returns
returns g c =
    let F = g.P.FiledPrice.filing in
    let inv = c.loop-record.invariant in
    made_ok _ c.loop-record.graph inv.1.0
    (framed F.code F.width c.args.sheet.now c.in_ok-reader.ensures.0 ∙ sym inv.1.2
    ∙ no_more c.args.sheet.now F.width c.loop-record.reader c.next.new.self c.next.result inv.0 c.next.ensures (c.in_ok-record.was ∙ ap Ok c.in_default.is) inv.1.0)
    inv.1.1
