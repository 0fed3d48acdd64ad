use Rattle.std.proofs.Common.{◌<◌, ◌∙◌, ap, length, sym, arith}
use Rattle.std.proofs.lemmas.Bool.{false≢true}
use Rattle.std.proofs.lemmas.List.{drop_all, drop_more}
use Rattle.csv.specs.Reading.{strip_bom}
use Rattle.wd_tables.proofs.WideFacts.{header_ends, header_ends_field, header_ends_text, header_joins, header_passes, header_spoilt, header_starts}
use Rattle.wd_tables.proofs.wide.has_text_header.Goals.{in-JoinsField+in_ok-push-in-JoinsField, in-EndsField+else-not-is_text, in-Passes}
use Rattle.wd_tables.proofs.wide.has_text_header.Goals as goal

pub loop-byte-init : goal.loop-byte-init
loop-byte-init c = rw c.new-field.ensures.items (header_starts c.args.text.now)

pub returns-then-not-is_text : goal.returns-then-not-is_text
returns-then-not-is_text c some =
    let text = c.args.text.now in
    let i = c.loop-byte.byte-index in
    let all = c.without_mark-byte-items.ensures in
    let size = ap length all in
    let within : i < length (strip_bom text) = omega arith in
    let here = rw (drop_more (strip_bom text) i 0 within) at c.loop-byte.invariant in
    let step = rw (all, c.in-EndsField.is, c.step-next.ensures.opens c.in-EndsField.is) at c.step-next.ensures.step in
    let test = rw c.deref.ensures.value at c.is_text.ensures in
    let bad = header_spoilt text c.loop-byte.place c.loop-byte.field.items _ _ here step (λ t. false≢true (sym c.if-not-is_text.true ∙ test.1 t)) in
    (λ h. absurd (false≢true h), λ h. absurd (bad h))

pub returns-in-EndsRecord : goal.returns-in-EndsRecord
returns-in-EndsRecord c some =
    let text = c.args.text.now in
    let i = c.loop-byte.byte-index in
    let all = c.without_mark-byte-items.ensures in
    let size = ap length all in
    let within : i < length (strip_bom text) = omega arith in
    let here = rw (drop_more (strip_bom text) i 0 within) at c.loop-byte.invariant in
    let step = rw (all, c.in-EndsRecord.is) at c.step-next.ensures.step in
    let test = rw c.deref-in-EndsRecord.ensures.value at c.is_text-in-EndsRecord.ensures in
    let last = header_ends text c.loop-byte.place _ c.loop-byte.field.items _ _ here step in
    (λ t. last.0 (test.0 t), λ h. test.1 (last.1 h))

pub loop-byte-preserved : goal.loop-byte-preserved
loop-byte-preserved c =
    let text = c.args.text.now in
    let i = c.loop-byte.byte-index in
    let all = c.without_mark-byte-items.ensures in
    let size = ap length all in
    let within : i < length (strip_bom text) = omega arith in
    let here = rw (drop_more (strip_bom text) i 0 within) at c.loop-byte.invariant in
    let step = rw all at c.step-next.ensures.step in
    elim c.match-effect.branch [
      | in-JoinsField+in_ok-push-in-JoinsField w ↦ rw (w.field-is, w.in_ok-push-in-JoinsField.ensures.items, all) (header_joins text _ _ _ _ _ here (rw w.in-JoinsField.is at step))
      | in-EndsField+else-not-is_text w ↦
          let test = rw w.deref.ensures.value at w.is_text.ensures in
          rw (w.field-is, w.clear.ensures.items) (header_ends_field text _ _ _ _ _ here (rw w.in-EndsField.is at step) (test.0 w.if-not-is_text.false))
      | in-Passes w ↦ rw w.field-is (header_passes text _ _ _ _ _ here (rw w.in-Passes.is at step))
    ]

pub returns : goal.returns
returns c some =
    let text = c.args.text.now in
    let all = c.without_mark-byte-items.ensures in
    let size = ap length all in
    let test = rw c.deref-2.ensures.value at c.is_text-2.ensures in
    let here = rw (drop_all c.loop-byte.byte-index (strip_bom text) (omega arith)) at c.loop-byte.invariant in
    let last = header_ends_text text c.loop-byte.place c.loop-byte.field.items here some in
    (λ t. last.0 (test.0 t), λ h. test.1 (last.1 h))
