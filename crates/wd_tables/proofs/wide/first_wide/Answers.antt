use Rattle.std.proofs.lemmas.Grind.{common_steps}
use Rattle.std.proofs.Common.{◌+◌, ◌<◌, ap, drop, inl, inr, length, arith}
use Rattle.std.proofs.lemmas.List.{drop_more}
use Rattle.csv.specs.Reading.{strip_bom}
use Rattle.wd_tables.proofs.WideFacts.{ends_field, ends_record, joins, passes, starts, wide}
use Rattle.wd_tables.proofs.wide.first_wide.Goals.{in-EndsField+else-ended-most, in-EndsRecord, in-Passes}
use Rattle.wd_tables.proofs.wide.first_wide.Goals as goal

pub loop-byte-init : goal.loop-byte-init
loop-byte-init c = (starts c.args.text.now, omega arith, omega arith)

pub returns-then-ended-most : goal.returns-then-ended-most
returns-then-ended-most c =
    let text = c.args.text.now in
    let i = c.loop-byte.byte-index in
    let all = c.without_mark-byte-items.ensures in
    let size = ap length all in
    let within : i < length (strip_bom text) = omega arith in
    let here = rw (drop_more (strip_bom text) i 0 within) at c.loop-byte.invariant.0 in
    let step = rw (all, c.in-EndsField.is, c.step-next.ensures.opens c.in-EndsField.is) at c.step-next.ensures.step in
    wide text c.loop-byte.number (c.loop-byte.ended + 1) c.args.most (drop (i + 1) (strip_bom text)) (ends_field text _ _ _ _ _ _ here step) (omega arith)

pub loop-byte-preserved : goal.loop-byte-preserved
loop-byte-preserved c =
    let text = c.args.text.now in
    let i = c.loop-byte.byte-index in
    let all = c.without_mark-byte-items.ensures in
    let size = ap length all in
    let within : i < length (strip_bom text) = omega arith in
    let here = rw (drop_more (strip_bom text) i 0 within) at c.loop-byte.invariant.0 in
    let step = rw all at c.step-next.ensures.step in
    elim c.match-effect.branch [
      | in-EndsField+else-ended-most w ↦ rw (w.number-is, w.ended-is) (ends_field text _ _ _ _ _ _ here (rw w.in-EndsField.is at step), omega arith, omega arith)
      | in-EndsRecord w ↦ rw (w.number-is, w.ended-is) (ends_record text _ _ _ _ _ _ here (rw w.in-EndsRecord.is at step), omega arith, omega arith)
      | in-Passes w ↦ rw (w.number-is, w.ended-is) (
        elim w.in-Passes.is [
          | inl is ↦ passes text _ _ _ _ _ _ here (rw is at step)
          | inr is ↦ joins text _ _ _ _ _ _ here (rw is at step)
        ],
        omega arith,
        omega arith,
      )
    ]

pub returns : goal.returns
returns c = grind (arith, common_steps)
