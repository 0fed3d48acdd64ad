use Rattle.std.proofs.Common.{◌∙◌, refl, sym}
use Rattle.wd_value.specs.Rows.{rows_of}
use Rattle.wd_column_store.proofs.Pushes.{none, one_more, step}
use Rattle.wd_column_store.proofs.growing.push_row.Goals as goal

pub loop-value-init : goal.loop-value-init
loop-value-init c = (refl, c.make_room.ensures.kept ∙ sym (none (rows_of c.args.columns.now.items)), c.in_ok-make_room.ensures.room)

pub loop-value-preserved : goal.loop-value-preserved
loop-value-preserved c =
    let done = c.loop-value.yielded in
    let value = c.in-Some.value in
    let at = c.loop-value.invariant.0 in (
      one_more done value c.loop-value.place at,
      step (rows_of c.args.columns.now.items) c.loop-value.columns.items c.push_at.new.columns.items done value c.loop-value.place at c.loop-value.invariant.1 c.push_at.ensures.within c.push_at.ensures.past,
      c.push_at.ensures.room,
    )
