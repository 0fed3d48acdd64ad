use Rattle.std.proofs.Common.{◌∙◌, ap, arith}
use Rattle.std.proofs.lemmas.List.{length-set, take_all}
use Rattle.std.proofs.Math.Seq.{map-set_same}
use Rattle.wd_column_store.proofs.Places.{items}
use Rattle.wd_column_store.proofs.Rooms.{one_more}
use Rattle.wd_column_store.proofs.growing.make_room.Goals as goal

pub loop-place-preserved : goal.loop-place-preserved
loop-place-preserved c =
    let columns = c.loop-place.columns.items in
    let place = c.loop-place.place in
    let old = c.index_mut.result.now in
    let new = c.reserve.new.self in
    record {
      kept = map-set_same items columns place new old (c.reserve.ensures.items ∙ ap items c.index_mut.ensures.value) ∙ c.loop-place.invariant.kept;
      long = length-set columns place new ∙ c.loop-place.invariant.long;
      room = one_more columns place new (omega arith) (omega (arith, c.in_ok-reserve.ensures.ok)) c.loop-place.invariant.room;
    }

pub returns-in_err-reserve-clause-kept : goal.returns-in_err-reserve-clause-kept
returns-in_err-reserve-clause-kept c =
    map-set_same items c.loop-place.columns.items c.loop-place.place c.reserve.new.self c.index_mut.result.now (c.reserve.ensures.items ∙ ap items c.index_mut.ensures.value) ∙ c.loop-place.invariant.kept

pub returns-clause-room : goal.returns-clause-room
returns-clause-room c = rw (take_all c.loop-place.place c.loop-place.columns.items (omega arith)) at c.loop-place.invariant.room
