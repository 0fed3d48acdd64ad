use Rattle.std.proofs.Common.{◌∙◌, ◌<◌, get_or, length, take, sym, subst, arith}
use Rattle.std.proofs.lemmas.List.{length-map, take_all, take_more}
use Rattle.wd_value.specs.Rows.{row_at}
use Rattle.wd_calls.specs.CallColumns.{ArePut}
use Rattle.wd_calls.specs.Values.{IsRising, IsStart}
use Rattle.wd_calls.proofs.Put.{put_more, put_none}
use Rattle.wd_calls.proofs.Starts.{first_start, next_start}
use Rattle.wd_calls.proofs.call.put_from.Goals as goal

pub loop-place-init : goal.loop-place-init
loop-place-init c = record {
  put = λ frame function source class value is calls. put_none value c.args.column.now;
  start = λ rising within. first_start c.args.part.now.groups.now;
}

pub loop-place-preserved : goal.loop-place-preserved
loop-place-preserved c =
    let groups = c.args.part.now.groups.now in
    let place = c.loop-place.place in
    let positions = c.args.partition.now.positions.now in
    let within : place < length positions = omega arith in
    let starts : IsRising groups → place < length groups → IsStart groups place c.group_start-start.result = λ rising within. c.group_start-start.ensures rising within (c.loop-place.invariant.start rising (omega arith)) in
    record {
      put = λ frame function source class value is calls.
          let long = length-map positions (row_at c.args.partition.now.rows.now) in
          let own = calls place within ∙ sym (c.in_ok-value.ensures frame function source starts class is (omega arith)) in
          subst (λ ps. ArePut value ps c.args.column.now c.put.new.self) (sym (take_more positions place 0 within))
          (put_more value (take place positions) (get_or positions place 0) (c.loop-place.invariant.put frame function source class value is calls) (c.put.ensures value own));
      start = λ rising within. next_start groups place c.group_start-start.result (starts rising (omega arith));
    }

pub returns : goal.returns
returns c = λ frame function source class value is calls.
    let positions = c.args.partition.now.positions.now in
    subst (λ ps. ArePut value ps c.args.column.now c.loop-place.column) (take_all c.loop-place.place positions (omega arith)) (c.loop-place.invariant.put frame function source class value is calls)
