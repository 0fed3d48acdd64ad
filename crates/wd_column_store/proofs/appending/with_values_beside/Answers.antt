use Rattle.std.proofs.Common.{◌≡◌, ◌∙◌, refl, length, sym, arith, rules}
use Rattle.std.proofs.lemmas.List.{length-map}
use Rattle.std.specs.Vec.Iter.{into_iter_items, into_iter_len}
use Rattle.wd_value.specs.Rows.{rows_of}
use Rattle.wd_column_store.proofs.Places.{items}
use Rattle.wd_column_store.proofs.Beside.{ArePushed-all, ArePushed-more, ArePushed-none, AreLeft-all, next_left}
use Rattle.wd_column_store.proofs.appending.with_values_beside.Goals as goal

pub loop-position-init : goal.loop-position-init
loop-position-init c =
    let many : into_iter_len c.into_iter-left.result ≡ length c.args.values.items = search rules in
    record {
      long = refl;
      left = AreLeft-all c.args.values.items (into_iter_items c.into_iter-left.result) (into_iter_len c.into_iter-left.result) c.into_iter-left.ensures.rest many;
      rows = ArePushed-none (rows_of c.args.rows.items) c.args.values.items;
    }

pub loop-position-preserved : goal.loop-position-preserved
loop-position-preserved c =
    let at = c.loop-position in
    let given = rows_of c.args.rows.items in
    let values = c.args.values.items in
    let old = at.rows.items in
    let new = c.push_after.new.rows.items in
    let long = c.in_ok-push_after.ensures.long in
    let next = next_left values at.position (into_iter_items at.left) (into_iter_items c.next.new.self) (into_iter_len at.left) (into_iter_len c.next.new.self) c.next.result at.invariant.left c.next.ensures.items c.next.ensures.cases in
    record {
      long = long ∙ at.invariant.long;
      left = next.others;
      rows = ArePushed-more given values at.position (rows_of old) at.invariant.rows (rows_of new) c.unwrap_or-value.result (length-map new items ∙ long ∙ sym (length-map old items))
          (c.unwrap_or-value.ensures ∙ next.is) c.in_ok-push_after.ensures.pushed c.in_ok-push_after.ensures.others;
    }

pub returns : goal.returns
returns c =
    let given = rows_of c.args.rows.items in
    let many = length-map c.args.rows.items items in
    ArePushed-all given c.args.values.items c.loop-position.position (rows_of c.loop-position.rows.items) c.loop-position.invariant.rows (omega arith)
