use Rattle.std.proofs.Common.{◌≡◌, ◌<◌, ◌∙◌, ◌+◌, ◌-◌, ap, get_or, length, map, slice_get, subst, sym}
use Rattle.std.specs.List.{list_all}
use Rattle.wd_step_facts.specs.Facts.{columns_named, is_plain, moved}
use Rattle.wd_node_facts.specs.Seen.{columns_or_none, each_columns}
use Rattle.wd_traces.specs.Known.{kept_side, trace_side}
use Rattle.wd_traces.proofs.Wide.{kept_at, kept_plain}
use Rattle.wd_traces.proofs.known.side_sets.Goals as goal

pub add_columns-requires : goal.add_columns-requires
add_columns-requires c =
    let side = c.args.side.now in
    let kept = c.kept-item.result in
    let h = subst (λ xs. c.loop-number.number < length xs) c.deref-kept-items.ensures.value c.loop-number-test.true in
    let is = subst (λ xs. kept ≡ get_or xs c.loop-number.number kept) c.deref-kept-items.ensures.value c.kept-item.is in
    ap (λ cs. list_all (is_plain (65536 - side.by)) (columns_named cs)) (c.columns_of-columns.ensures ∙ ap (λ xs. columns_or_none (slice_get (each_columns xs) kept.trace)) c.deref.ensures.value)
    ∙ (kept_plain side c.loop-number.number kept c.requires h is).0

pub add_moved-requires : goal.add_moved-requires
add_moved-requires c =
    let side = c.args.side.now in
    let kept = c.kept-item.result in
    let h = subst (λ xs. c.loop-number.number < length xs) c.deref-kept-items.ensures.value c.loop-number-test.true in
    let is = subst (λ xs. kept ≡ get_or xs c.loop-number.number kept) c.deref-kept-items.ensures.value c.kept-item.is in
    ap (list_all (is_plain (65536 - side.by))) c.deref-in-loop-number.ensures.value ∙ (kept_plain side c.loop-number.number kept c.requires h is).1

pub loop-number-preserved : goal.loop-number-preserved
loop-number-preserved c =
    let side = c.args.side.now in
    let kept = c.kept-item.result in
    let number = c.loop-number.number in
    let h = subst (λ xs. number < length xs) c.deref-kept-items.ensures.value c.loop-number-test.true in
    let is = subst (λ xs. kept ≡ get_or xs number kept) c.deref-kept-items.ensures.value c.kept-item.is in
    let columns = c.columns_of-columns.ensures ∙ ap (λ xs. columns_or_none (slice_get (each_columns xs) kept.trace)) c.deref.ensures.value in (
      c.in_ok-add_columns.ensures (trace_side side) (ap (λ cs. map (moved (λ k. side.by + k) side.row) (columns_named cs)) (sym columns)) c.loop-number.invariant.0,
      c.in_ok-add_moved.ensures (kept_side side) (ap (map (moved (λ k. side.by + k) side.row)) (kept_at side.keeps.list.items number kept h is ∙ sym c.deref-in-loop-number.ensures.value)) c.loop-number.invariant.1,
    )
