use Rattle.std.proofs.lemmas.Grind.{common_steps}
use Rattle.std.proofs.Common.{arith, sym}
use Rattle.wd_value.specs.Keys.{key_columns}
use Rattle.wd_value.specs.declared.order.SortColumn.{SortColumn}
use Rattle.std.proofs.lemmas.List.{get_or-map, length-map}
use Rattle.wd_candidates.proofs.Marked.{marks_next}
use Rattle.wd_candidates.proofs.marks.mark_keys.Goals as goal

pub loop-key-preserved : goal.loop-key-preserved
loop-key-preserved c =
    let keys = c.args.keys.now in
    marks_next c.args.marks.now c.loop-key.marks c.mark_column.new.marks (key_columns keys) c.loop-key.key-index _ (simp length-map (omega arith))
    (sym (get_or-map (λ (item : SortColumn). item.column) keys c.loop-key.key-index _ 0 (omega arith))) c.loop-key.invariant c.mark_column.ensures

pub returns : goal.returns
returns c = grind (arith, common_steps)
