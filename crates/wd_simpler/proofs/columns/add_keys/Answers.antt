use Rattle.std.proofs.lemmas.Grind.{common_steps}
use Rattle.std.proofs.Common.{arith, sym}
use Rattle.std.proofs.lemmas.List.{get_or-map, length-map}
use Rattle.wd_value.specs.Keys.{key_columns}
use Rattle.wd_value.specs.declared.order.SortColumn.{SortColumn}
use Rattle.wd_simpler.proofs.Sets.{also_next}
use Rattle.wd_simpler.proofs.columns.add_keys.Goals as goal

pub loop-key-preserved : goal.loop-key-preserved
loop-key-preserved c =
    let keys = c.args.keys.now in
    also_next c.args.set.now c.loop-key.set c.add_column.new.set (key_columns keys) c.loop-key.key-index _ (simp length-map (omega arith))
    (sym (get_or-map (λ (item : SortColumn). item.column) keys c.loop-key.key-index _ 0 (omega arith))) c.loop-key.invariant c.in_ok-add_column.ensures

pub returns : goal.returns
returns c = grind (arith, common_steps)
