use Rattle.std.proofs.Common.{◌≡◌, ◌++◌, length, map}
use Rattle.wd_grouping.specs.Replaced.{replaced_items}
use Rattle.std.specs.Prelude.{option_map}
use Rattle.wd_grouping.specs.Named.{group_key}
use Rattle.wd_grouping.proofs.replace.add_items.Given as goal

abbrev pub invariant-loop-rest : goal.invariant-loop-rest
invariant-loop-rest l = l.written.items ++ replaced_items (map group_key l.fn.keys) (option_map (λ table. table.now) l.fn.table) l.fn.select (map (λ item. item.now) l.rest) ≡ l.initial.written.items ++ replaced_items (map group_key l.fn.keys) (option_map (λ table. table.now) l.fn.table) l.fn.select (map (λ item. item.now) l.fn.items)

abbrev pub decreases-loop-rest : goal.decreases-loop-rest
decreases-loop-rest l = length l.rest
