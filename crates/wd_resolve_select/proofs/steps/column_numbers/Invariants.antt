use Rattle.std.proofs.Common.{◌≡◌, map, nat_eq, take}
use Rattle.wd_resolve_list.specs.SelectLists.{number_in}
use Rattle.wd_resolve_select.proofs.steps.column_numbers.Given as goal

abbrev pub invariant-loop-argument : goal.invariant-loop-argument
invariant-loop-argument l = l.numbers.items ≡ map (number_in nat_eq l.columns) (take l.argument-index l.arguments)
