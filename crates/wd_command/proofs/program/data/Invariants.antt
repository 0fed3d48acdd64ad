use Rattle.std.proofs.Common.{◌≡◌, map, take}
use Rattle.wd_run.specs.Runs.{data_of}
use Rattle.wd_command.specs.Inputs.{table_by}
use Rattle.wd_command.proofs.program.data.Given as goal

abbrev pub invariant-loop-table : goal.invariant-loop-table
invariant-loop-table l = data_of l.data.items ≡ map (table_by (λ text. text.items)) (take l.table-index l.tables)
