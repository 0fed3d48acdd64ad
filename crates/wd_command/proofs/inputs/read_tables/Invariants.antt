use Rattle.std.proofs.Common.{map, take}
use Rattle.wd_command.specs.Files.{AreTableTexts, reads}
use Rattle.wd_command.specs.Inputs.{table_by}
use Rattle.wd_command.proofs.inputs.read_tables.Given as goal

abbrev pub invariant-loop-table : goal.invariant-loop-table
invariant-loop-table g l = AreTableTexts (reads (g.F.Files.handed l.initial.files) (g.F.Files.failures l.initial.files))
    (reads (g.F.Files.handed l.files) (g.F.Files.failures l.files)) (map (table_by (λ path. path.now)) (take l.table-index l.tables)) (map (table_by (λ text. text.items)) l.read.items)
