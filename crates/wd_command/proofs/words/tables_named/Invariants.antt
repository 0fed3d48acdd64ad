use Rattle.std.proofs.Common.{map, take}
use Rattle.wd_command.specs.Inputs.{table_by}
use Rattle.wd_command.specs.Words.{AreCut}
use Rattle.wd_command.proofs.words.tables_named.Given as goal

abbrev pub invariant-loop-word : goal.invariant-loop-word
invariant-loop-word l = AreCut (map (λ w. w.now) (take l.word-index l.words)) (map (table_by (λ path. path.now)) l.tables.items)
