use Rattle.std.proofs.Common.{◌≡◌, ◌++◌, map}
use Rattle.wd_witness_text.proofs.Found.{given}
use Rattle.wd_witness_text.proofs.named.all_tables.Given as goal

abbrev pub invariant-loop-name : goal.invariant-loop-name
invariant-loop-name l = l.fn.found.tables.entries ≡ map given l.tables.entries ++ l.name-iterator
