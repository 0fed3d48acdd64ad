use Rattle.std.proofs.Common.{◌≡◌, [], take}
use Rattle.csv.specs.Records.{fields_of, partial_of}
use Rattle.wd_tables.proofs.answer.put_names.Given as goal

abbrev pub invariant-loop-name : goal.invariant-loop-name
invariant-loop-name l = (fields_of l.fields ≡ take l.name-index l.names) × (partial_of l.fields ≡ [])
