use Rattle.std.proofs.Common.{◌≡◌, drop}
use Rattle.std.specs.List.{list_all}
use Rattle.wd_sets.specs.Sets.{has_column}
use Rattle.wd_verify.proofs.rules.starts_among.Given as goal

abbrev pub invariant-loop-column : goal.invariant-loop-column
invariant-loop-column l = list_all (has_column l.among) (drop l.column-index l.from) ≡ list_all (has_column l.among) l.from
