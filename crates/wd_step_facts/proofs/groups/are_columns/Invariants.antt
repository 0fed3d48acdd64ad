use Rattle.std.proofs.Common.{◌≡◌, drop}
use Rattle.std.specs.List.{list_all}
use Rattle.wd_step_facts.specs.Facts.{is_column}
use Rattle.wd_step_facts.proofs.groups.are_columns.Given as goal

abbrev pub invariant-loop-member : goal.invariant-loop-member
invariant-loop-member l = list_all (is_column l.columns) (drop l.member-index l.list) ≡ list_all (is_column l.columns) l.list
