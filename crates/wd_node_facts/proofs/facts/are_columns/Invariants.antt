use Rattle.std.proofs.Common.{◌≡◌, drop, nat_lt}
use Rattle.std.specs.List.{list_all}
use Rattle.wd_node_facts.proofs.facts.are_columns.Given as goal

abbrev pub invariant-loop-column : goal.invariant-loop-column
invariant-loop-column l = list_all (λ c. nat_lt c l.columns) (drop l.column-index l.from) ≡ list_all (λ c. nat_lt c l.columns) l.from
