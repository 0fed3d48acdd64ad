use Rattle.std.proofs.Common.{◌≡◌, drop, nat_lt}
use Rattle.std.specs.List.{list_all}
use Rattle.wd_cases_certificates.proofs.named.are_below.Given as goal

abbrev pub invariant-loop-column : goal.invariant-loop-column
invariant-loop-column l = list_all (λ c. nat_lt c l.number) (drop l.column-index l.columns) ≡ list_all (λ c. nat_lt c l.number) l.columns
