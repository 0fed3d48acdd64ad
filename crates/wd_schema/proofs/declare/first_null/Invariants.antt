use Rattle.std.proofs.Common.{◌≡◌, drop}
use Rattle.std.specs.List.{list_any}
use Rattle.wd_schema.specs.Declares.{says_null}
use Rattle.wd_schema.proofs.declare.first_null.Given as goal

abbrev pub invariant-loop-r : goal.invariant-loop-r
invariant-loop-r l = list_any (λ r. says_null r.rule) (drop l.r l.rules) ≡ list_any (λ r. says_null r.rule) l.rules
