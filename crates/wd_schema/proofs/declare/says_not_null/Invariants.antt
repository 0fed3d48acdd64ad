use Rattle.std.proofs.Common.{◌≡◌, drop}
use Rattle.std.specs.List.{list_any}
use Rattle.wd_schema.specs.Declares.{says_not_null}
use Rattle.wd_schema.proofs.declare.says_not_null.Given as goal

abbrev pub invariant-loop-rule : goal.invariant-loop-rule
invariant-loop-rule l = list_any (λ r. says_not_null r.rule) (drop l.rule-index l.rules) ≡ list_any (λ r. says_not_null r.rule) l.rules
