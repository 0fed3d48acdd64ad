use Rattle.std.proofs.Common.{◌≡◌, drop}
use Rattle.std.specs.Slice.Iter.{iter_rest}
use Rattle.wd_rules.specs.Rules as spec
use Rattle.wd_verify.proofs.rules.exchange_only.Given as goal

abbrev pub invariant-loop-call : goal.invariant-loop-call
invariant-loop-call l = spec.exchange_only l.class (drop l.call-index l.calls) (iter_rest l.later) ≡ spec.exchange_only l.class l.calls l.rules
