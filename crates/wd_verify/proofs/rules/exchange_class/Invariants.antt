use Rattle.std.proofs.Common.{◌≡◌, drop}
use Rattle.std.specs.Slice.Iter.{iter_rest}
use Rattle.wd_rules.specs.Rules as spec
use Rattle.wd_verify.proofs.rules.exchange_class.Given as goal

abbrev pub invariant-loop-call : goal.invariant-loop-call
invariant-loop-call l = spec.exchange_class (drop l.call-index l.calls) (iter_rest l.later) ≡ spec.exchange_class l.calls l.rules
