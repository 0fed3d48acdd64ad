use Rattle.std.proofs.Common.{◌≡◌, drop, length}
use Rattle.std.specs.Slice.Iter.{iter_rest}
use Rattle.wd_plan.specs.Plans.{NameBelow, window_of}
use Rattle.wd_rules.specs.Rules.{calls_refusal}
use Rattle.wd_verify.specs.Shown.{evidence_of}
use Rattle.wd_verify.proofs.rules.check_calls.Given as goal

abbrev pub invariant-loop-call : goal.invariant-loop-call
invariant-loop-call l = record {
  named : NameBelow (length (window_of l.window).classes) (drop l.call-index l.window.calls.items);
  refusal : calls_refusal (evidence_of l.evidence) l.columns (window_of l.window) (drop l.call-index l.window.calls.items) (iter_rest l.later) ≡ calls_refusal (evidence_of l.evidence) l.columns (window_of l.window) l.window.calls.items l.rules;
}
