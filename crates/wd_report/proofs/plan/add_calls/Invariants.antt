use Rattle.std.proofs.Common.{◌≡◌, ◌++◌, drop}
use Rattle.std.specs.String.{string_bytes}
use Rattle.wd_report.specs.Plans.{call_lines}
use Rattle.wd_report.proofs.plan.add_calls.Given as goal

-- the calls that are left make up what is to be added
abbrev pub invariant-loop-number : goal.invariant-loop-number
invariant-loop-number l = string_bytes l.text ++ call_lines l.rules.analysis.now l.node l.number (drop l.number l.calls) ≡ string_bytes l.initial.text ++ call_lines l.rules.analysis.now l.node 0 l.calls
