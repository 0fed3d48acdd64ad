use Rattle.std.proofs.Common.{◌≡◌, ◌++◌, drop}
use Rattle.wd_analyse.specs.Findings.{marks_of, reasons_of}
use Rattle.wd_analyse.proofs.entry.say_calls.Given as goal

abbrev pub invariant-loop-one : goal.invariant-loop-one
invariant-loop-one l = record {
  call : l.call ≡ l.one-index;
  reasons : l.findings.reasons.items ++ reasons_of l.node l.call (drop l.one-index l.decided) ≡ l.fn.findings.reasons.items ++ reasons_of l.node 0 l.decided;
  marks : l.findings.marks.items ++ marks_of l.node l.call (drop l.one-index l.decided) ≡ l.fn.findings.marks.items ++ marks_of l.node 0 l.decided;
}
