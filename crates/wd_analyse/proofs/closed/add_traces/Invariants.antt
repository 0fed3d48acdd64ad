use Rattle.std.proofs.Common.{◌≡◌, ◌++◌, drop, map}
use Rattle.wd_certificate.specs.Certificates.{trace_of}
use Rattle.wd_analyse.specs.Evidence.{closing_of, trace_by}
use Rattle.wd_analyse.proofs.closed.add_traces.Given as goal

abbrev pub invariant-loop-closed : goal.invariant-loop-closed
invariant-loop-closed l = map trace_of l.traces.items ++ map trace_by (map closing_of (drop l.closed-index l.all)) ≡ map trace_of l.fn.traces.items ++ map trace_by (map closing_of l.all)
