use Rattle.std.proofs.Common.{◌≡◌, ◌++◌, drop, map, None}
use Rattle.wd_plan.specs.Plans.{window_of}
use Rattle.wd_analyse.specs.Decisions.{decided_calls}
use Rattle.wd_analyse.specs.Evidence.{closing_of}
use Rattle.wd_analyse.proofs.decided.decide_calls.Given as goal

abbrev pub invariant-loop-call : goal.invariant-loop-call
invariant-loop-call l =
    l.list.items ++ decided_calls (map closing_of l.classes) l.first l.columns l.exchange (drop l.call-index l.window.calls.items)
    ≡ decided_calls (map closing_of l.classes) l.first l.columns None (window_of l.window).calls
