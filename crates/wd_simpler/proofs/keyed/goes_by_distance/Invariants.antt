use Rattle.std.proofs.Common.{◌≡◌, drop}
use Rattle.std.specs.List.{list_any}
use Rattle.wd_plan.specs.declared.window.Call.{Call}
use Rattle.wd_simpler.specs.Keyed.{goes_by_distance as frame_goes}
use Rattle.wd_simpler.proofs.keyed.goes_by_distance.Given as goal

abbrev pub invariant-loop-call : goal.invariant-loop-call
invariant-loop-call l = list_any (λ (call : Call). frame_goes call.frame) (drop l.call-index l.calls) ≡ list_any (λ (call : Call). frame_goes call.frame) l.calls
