use Rattle.std.proofs.Common.{◌≡◌, ◌++◌, map, take, None}
use Rattle.wd_candidates.proofs.origins.add_calls.Given as goal

abbrev pub invariant-loop-call : goal.invariant-loop-call
invariant-loop-call l = l.origins.items ≡ l.initial.origins.items ++ map (λ call. None) (take l._call-index l.calls)
