use Rattle.std.proofs.Common.{◌≡◌, ◌-◌, ◌++◌, filter, length}
use Rattle.std.specs.List.{range_with_len}
use Rattle.wd_close.specs.Reached as spec
use Rattle.wd_close.proofs.counters.done_facts.Given as goal

abbrev pub invariant-loop-fact : goal.invariant-loop-fact
invariant-loop-fact l = l.done.items ++ filter (spec.is_done l.counters) (range_with_len l.fact (length l.counters - l.fact)) ≡ filter (spec.is_done l.counters) (range_with_len 0 (length l.counters))
