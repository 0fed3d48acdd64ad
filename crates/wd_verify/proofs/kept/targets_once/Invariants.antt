use Rattle.std.proofs.Common.{◌≡◌, ◌++◌, drop, map, true}
use Rattle.std.specs.List.{list_all}
use Rattle.wd_sets.specs.Sets.{has}
use Rattle.wd_rules.specs.Rules.{is_target, member_of}
use Rattle.wd_traces.specs.Once.{once, once_after}
use Rattle.wd_verify.proofs.kept.targets_once.Given as goal

abbrev pub invariant-loop-target : goal.invariant-loop-target
invariant-loop-target l =
    (list_all (is_target l.columns) (drop l.target-index l.targets) ≡ true)
    × (l.list.items ++ map member_of (once_after member_of (has l.met) (drop l.target-index l.targets)) ≡ map member_of (once member_of l.targets))
