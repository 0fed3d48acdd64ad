use Rattle.std.proofs.Common.{◌≡◌, drop}
use Rattle.std.specs.List.{list_all}
use Rattle.wd_rules.specs.Rules.{is_target}
use Rattle.wd_verify.proofs.kept.are_targets.Given as goal

abbrev pub invariant-loop-target : goal.invariant-loop-target
invariant-loop-target l = list_all (is_target l.columns) (drop l.target-index l.targets) ≡ list_all (is_target l.columns) l.targets
