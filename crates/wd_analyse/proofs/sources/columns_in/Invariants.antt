use Rattle.std.proofs.Common.{◌≡◌, ◌++◌, drop}
use Rattle.wd_analyse.specs.Sources.{columns_in}
use Rattle.wd_analyse.proofs.sources.columns_in.Given as goal

abbrev pub invariant-loop-member : goal.invariant-loop-member
invariant-loop-member l = l.list.items ++ columns_in (drop l.member-index l.members) ≡ columns_in l.members
