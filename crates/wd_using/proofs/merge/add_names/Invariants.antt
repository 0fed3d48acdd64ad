use Rattle.std.proofs.Common.{◌≡◌, ◌++◌, length, map}
use Rattle.wd_using.proofs.merge.add_names.Given as goal

abbrev pub invariant-loop-names : goal.invariant-loop-names
invariant-loop-names l = map (λ name. name.now) l.written.items ++ map (λ name. name.now) l.names ≡ map (λ name. name.now) l.initial.written.items ++ map (λ name. name.now) l.initial.names

abbrev pub decreases-loop-names : goal.decreases-loop-names
decreases-loop-names l = length l.names
