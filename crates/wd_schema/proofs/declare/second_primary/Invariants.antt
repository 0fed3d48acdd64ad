use Rattle.std.proofs.Common.{◌≡◌, ◌+◌, cond, drop, map}
use Rattle.std.specs.List.{count_by}
use Rattle.wd_schema.specs.Declares.{is_primary}
use Rattle.wd_schema.specs.Keys.{said}
use Rattle.wd_schema.proofs.declare.second_primary.Given as goal

abbrev pub invariant-loop-key : goal.invariant-loop-key
invariant-loop-key l = cond l.seen 1 0 + count_by (λ key. is_primary key.words) (map said (drop l.key-index l.keys)) ≡ count_by (λ key. is_primary key.words) (map said l.keys)
