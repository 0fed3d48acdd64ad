use Rattle.std.proofs.Common.{◌≡◌, ◌++◌, length, map}
use Rattle.wd_amounts.specs.Seen.{use_seen}
use Rattle.wd_amounts.specs.Uses.{column_uses}
use Rattle.wd_amounts.proofs.uses.push_all_columns.Given as goal

abbrev pub invariant-loop-rest : goal.invariant-loop-rest
invariant-loop-rest g l =
    let of_column = g.V.NameValue.of_column in
    map use_seen l.uses.items ++ column_uses of_column l.rest ≡ map use_seen l.initial.uses.items ++ column_uses of_column l.statements

abbrev pub decreases-loop-rest : goal.decreases-loop-rest
decreases-loop-rest g l = length l.rest
