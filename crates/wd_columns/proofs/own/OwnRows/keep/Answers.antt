use Rattle.std.proofs.Common.{◌≡◌, rules, subst}
use Rattle.wd_joined.specs.Alike.{AreAlikeIn}
use Rattle.wd_joined.proofs.Needing.{same_alike}
use Rattle.wd_columns.proofs.own.OwnRows.keep.Goals as goal

pub returns-in-ByRow : goal.returns-in-ByRow
returns-in-ByRow c =
    let same : c.of_rows.result ≡ c.args.self = search rules in
    subst (AreAlikeIn c.args.marks.now c.of_rows.result) same (same_alike c.args.marks.now c.of_rows.result)

pub returns-in-ByColumn : goal.returns-in-ByColumn
returns-in-ByColumn c =
    let same : c.of_columns.result ≡ c.args.self = search rules in
    subst (AreAlikeIn c.args.marks.now c.of_columns.result) same (same_alike c.args.marks.now c.of_columns.result)
