use Rattle.std.proofs.Common.{◌≡◌, ◌<◌, ◌≤◌, false, [], length, All, subst, arith, rules}
use Rattle.std.proofs.lemmas.List.{take_all}
use Rattle.std.proofs.lemmas.List.Elements.{All-more}
use Rattle.wd_value.specs.Rows.{column_of, row_at}
use Rattle.wd_plan.specs.Expressions.{is_null}
use Rattle.wd_join.proofs.matching.has_null.Goals as goal

pub loop-position-preserved : goal.loop-position-preserved
loop-position-preserved c =
    let rows = c.args.rows.now in
    let i = c.loop-position.position in
    let within : i < length rows = omega arith in
    let whole : is_null (column_of (row_at rows i) c.args.column) ≡ false = search rules in
    All-more (λ row. is_null (column_of row c.args.column) ≡ false) rows i [] within c.loop-position.invariant whole

pub returns : goal.returns
returns c told =
    let all : length c.args.rows.now ≤ c.loop-position.position = omega arith in
    subst (All (λ row. is_null (column_of row c.args.column) ≡ false)) (take_all c.loop-position.position c.args.rows.now all) c.loop-position.invariant
