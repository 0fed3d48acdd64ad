use Rattle.std.proofs.Common.{◌≡◌, ◌<◌, ◌≤◌, [], length, All, subst, arith}
use Rattle.std.proofs.lemmas.List.{take_all}
use Rattle.std.proofs.lemmas.List.Elements.{All-more}
use Rattle.wd_value.specs.Rows.{row_at}
use Rattle.wd_join.proofs.matching.are_wide.Goals as goal

pub loop-position-preserved : goal.loop-position-preserved
loop-position-preserved c =
    let rows = c.args.rows.now in
    let i = c.loop-position.position in
    let within : i < length rows = omega arith in
    let wide : length (row_at rows i) ≡ c.args.width = omega arith in
    All-more (λ row. length row ≡ c.args.width) rows i [] within c.loop-position.invariant wide

pub returns-clause-wide : goal.returns-clause-wide
returns-clause-wide c told =
    let all : length c.args.rows.now ≤ c.loop-position.position = omega arith in
    subst (All (λ row. length row ≡ c.args.width)) (take_all c.loop-position.position c.args.rows.now all) c.loop-position.invariant
