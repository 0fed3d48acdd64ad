use Rattle.std.proofs.Common.{◌≡◌, true, false, sym, ◌∙◌, arith}
use Rattle.wd_value.specs.Rows.{row_at}
use Rattle.wd_join.specs.Matching.{lacks_key}
use Rattle.wd_join.proofs.Holding.{IsAgreeingRange-found, IsAgreeingRange-none}
use Rattle.wd_join.proofs.walk.range_from.Goals as goal

pub returns-then-lacks_key-clause-is : goal.returns-then-lacks_key-clause-is
returns-then-lacks_key-clause-is c =
    let lacking : lacks_key c.args.columns.now (row_at c.args.left.now c.args.position) ≡ true = sym c.lacks_key.ensures ∙ c.if-lacks_key.true in
    IsAgreeingRange-none c.args.columns.now c.args.right.now c.args.order.now (row_at c.args.left.now c.args.position) lacking c.end_from-start.result c.end_from-start.ensures.is.within

pub returns-clause-is : goal.returns-clause-is
returns-clause-is c =
    let whole : lacks_key c.args.columns.now (row_at c.args.left.now c.args.position) ≡ false = sym c.lacks_key.ensures ∙ c.if-lacks_key.false in
    IsAgreeingRange-found c.args.columns.now c.args.right.now c.args.order.now (row_at c.args.left.now c.args.position) c.requires.sorted whole c.end_from-start.result c.end_from-end.result (omega (arith, c.end_from-end.ensures.later, c.max-passed.ensures)) c.end_from-start.ensures.is c.end_from-end.ensures.is
