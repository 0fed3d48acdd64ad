use Rattle.std.proofs.Common.{◌-◌, length, map, arith}
use Rattle.std.proofs.lemmas.List.{map_push}
use Rattle.std.proofs.lemmas.Result.{err_from_is_err_and}
use Rattle.wd_lex.specs.Lexed.{kinds_of}
use Rattle.wd_syntax.specs.View.{view_joined}
use Rattle.wd_read_cursor.specs.Cursor.{many}
use Rattle.wd_read_cursor.proofs.Loops.{many_end, many_may_fail, many_more}
use Rattle.wd_read_expression.specs.Reading.{read}
use Rattle.wd_parse.specs.Reading.{inside_of, join_at}
use Rattle.wd_parse.proofs.query.+select.Goals as goal

pub joins-returns-in_err-item : goal.joins-returns-in_err-item
joins-returns-in_err-item t c =
    let p = err_from_is_err_and c.from_residual.result c.from_residual.ensures.1 in
    rw (p.1, p.2) (many_may_fail c.in_err-item.field-0.0 (join_at (inside_of 200 c.args.depth) (read 200 c.args.depth 8)) (length c.args.tokens.now) c.loop.counter (map view_joined c.loop.items.items) (kinds_of c.loop.rest.now) (many (join_at (inside_of 200 c.args.depth) (read 200 c.args.depth 8)) (length (kinds_of c.args.tokens.now)) (kinds_of c.args.tokens.now)) c.loop-test.true c.in_err-item.ensures c.loop.invariant)

pub joins-returns-in_default : goal.joins-returns-in_default
joins-returns-in_default t c =
    many_end (join_at (inside_of 200 c.args.depth) (read 200 c.args.depth 8)) (length c.args.tokens.now - c.loop.counter) (map view_joined c.loop.items.items) (kinds_of c.loop.rest.now) (many (join_at (inside_of 200 c.args.depth) (read 200 c.args.depth 8)) (length (kinds_of c.args.tokens.now)) (kinds_of c.args.tokens.now)) (λ lt. rw c.in_default.is at c.in_ok-item.ensures) c.loop.invariant

pub joins-loop-preserved : goal.joins-loop-preserved
joins-loop-preserved t c =
    rw (c.in_ok-push.ensures.items, map_push view_joined c.loop.items.items c.in-Some.item)
    (many_more (join_at (inside_of 200 c.args.depth) (read 200 c.args.depth 8)) (length c.args.tokens.now) c.loop.counter (map view_joined c.loop.items.items) (view_joined c.in-Some.item) (kinds_of c.loop.rest.now) (kinds_of c.in-Some.after.now) (many (join_at (inside_of 200 c.args.depth) (read 200 c.args.depth 8)) (length (kinds_of c.args.tokens.now)) (kinds_of c.args.tokens.now)) c.loop-test.true (rw c.in-Some.is at c.in_ok-item.ensures) c.loop.invariant)

pub joins-returns : goal.joins-returns
joins-returns t c =
    many_end (join_at (inside_of 200 c.args.depth) (read 200 c.args.depth 8)) (length c.args.tokens.now - c.loop.counter) (map view_joined c.loop.items.items) (kinds_of c.loop.rest.now) (many (join_at (inside_of 200 c.args.depth) (read 200 c.args.depth 8)) (length (kinds_of c.args.tokens.now)) (kinds_of c.args.tokens.now)) (λ lt. absurd (omega (arith, c.loop-test.false))) c.loop.invariant
