use Rattle.std.proofs.Common.{◌-◌, length, map, refl}
use Rattle.std.proofs.lemmas.Result.{err_from_is_err_and}
use Rattle.wd_lex.specs.Lexed.{kinds_of}
use Rattle.wd_syntax.specs.Tokens.{rank}
use Rattle.wd_lex.specs.declared.token.Terminal.TheVariants as m
use Rattle.wd_syntax.specs.View.{view, view_link, chained, view_arm, view_key}
use Rattle.wd_read_expression.specs.Reading.{read, links, arm_at, key_at}
use Rattle.wd_read_cursor.specs.Cursor.{list_at}
use Rattle.wd_read_expression.proofs.Loops.{links_more, links_fail, links_full, length_kinds}
use Rattle.wd_read_cursor.proofs.Loops.{list_more, list_fail, list_end, list_over}
use Rattle.wd_read_expression.proofs.expression.+expr.Goals as goal

pub links-returns-in_err-right : goal.links-returns-in_err-right
links-returns-in_err-right t c =
    let p = err_from_is_err_and c.from_residual-in_err-right.result c.from_residual-in_err-right.ensures.1 in
    rw (p.1, p.2) (links_fail c.in_err-right.field-0.0 (read 200 c.args.depth (rank c.args.height - 1)) (rank c.args.height) c.loop.counter (chained (view c.args.first.value) (map view_link c.loop.items.items)) (kinds_of c.loop.rest.now) c.in-Some.operator (kinds_of c.in-Some.after.now) (links (read 200 c.args.depth (rank c.args.height - 1)) (rank c.args.height) 200 (view c.args.first.value) (kinds_of c.args.tokens.now)) c.loop-test.true c.in-Some.ensures (rw c.tighter.ensures at c.in_err-right.ensures) c.loop.invariant)

pub links-loop-preserved : goal.links-loop-preserved
links-loop-preserved t c =
    rw c.in_ok-push.ensures.items (links_more (read 200 c.args.depth (rank c.args.height - 1)) (rank c.args.height) c.loop.counter (view c.args.first.value) c.loop.items.items (record { operator = c.in-Some.operator; operand = c.into_inner.result }) (kinds_of c.loop.rest.now) (kinds_of c.in-Some.after.now) (kinds_of c.in_ok-right.after.now) (links (read 200 c.args.depth (rank c.args.height - 1)) (rank c.args.height) 200 (view c.args.first.value) (kinds_of c.args.tokens.now)) c.loop-test.true c.in-Some.ensures (rw c.into_inner.ensures (rw c.tighter.ensures at c.in_ok-right.ensures)) c.loop.invariant)

pub links-returns-in-Some-operator_at : goal.links-returns-in-Some-operator_at
links-returns-in-Some-operator_at t c =
    links_full (read 200 c.args.depth (rank c.args.height - 1)) (rank c.args.height) c.loop.counter (chained (view c.args.first.value) (map view_link c.loop.items.items)) (kinds_of c.loop.rest.now) (c.in-Some-operator_at.field-0.0, kinds_of c.in-Some-operator_at.field-0.1.now) (length c.loop.rest.now) (links (read 200 c.args.depth (rank c.args.height - 1)) (rank c.args.height) 200 (view c.args.first.value) (kinds_of c.args.tokens.now)) (length_kinds c.loop.rest.now) c.loop-test.false c.in-Some-operator_at.ensures c.loop.invariant

pub list-returns-in_default : goal.list-returns-in_default
list-returns-in_default t c =
    list_end m.Comma (read 200 c.args.depth 8) ((length c.in_ok-first.rest.now) - c.loop.counter) (map view c.loop.items.items) (kinds_of c.loop.rest.now) (list_at m.Comma (read 200 c.args.depth 8) (kinds_of c.args.tokens.now)) c.in_default.ensures c.loop.invariant

pub list-returns-in_err-item : goal.list-returns-in_err-item
list-returns-in_err-item t c =
    let p = err_from_is_err_and c.from_residual-in_err-item.result c.from_residual-in_err-item.ensures.1 in
    rw (p.1, p.2) (list_fail c.in_err-item.field-0.0 m.Comma (read 200 c.args.depth 8) (length c.in_ok-first.rest.now) c.loop.counter (map view c.loop.items.items) (kinds_of c.loop.rest.now) (kinds_of c.in-Some.after.now) (list_at m.Comma (read 200 c.args.depth 8) (kinds_of c.args.tokens.now)) c.loop-test.true c.in-Some.ensures c.in_err-item.ensures c.loop.invariant)

pub list-loop-preserved : goal.list-loop-preserved
list-loop-preserved t c =
    rw c.in_ok-push-2.ensures.items (list_more view m.Comma (read 200 c.args.depth 8) (length c.in_ok-first.rest.now) c.loop.counter c.loop.items.items c.into_inner-in-loop.result (kinds_of c.loop.rest.now) (kinds_of c.in-Some.after.now) (kinds_of c.in_ok-item.after.now) (list_at m.Comma (read 200 c.args.depth 8) (kinds_of c.args.tokens.now)) c.loop-test.true c.in-Some.ensures (rw c.into_inner-in-loop.ensures c.in_ok-item.ensures) c.loop.invariant)

pub list-returns : goal.list-returns
list-returns t c =
    list_over m.Comma (read 200 c.args.depth 8) (length c.in_ok-first.rest.now) c.loop.counter (map view c.loop.items.items) (kinds_of c.loop.rest.now) (list_at m.Comma (read 200 c.args.depth 8) (kinds_of c.args.tokens.now)) c.loop-test.false c.loop.invariant

pub arms-returns-in_default : goal.arms-returns-in_default
arms-returns-in_default t c =
    list_end m.When (arm_at (read 200 c.args.depth 8)) ((length c.in_ok-first.rest.now) - c.loop.counter) (map view_arm c.loop.items.items) (kinds_of c.loop.rest.now) (list_at m.When (arm_at (read 200 c.args.depth 8)) (kinds_of c.args.tokens.now)) c.in_default.ensures c.loop.invariant

pub arms-returns-in_err-item : goal.arms-returns-in_err-item
arms-returns-in_err-item t c =
    let p = err_from_is_err_and c.from_residual-in_err-item.result c.from_residual-in_err-item.ensures.1 in
    rw (p.1, p.2) (list_fail c.in_err-item.field-0.0 m.When (arm_at (read 200 c.args.depth 8)) (length c.in_ok-first.rest.now) c.loop.counter (map view_arm c.loop.items.items) (kinds_of c.loop.rest.now) (kinds_of c.in-Some.after.now) (list_at m.When (arm_at (read 200 c.args.depth 8)) (kinds_of c.args.tokens.now)) c.loop-test.true c.in-Some.ensures c.in_err-item.ensures c.loop.invariant)

pub arms-loop-preserved : goal.arms-loop-preserved
arms-loop-preserved t c =
    rw c.in_ok-push-2.ensures.items (list_more view_arm m.When (arm_at (read 200 c.args.depth 8)) (length c.in_ok-first.rest.now) c.loop.counter c.loop.items.items c.in_ok-item.item (kinds_of c.loop.rest.now) (kinds_of c.in-Some.after.now) (kinds_of c.in_ok-item.after.now) (list_at m.When (arm_at (read 200 c.args.depth 8)) (kinds_of c.args.tokens.now)) c.loop-test.true c.in-Some.ensures c.in_ok-item.ensures c.loop.invariant)

pub arms-returns : goal.arms-returns
arms-returns t c =
    list_over m.When (arm_at (read 200 c.args.depth 8)) (length c.in_ok-first.rest.now) c.loop.counter (map view_arm c.loop.items.items) (kinds_of c.loop.rest.now) (list_at m.When (arm_at (read 200 c.args.depth 8)) (kinds_of c.args.tokens.now)) c.loop-test.false c.loop.invariant

pub keys-returns-in_default : goal.keys-returns-in_default
keys-returns-in_default t c =
    list_end m.Comma (key_at (read 200 c.args.depth 8)) ((length c.in_ok-first.rest.now) - c.loop.counter) (map view_key c.loop.items.items) (kinds_of c.loop.rest.now) (list_at m.Comma (key_at (read 200 c.args.depth 8)) (kinds_of c.args.tokens.now)) c.in_default.ensures c.loop.invariant

pub keys-returns-in_err-item : goal.keys-returns-in_err-item
keys-returns-in_err-item t c =
    let p = err_from_is_err_and c.from_residual-in_err-item.result c.from_residual-in_err-item.ensures.1 in
    rw (p.1, p.2) (list_fail c.in_err-item.field-0.0 m.Comma (key_at (read 200 c.args.depth 8)) (length c.in_ok-first.rest.now) c.loop.counter (map view_key c.loop.items.items) (kinds_of c.loop.rest.now) (kinds_of c.in-Some.after.now) (list_at m.Comma (key_at (read 200 c.args.depth 8)) (kinds_of c.args.tokens.now)) c.loop-test.true c.in-Some.ensures c.in_err-item.ensures c.loop.invariant)

pub keys-loop-preserved : goal.keys-loop-preserved
keys-loop-preserved t c =
    rw c.in_ok-push-2.ensures.items (list_more view_key m.Comma (key_at (read 200 c.args.depth 8)) (length c.in_ok-first.rest.now) c.loop.counter c.loop.items.items c.in_ok-item.item (kinds_of c.loop.rest.now) (kinds_of c.in-Some.after.now) (kinds_of c.in_ok-item.after.now) (list_at m.Comma (key_at (read 200 c.args.depth 8)) (kinds_of c.args.tokens.now)) c.loop-test.true c.in-Some.ensures c.in_ok-item.ensures c.loop.invariant)

pub keys-returns : goal.keys-returns
keys-returns t c =
    list_over m.Comma (key_at (read 200 c.args.depth 8)) (length c.in_ok-first.rest.now) c.loop.counter (map view_key c.loop.items.items) (kinds_of c.loop.rest.now) (list_at m.Comma (key_at (read 200 c.args.depth 8)) (kinds_of c.args.tokens.now)) c.loop-test.false c.loop.invariant

pub links-loop-init : goal.links-loop-init
links-loop-init t c = rw c.new-items.ensures.items refl
