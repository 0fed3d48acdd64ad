use Rattle.std.proofs.Common.{length, refl}
use Rattle.std.proofs.lemmas.Result.{err_from_is_err_and}
use Rattle.wd_lex.specs.Lexed.{kinds_of}
use Rattle.wd_syntax.specs.View.{view, tested}
use Rattle.wd_read_expression.specs.Reading.{tests}
use Rattle.wd_read_expression.proofs.Loops.{tests_more, tests_fail, tests_full, length_kinds}
use Rattle.wd_read_expression.proofs.null_test.tests.Goals as goal

pub returns-in_err-not : goal.returns-in_err-not
returns-in_err-not c =
    let p = err_from_is_err_and c.from_residual-in_err-not.result c.from_residual-in_err-not.ensures.1 in
    rw (p.1, p.2) (tests_fail c.in_err-not.field-0.0 c.loop.counter (tested (view c.args.operand.value) c.loop.items.items) (kinds_of c.loop.rest.now) (kinds_of c.in-Some.after.now) (tests 200 (view c.args.operand.value) (kinds_of c.args.tokens.now)) c.loop-test.true c.in-Some.ensures c.in_err-not.ensures c.loop.invariant)

pub loop-preserved : goal.loop-preserved
loop-preserved c =
    rw c.in_ok-push.ensures.items (tests_more c.loop.counter (view c.args.operand.value) c.loop.items.items c.in_ok-not.not (kinds_of c.loop.rest.now) (kinds_of c.in-Some.after.now) (kinds_of c.in_ok-not.after.now) (tests 200 (view c.args.operand.value) (kinds_of c.args.tokens.now)) c.loop-test.true c.in-Some.ensures c.in_ok-not.ensures c.loop.invariant)

pub returns-in-Some-eat : goal.returns-in-Some-eat
returns-in-Some-eat c =
    tests_full c.loop.counter (tested (view c.args.operand.value) c.loop.items.items) (kinds_of c.loop.rest.now) (kinds_of c.in-Some-eat.field-0.now) (length c.loop.rest.now) (tests 200 (view c.args.operand.value) (kinds_of c.args.tokens.now)) (length_kinds c.loop.rest.now) c.loop-test.false c.in-Some-eat.ensures c.loop.invariant

pub loop-init : goal.loop-init
loop-init c = rw c.new-items.ensures.items refl
