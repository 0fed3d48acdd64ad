use Rattle.std.proofs.Common.{◌-◌, length, map}
use Rattle.std.proofs.lemmas.Result.{err_from_is_err_and}
use Rattle.wd_lex.specs.Lexed.{kinds_of}
use Rattle.wd_read_cursor.specs.Cursor.{list_at}
use Rattle.wd_read_cursor.proofs.Loops.{list_more, list_fail, list_end, list_over}
use Rattle.wd_read_cursor.proofs.list.list_at.Goals as goal

pub returns-in_default : goal.returns-in_default
returns-in_default g c =
    list_end c.args.separator (g.R.Reader.item c.args.reader.now) ((length c.in_ok-first.rest.now) - c.loop.counter) (map g.R.Reader.tree c.loop.items.items) (kinds_of c.loop.rest.now) (list_at c.args.separator (g.R.Reader.item c.args.reader.now) (kinds_of c.args.tokens.now)) c.in_default.ensures c.loop.invariant

pub returns-in_err-item : goal.returns-in_err-item
returns-in_err-item g c =
    let p = err_from_is_err_and c.from_residual-in_err-item.result c.from_residual-in_err-item.ensures.1 in
    rw (p.1, p.2) (list_fail c.in_err-item.field-0.0 c.args.separator (g.R.Reader.item c.args.reader.now) (length c.in_ok-first.rest.now) c.loop.counter (map g.R.Reader.tree c.loop.items.items) (kinds_of c.loop.rest.now) (kinds_of c.in-Some.after.now) (list_at c.args.separator (g.R.Reader.item c.args.reader.now) (kinds_of c.args.tokens.now)) c.loop-test.true c.in-Some.ensures c.in_err-item.ensures c.loop.invariant)

pub loop-preserved : goal.loop-preserved
loop-preserved g c =
    rw c.in_ok-push-2.ensures.items (list_more g.R.Reader.tree c.args.separator (g.R.Reader.item c.args.reader.now) (length c.in_ok-first.rest.now) c.loop.counter c.loop.items.items c.in_ok-item.item (kinds_of c.loop.rest.now) (kinds_of c.in-Some.after.now) (kinds_of c.in_ok-item.after.now) (list_at c.args.separator (g.R.Reader.item c.args.reader.now) (kinds_of c.args.tokens.now)) c.loop-test.true c.in-Some.ensures c.in_ok-item.ensures c.loop.invariant)

pub returns : goal.returns
returns g c =
    list_over c.args.separator (g.R.Reader.item c.args.reader.now) (length c.in_ok-first.rest.now) c.loop.counter (map g.R.Reader.tree c.loop.items.items) (kinds_of c.loop.rest.now) (list_at c.args.separator (g.R.Reader.item c.args.reader.now) (kinds_of c.args.tokens.now)) c.loop-test.false c.loop.invariant
