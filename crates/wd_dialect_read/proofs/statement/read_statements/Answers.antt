use Rattle.std.proofs.Common.{◌≡◌, ◌∙◌, ◌-◌, ◌+◌, [], ◌∷◌, ◌++◌, Some, sym, ap, subst, length, map, arith}
use Rattle.std.proofs.lemmas.List.{map_push}
use Rattle.std.proofs.lemmas.Result.{err_from_is_err_and}
use Rattle.wd_lex.specs.Lexed.{kinds_of}
use Rattle.wd_read_cursor.specs.Cursor.{Reads, many, with_front}
use Rattle.wd_read_cursor.proofs.Loops.{many_end, many_fail, many_more}
use Rattle.wd_dialect_read.specs.Said.{StatementSaid, statement_said}
use Rattle.wd_dialect_read.specs.Reading.{statement_at, statement_if, statements_at}
use Rattle.wd_dialect_read.proofs.StatementFacts.{statement_ends, statement_goes}
use Rattle.wd_dialect_read.proofs.statement.read_statements.Goals as goal
use Rattle.wd_dialect_read.proofs.statement.read_statements.Goals.{else-loop-test, then-loop-test+then-is_empty}

pub returns-in_err-statement : goal.returns-in_err-statement
returns-in_err-statement c =
    let kinds = kinds_of c.loop.rest.now in
    let p = err_from_is_err_and c.from_residual.result c.from_residual.ensures.1 in
    rw (p.1, p.2)
    (many_fail c.in_err-statement.field-0.0 statement_if (length c.args.tokens.now) c.loop.counter (map statement_said c.loop.statements.items) kinds (statement_at kinds) (statements_at (kinds_of c.args.tokens.now)) c.loop-test.true
    (statement_goes c.loop.rest.now (sym c.is_empty.ensures ∙ c.if-is_empty.false)) c.in_err-statement.ensures c.loop.invariant)

pub loop-preserved : goal.loop-preserved
loop-preserved c =
    let total = statements_at (kinds_of c.args.tokens.now) in
    let before = c.loop.statements.items in
    let statement = c.in_ok-statement.statement in
    let after = kinds_of c.in_ok-statement.after.now in
    let items : map statement_said c.push.new.self.items ≡ map statement_said before ++ statement_said statement ∷ [] =
    ap (map statement_said) c.in_ok-push.ensures.items ∙ map_push statement_said before statement in
    subst (λ front. with_front front (many statement_if (length c.args.tokens.now - (c.loop.counter + 1)) after) ≡ total) (sym items)
    (many_more statement_if (length c.args.tokens.now) c.loop.counter (map statement_said before) (statement_said statement) (kinds_of c.loop.rest.now) after total c.loop-test.true
    (statement_goes c.loop.rest.now (sym c.is_empty.ensures ∙ c.if-is_empty.false) ∙ ap (λ (read : Reads StatementSaid). Some read) c.in_ok-statement.ensures) c.loop.invariant)

pub returns : goal.returns
returns c =
    let tokens = c.args.tokens.now in
    let kinds = kinds_of c.loop.rest.now in
    let front = map statement_said c.loop.statements.items in
    elim c.loop-test.branch [
      | else-loop-test w ↦ many_end statement_if (length tokens - c.loop.counter) front kinds (statements_at (kinds_of tokens)) (λ h. absurd (omega arith)) c.loop.invariant
      | then-loop-test+then-is_empty w ↦ many_end statement_if (length tokens - c.loop.counter) front kinds (statements_at (kinds_of tokens)) (λ h. statement_ends c.loop.rest.now (sym w.is_empty.ensures ∙ w.if-is_empty.true)) c.loop.invariant
    ]
