use Rattle.std.proofs.Common.{◌∙◌, ◌-◌, sym, length, refl, arith}
use Rattle.std.proofs.lemmas.Result.{err_from_is_err_and}
use Rattle.wd_lex.specs.Lexed.{kinds_of}
use Rattle.wd_read_cursor.proofs.Loops.{many_end, many_fail, many_more}
use Rattle.wd_read_statements.specs.Reading.{column_rule_at, rule_if, rules_at}
use Rattle.wd_read_statements.proofs.ReaderFacts.{rule_ends, rule_goes}
use Rattle.wd_read_statements.proofs.reader.read_rules.Goals as goal
use Rattle.wd_read_statements.proofs.reader.read_rules.Goals.{else-loop-test, then-loop-test+then-ends_column}

pub returns-in_err-rule : goal.returns-in_err-rule
returns-in_err-rule c =
    let kinds = kinds_of c.loop.rest.now in
    let p = err_from_is_err_and c.from_residual.result c.from_residual.ensures.1 in
    rw (p.1, p.2)
    (many_fail c.in_err-rule.field-0.0 rule_if (length c.args.tokens.now) c.loop.counter c.loop.rules.items kinds (column_rule_at kinds) (rules_at (kinds_of c.args.tokens.now)) c.loop-test.true
    (rule_goes kinds (sym c.ends_column.ensures ∙ c.if-ends_column.false)) c.in_err-rule.ensures c.loop.invariant)

pub loop-preserved : goal.loop-preserved
loop-preserved c =
    let kinds = kinds_of c.loop.rest.now in
    rw c.in_ok-push.ensures.items
    (many_more rule_if (length c.args.tokens.now) c.loop.counter c.loop.rules.items c.in_ok-rule.rule kinds (kinds_of c.in_ok-rule.after.now) (rules_at (kinds_of c.args.tokens.now)) c.loop-test.true
    (rw (rule_goes kinds (sym c.ends_column.ensures ∙ c.if-ends_column.false), c.in_ok-rule.ensures) refl) c.loop.invariant)

pub returns : goal.returns
returns c =
    let tokens = c.args.tokens.now in
    let kinds = kinds_of c.loop.rest.now in
    elim c.loop-test.branch [
      | else-loop-test w ↦ many_end rule_if (length tokens - c.loop.counter) c.loop.rules.items kinds (rules_at (kinds_of tokens)) (λ h. absurd (omega arith)) c.loop.invariant
      | then-loop-test+then-ends_column w ↦ many_end rule_if (length tokens - c.loop.counter) c.loop.rules.items kinds (rules_at (kinds_of tokens)) (λ h. rule_ends kinds (sym w.ends_column.ensures ∙ w.if-ends_column.true)) c.loop.invariant
    ]
