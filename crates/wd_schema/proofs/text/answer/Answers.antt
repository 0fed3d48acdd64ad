use Rattle.std.proofs.Common.{sym, subst, map}
use Rattle.std.proofs.lemmas.Result.{err_from_is_err_and}
use Rattle.wd_schema.specs.Texts.{HasCause}
use Rattle.wd_read_statements.specs.Written.{schema_tree, table_tree}
use Rattle.wd_schema.proofs.TextFacts.{broken_is_cause}
use Rattle.wd_schema.proofs.text.answer.Goals as goal

pub returns-in-Err-clause-cause : goal.returns-in-Err-clause-cause
returns-in-Err-clause-cause c = λ ne.
    let both = c.lexer_refusal.ensures ne in
    subst (HasCause c.args.text.now) (sym both.1) (c.in-Err.ensures.cause both.0)

pub returns-in_err-schema-clause-cause : goal.returns-in_err-schema-clause-cause
returns-in_err-schema-clause-cause c =
    let p = err_from_is_err_and c.from_residual.result c.from_residual.ensures.1 in
    let text = c.args.text.now in
    let refusal = c.in_err-schema.field-0.0 in
    rw (p.1, p.2)
    (λ ne. broken_is_cause text refusal (record {
      tokens = c.in-Ok.tokens.items;
      tables = map table_tree c.in-Ok-read_statements.statements.tables.items;
      lexed = c.in-Ok.ensures.tokens;
      begins = rw c.deref.ensures.value at c.in-Ok-read_statements.ensures.statements.begins;
      broken = rw c.deref-2.ensures.value at (c.in_err-schema.ensures.refused ne);
    }))

pub returns-in-Some-clause-cause : goal.returns-in-Some-clause-cause
returns-in-Some-clause-cause c = λ ne. record {
  tokens = c.in-Ok.tokens.items;
  lexed = c.in-Ok.ensures.tokens;
  stops = rw (c.deref.ensures.value, c.in-Some.is) at c.in-Ok-read_statements.ensures.unexpected;
}

pub returns-clause-schema : goal.returns-clause-schema
returns-clause-schema c =
    let statements = c.in-Ok-read_statements.statements in
    record {
      tokens = c.in-Ok.tokens.items;
      tree = schema_tree statements.tables.items statements.ended;
      lexed = c.in-Ok.ensures.tokens;
      spelled = rw c.deref.ensures.value at (c.in-Ok-read_statements.ensures.spelled c.in-None.is);
      whole = c.in-Ok-read_statements.ensures.schema c.in-None.is;
      kept = rw c.deref-2.ensures.value at c.in_ok-schema.ensures.kept;
      are = rw c.deref-2.ensures.value at c.in_ok-schema.ensures.tables;
    }
