use Rattle.std.proofs.Common.{◌≡◌, ◌∙◌, ◌-◌, length, map, Ok, MatchOption, subst}
use Rattle.wd_lex.specs.Lexed.{IsLexed, kinds_of}
use Rattle.wd_read_cursor.specs.Given.{Fails, left_of}
use Rattle.wd_dialect_read.specs.Said.{statement_said}
use Rattle.wd_dialect_read.specs.Reading.{statements_at}
use Rattle.wd_dialect_schema.specs.declared.error.DialectError.TheVariants as e
use Rattle.wd_dialect_schema.proofs.CauseFacts.{stops_there}
use Rattle.wd_dialect_schema.proofs.text.statements_of.Goals as goal

pub returns-in-Ok-read_statements-clause-says : goal.returns-in-Ok-read_statements-clause-says
returns-in-Ok-read_statements-clause-says c =
    let tokens = c.in-Ok.tokens.items in
    let rest = kinds_of c.in-Ok-read_statements.field-0-1.now in
    let said = map statement_said c.in-Ok-read_statements.statements.items in
    record {
      tokens = tokens;
      lexed = subst (λ t. IsLexed t tokens) (c.deref.ensures.value ∙ c.in_ok-other.ensures.masked) c.in-Ok.ensures.tokens;
      rest = rest;
      read = subst (λ ts. statements_at (kinds_of ts) ≡ Ok (said, rest)) c.deref-2.ensures.value c.in-Ok-read_statements.ensures;
    }

pub returns-clause-cause : goal.returns-clause-cause
returns-clause-cause c =
    let tokens = c.in-Ok.tokens.items in
    let refusal = c.in-Err-read_statements.refusal in
    let answer = c.refusal_at.result in
    stops_there c.args.text.now tokens refusal answer (subst (λ t. IsLexed t tokens) (c.deref.ensures.value ∙ c.in_ok-other.ensures.masked) c.in-Ok.ensures.tokens)
    (subst (λ ts. Fails refusal (statements_at (kinds_of ts))) c.deref-2.ensures.value c.in-Err-read_statements.ensures)
    (subst (λ ts. MatchOption (left_of refusal) (answer ≡ e.OutOfMemory) (λ left. answer ≡ e.Unexpected (length (kinds_of ts) - left))) c.deref-in-Err-read_statements.ensures.value c.refusal_at.ensures)
