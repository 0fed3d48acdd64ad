use Rattle.wd_schema.specs.Schemas.{schema_of}
use Rattle.wd_respell.proofs.LeftFacts.{left_unread, no_tokens}
use Rattle.wd_respell.proofs.query.respell_masked.Goals as goal

pub returns-in_default : goal.returns-in_default
returns-in_default c = record {
  respelled = tt;
  left = left_unread (schema_of c.args.schema.now) c.args.statements.now c.args.query.now c.args.text.now c.requires
      (λ tokens lexed. no_tokens c.in-Err.error tokens c.in_default.not-OutOfMemory (c.in-Err.ensures.lexed tokens lexed));
}
