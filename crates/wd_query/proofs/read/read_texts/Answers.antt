use Rattle.std.proofs.Common.{refl}
use Rattle.wd_schema.specs.Schemas.{schema_of}
use Rattle.wd_query.specs.declared.error.TextError.TheVariants as text_error
use Rattle.wd_query.proofs.read.read_texts.Goals as goal

pub returns-in-Ok-read_query-clause-read : goal.returns-in-Ok-read_query-clause-read
returns-in-Ok-read_query-clause-read c =
    let planned = c.in-Ok-read_query.ensures.planned in
    record {
      reads = record {
        tables = schema_of c.in-Ok.schema;
        tokens = planned.tokens;
        tree = planned.tree;
        declares = c.in-Ok.ensures.schema;
        lexed = planned.lexed;
        levelled = planned.spelled.0;
        spelled = planned.spelled.1;
        means = planned.means;
      };
      tables = refl;
      limits = planned.limits;
    }

pub returns-in-Err-clause-given : goal.returns-in-Err-clause-given
returns-in-Err-clause-given c meaning some = c.meaning_or_cause.ensures c.args.schema.now c.args.query.now (text_error.Schema c.in-Err.error) meaning some c.in-Err.ensures.cause

pub returns-in-Err-read_query-clause-given : goal.returns-in-Err-read_query-clause-given
returns-in-Err-read_query-clause-given c meaning some =
    c.meaning_or_cause.ensures c.args.schema.now c.args.query.now (text_error.Query c.in-Err-read_query.error) meaning some (schema_of c.in-Ok.schema, c.in-Ok.ensures.schema, c.in-Err-read_query.ensures.refused)
