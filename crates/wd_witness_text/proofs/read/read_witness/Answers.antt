use Rattle.std.proofs.Common.{rules}
use Rattle.wd_schema.specs.Schemas.{schema_of}
use Rattle.wd_witness_text.proofs.Causes.{caused}
use Rattle.wd_witness_text.specs.Refusals.{HasCause}
use Rattle.wd_witness_text.specs.Witnesses.{witness_of}
use Rattle.wd_witness_text.proofs.read.read_witness.Goals as goal

pub returns-in_err-fit_tables-clause-refused : goal.returns-in_err-fit_tables-clause-refused
returns-in_err-fit_tables-clause-refused c =
    let h : HasCause (schema_of c.args.schema.now) c.in_err-fit_tables.field-0.0 c.args.bytes.now = caused _ _ _ (witness_of c.in_ok-witness.witness) c.in_ok-witness.ensures.ok c.in_err-fit_tables.ensures.refused in
    search (rules, h)
