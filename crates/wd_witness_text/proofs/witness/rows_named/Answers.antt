use Rattle.std.proofs.Common.{◌∙◌, ap}
use Rattle.wd_value.specs.Rows.{rows_of}
use Rattle.wd_witness_text.proofs.Tables.{found_rows, rows_at_key}
use Rattle.wd_witness_text.proofs.witness.rows_named.Goals as goal

pub returns-in-Some : goal.returns-in-Some
returns-in-Some c = ap rows_of c.deref.ensures.value ∙ ap rows_at_key c.in-Some.ensures.value ∙ found_rows c.args.tables.now.entries c.args.name.now

pub returns-in-None : goal.returns-in-None
returns-in-None c = ap rows_at_key c.in-None.ensures.value ∙ found_rows c.args.tables.now.entries c.args.name.now
