use Rattle.wd_schema.specs.Tables.{table_of}
use Rattle.wd_tables.proofs.LoadFacts.{meets, repeats}
use Rattle.wd_tables.proofs.data.load_columns.Goals as goal

pub returns-in-Some-clause-refused : goal.returns-in-Some-clause-refused
returns-in-Some-clause-refused c =
    let first = rw (c.deref.ensures.value, c.in-Some.is) at c.in_ok-position.ensures in
    repeats (table_of c.args.table.now) c.args.text.now c.in_ok-rows.rows c.in-Some.position c.in_ok-rows.ensures.holds c.in_ok-rows.ensures.fits first

pub returns-in-None-clause-meets : goal.returns-in-None-clause-meets
returns-in-None-clause-meets c =
    let none = rw (c.deref.ensures.value, c.in-None.is) at c.in_ok-position.ensures in
    meets (table_of c.args.table.now) c.in_ok-rows.rows c.in_ok-rows.ensures.fits none
