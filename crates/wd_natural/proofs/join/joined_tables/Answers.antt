use Rattle.std.proofs.Common.{rules, ◌≡◌, map, true, false, Some, None}
use Rattle.std.proofs.lemmas.List.{map_push}
use Rattle.wd_schema.specs.Schemas.{schema_of}
use Rattle.wd_using.specs.Joins.{is_end}
use Rattle.wd_natural.specs.Naturals.{joined_tables, most_tables, table_at}
use Rattle.wd_natural.specs.Named.{natural_table}
use Rattle.wd_natural.proofs.JoinFacts.{tables_last, tables_more, tables_none, tables_over}
use Rattle.wd_natural.proofs.join.joined_tables.Goals as goal

pub returns-in-None : goal.returns-in-None
returns-in-None c =
    let schema = schema_of c.args.schema.now in
    let none : table_at schema c.loop.rest.now ≡ None = search rules in
    tables_none schema most_tables c.loop.counter (map natural_table c.loop.tables.items) c.loop.rest.now (joined_tables schema most_tables c.args.tokens.now) c.loop-test.true none c.loop.invariant

pub returns-then-is_end : goal.returns-then-is_end
returns-then-is_end c =
    let schema = schema_of c.args.schema.now in
    let read : table_at schema c.loop.rest.now ≡ Some (natural_table c.in-Some.table, c.in-Some.after.now) = search rules in
    let ended : is_end c.in-Some.after.now ≡ true = search rules in
    rw (c.in_ok-push-in-Some.ensures.items, map_push natural_table c.loop.tables.items c.in-Some.table)
    (tables_last schema most_tables c.loop.counter (map natural_table c.loop.tables.items) c.loop.rest.now c.in-Some.after.now (natural_table c.in-Some.table) (joined_tables schema most_tables c.args.tokens.now) c.loop-test.true read ended c.loop.invariant)

pub loop-preserved : goal.loop-preserved
loop-preserved c =
    let schema = schema_of c.args.schema.now in
    let read : table_at schema c.loop.rest.now ≡ Some (natural_table c.in-Some.table, c.in-Some.after.now) = search rules in
    let goes : is_end c.in-Some.after.now ≡ false = search rules in
    rw (c.in_ok-push-in-Some.ensures.items, map_push natural_table c.loop.tables.items c.in-Some.table)
    (tables_more schema most_tables c.loop.counter (map natural_table c.loop.tables.items) c.loop.rest.now c.in-Some.after.now (natural_table c.in-Some.table) (joined_tables schema most_tables c.args.tokens.now) c.loop-test.true read goes c.loop.invariant)

pub returns : goal.returns
returns c = tables_over (schema_of c.args.schema.now) most_tables c.loop.counter (map natural_table c.loop.tables.items) c.loop.rest.now (joined_tables (schema_of c.args.schema.now) most_tables c.args.tokens.now) c.loop-test.false c.loop.invariant
