use Rattle.std.proofs.Common.{rules, ◌≡◌, [], ◌∷◌, ◌++◌, map, Any, sym, ap, ◌∙◌, append_assoc}
use Rattle.wd_schema.specs.Schemas.{schema_of}
use Rattle.wd_witness_text.proofs.Entries.{all_and_last, any_at}
use Rattle.wd_witness_text.proofs.Tables.{Entry}
use Rattle.wd_witness_text.specs.Refusals.{RefusesTable}
use Rattle.wd_witness_text.specs.Witnesses.{IsTableOf, table_rows}
use Rattle.wd_witness_text.proofs.fits.fit_tables.Goals as goal

pub loop-name-preserved : goal.loop-name-preserved
loop-name-preserved c =
    let l = c.loop-name in
    let done = l.invariant.0 in
    let e : Entry = (c.in-Some.name.now, c.in-Some.rows.now) in
    let left = c.next.new.self in
    let all : c.args.tables.now.entries ≡ done ++ e ∷ left = l.invariant.1 ∙ ap (λ es. done ++ es) c.in-Some.ensures.steps in
    let fits : IsTableOf (schema_of c.args.schema.now) (table_rows e) = rw (← c.as_str.ensures.value, ← c.deref.ensures.value) c.in_ok-fit_table.ensures.ok in (
      done ++ e ∷ [],
      all ∙ sym (append_assoc done (e ∷ []) left),
      all_and_last (IsTableOf (schema_of c.args.schema.now)) done e l.invariant.2 fits,
    )

pub returns-in_err-fit_table-clause-refused : goal.returns-in_err-fit_table-clause-refused
returns-in_err-fit_table-clause-refused c =
    let l = c.loop-name in
    let done = l.invariant.0 in
    let e : Entry = (c.in-Some.name.now, c.in-Some.rows.now) in
    let left = c.next.new.self in
    let all : c.args.tables.now.entries ≡ done ++ e ∷ left = l.invariant.1 ∙ ap (λ es. done ++ es) c.in-Some.ensures.steps in
    let refused : RefusesTable (schema_of c.args.schema.now) c.in_err-fit_table.field-0.0 (table_rows e) = rw (← c.as_str.ensures.value, ← c.deref.ensures.value) c.in_err-fit_table.ensures.refused in
    let h : Any (RefusesTable (schema_of c.args.schema.now) c.in_err-fit_table.field-0.0) (map table_rows c.args.tables.now.entries) = any_at (RefusesTable (schema_of c.args.schema.now) c.in_err-fit_table.field-0.0) _ done e left all refused in
    search (rules, h)
