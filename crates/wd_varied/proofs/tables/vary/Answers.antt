use Rattle.std.proofs.Common.{◌≡◌, ℕ, ◌++◌, ◌∷◌, [], ◌∙◌, List, map, ap, sym, length, arith, rules}
use Rattle.std.specs.List.{range_with_len}
use Rattle.std.proofs.lemmas.List.{length-map, map-append}
use Rattle.std.proofs.lemmas.List.FromFn.{map-range_with_len_more}
use Rattle.wd_schema.specs.Schemas.{schema_of}
use Rattle.wd_value.specs.Rows.{Row, instance_of, rows_of}
use Rattle.wd_facts.specs.Given.{table_rule}
use Rattle.wd_candidates.specs.Outlines.{fixed_in, scanned_in}
use Rattle.wd_varied.specs.Suggested.{hints_of}
use Rattle.wd_varied.specs.Varied.{fillings, rows_in}
use Rattle.wd_varied.proofs.Places.{varied_found}
use Rattle.wd_varied.proofs.tables.vary.Goals as goal

pub loop-table-preserved : goal.loop-table-preserved
loop-table-preserved c =
    let s = c.args.suggested.now in
    let f : ℕ → List Row = λ t. rows_in (scanned_in c.args.outline.now t) (fixed_in c.args.outline.now t) (fillings (hints_of s) (table_rule (schema_of c.args.schema.now) t) t c.args.rows c.args.number) c.args.rows in
    let i = c.loop-table.table in
    let rows : rows_of c.in_ok-made.made.items ≡ f i = search rules in
    let pushed = c.in_ok-push.ensures.items in
    ap instance_of pushed ∙ map-append (λ t. rows_of t.items) c.loop-table.instance.items (c.in_ok-made.made ∷ []) ∙ (λ j. c.loop-table.invariant j ++ (rows j ∷ [])) ∙ sym (map-range_with_len_more f 0 i i (omega arith))

pub returns : goal.returns
returns c =
    let tables = schema_of c.args.schema.now in
    let s = c.args.suggested.now in
    let all : c.loop-table.table ≡ length tables = rw length-map (search rules) in
    let f : ℕ → List Row = λ t. rows_in (scanned_in c.args.outline.now t) (fixed_in c.args.outline.now t) (fillings (hints_of s) (table_rule tables t) t c.args.rows c.args.number) c.args.rows in
    varied_found tables c.args.outline.now s c.args.rows c.args.number (instance_of c.loop-table.instance.items) (c.loop-table.invariant ∙ ap (λ n. map f (range_with_len 0 n)) all)
