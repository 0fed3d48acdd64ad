use Rattle.std.proofs.Common.{◌≡◌, ℕ, ◌++◌, ◌∷◌, [], ◌∙◌, List, map, ap, sym, length, arith, rules}
use Rattle.std.specs.List.{range_with_len}
use Rattle.std.proofs.lemmas.List.{length-map, map-append}
use Rattle.std.proofs.lemmas.List.FromFn.{map-range_with_len_more}
use Rattle.wd_schema.specs.Schemas.{schema_of}
use Rattle.wd_value.specs.Rows.{Row, instance_of, rows_of}
use Rattle.wd_facts.specs.Given.{table_rule}
use Rattle.wd_candidates.specs.Candidates.{candidate_rows}
use Rattle.wd_candidates.specs.Outlines.{fixed_in, scanned_in, tied_in}
use Rattle.wd_candidates.proofs.Cells.{candidate_found}
use Rattle.wd_candidates.proofs.rows.candidate.Goals as goal

pub loop-number-preserved : goal.loop-number-preserved
loop-number-preserved c =
    let f : ℕ → List Row = λ t. candidate_rows (scanned_in c.args.outline.now t) (table_rule (schema_of c.args.schema.now) t) (fixed_in c.args.outline.now t) (tied_in c.args.tied.now t) c.args.shape in
    let i = c.loop-number.number in
    let rows : rows_of c.in_ok-rows.rows.items ≡ f i = search rules in
    let pushed = c.in_ok-push.ensures.items in
    ap instance_of pushed ∙ map-append (λ t. rows_of t.items) c.loop-number.instance.items (c.in_ok-rows.rows ∷ []) ∙ (λ j. c.loop-number.invariant j ++ (rows j ∷ [])) ∙ sym (map-range_with_len_more f 0 i i (omega arith))

pub returns : goal.returns
returns c =
    let tables = schema_of c.args.schema.now in
    let all : c.loop-number.number ≡ length tables = rw length-map (search rules) in
    let f : ℕ → List Row = λ t. candidate_rows (scanned_in c.args.outline.now t) (table_rule tables t) (fixed_in c.args.outline.now t) (tied_in c.args.tied.now t) c.args.shape in
    candidate_found tables c.args.outline.now c.args.tied.now c.args.shape (instance_of c.loop-number.instance.items) (c.loop-number.invariant ∙ ap (λ n. map f (range_with_len 0 n)) all)
