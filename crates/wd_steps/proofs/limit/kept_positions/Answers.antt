use Rattle.std.proofs.Common.{◌≡◌, ◌≤◌, ◌∙◌, ap, sym, subst, drop, length, rules, arith}
use Rattle.std.proofs.lemmas.List.{take_rest}
use Rattle.wd_value.specs.Rows.{rows_at}
use Rattle.wd_plan.specs.Outcomes.{first_rows}
use Rattle.wd_steps.specs.Cuts.{IsSliceOf}
use Rattle.wd_steps.proofs.Cutting.{rest_range, rows_after, whole_range}
use Rattle.wd_steps.proofs.limit.kept_positions.Goals as goal

pub returns-in-None : goal.returns-in-None
returns-in-None c =
    let rows = c.args.rows.now in
    let ordering = c.args.ordering.now in
    let start = c.min-start.result in
    let low : start ≤ length ordering = (let is = c.min-start.ensures in omega arith) in
    rw c.in-None.is (record {
      kept = ap (rows_at rows) (take_rest ordering start) ∙ rows_after rows ordering c.args.limit.now.offset start c.min-start.ensures;
      part = subst (IsSliceOf ordering) (sym (take_rest ordering start)) (rest_range start ordering (drop start ordering) low (whole_range (drop start ordering)));
    })

pub returns-in-Some : goal.returns-in-Some
returns-in-Some c =
    let rows = c.args.rows.now in
    let ordering = c.args.ordering.now in
    let start = c.min-start.result in
    let keys : c.deref.result.now ≡ c.args.limit.now.keys.items = search rules in
    let rest = ap (rows_at rows) (take_rest ordering start) ∙ rows_after rows ordering c.args.limit.now.offset start c.min-start.ensures in
    let low : start ≤ length ordering = (let is = c.min-start.ensures in omega arith) in
    rw c.in-Some.is (record {
      kept = c.first_positions.ensures.first ∙ (λ i. first_rows (keys i) c.args.limit.now.ties c.in-Some.count (rest i));
      part = rest_range start ordering c.first_positions.result.now low (subst (λ xs. IsSliceOf xs c.first_positions.result.now) (take_rest ordering start) c.first_positions.ensures.part);
    })
