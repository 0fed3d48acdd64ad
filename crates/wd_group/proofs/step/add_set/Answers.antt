use Rattle.std.proofs.Common.{◌≡◌, ◌∙◌, ◌<◌, ◌∷◌, [], length, ap, sym, subst, arith}
use Rattle.std.specs.Prelude.{OnOk}
use Rattle.std.proofs.lemmas.Bool.{eqb-false, eqb-true}
use Rattle.std.proofs.lemmas.List.{nil_from_length}
use Rattle.wd_value.specs.Bags.{positions}
use Rattle.wd_value.specs.Rows.{row_at, rows_at}
use Rattle.wd_plan.specs.Outcomes.{set_rows, shown}
use Rattle.wd_plan.specs.Plans.{grouping_of}
use Rattle.wd_steps.specs.Gathered.{row_of}
use Rattle.wd_group.specs.Gathered.{AreAdded, HasWidth}
use Rattle.wd_group.specs.Sets.{row_over, row_width}
use Rattle.wd_group.proofs.First.{one_added}
use Rattle.wd_group.proofs.Sets.{row_of_all, row_over_wide, set_rows_some}
use Rattle.wd_group.proofs.step.add_set.Goals as goal

pub returns-then-is_empty : goal.returns-then-is_empty
returns-then-is_empty c =
    let rule = grouping_of c.args.group.now in
    let set = c.args.set.now in
    let rows = c.args.rows.now in
    let empty : set ≡ [] = nil_from_length set (eqb-true (length set) 0 (sym c.if-is_empty.ensures)) in
    let all : c.deref.result.now ≡ positions (length rows) = c.deref.ensures.value ∙ c.in_ok-all.ensures ∙ ap positions c.len.ensures in
    let one : row_of c.in_ok-row.row ∷ [] ≡ set_rows rule rows set =
    ap (λ r. r ∷ []) (c.in_ok-row.ensures ∙ ap (λ qs. row_over rule set (rows_at rows qs) (shown rule.columns set (row_at rows 0))) all)
    ∙ ap (λ s. row_over rule s (rows_at rows (positions (length rows))) (shown rule.columns s (row_at rows 0)) ∷ []) empty
    ∙ row_of_all rule rows (row_at rows 0)
    ∙ ap (set_rows rule rows) (sym empty) in
    let width = row_width rule in
    let of_width : HasWidth width (row_of c.in_ok-row.row) = subst (HasWidth width) (sym c.in_ok-row.ensures) (row_over_wide rule set (rows_at rows c.deref.result.now) (row_at rows 0)) in
    one_added c.args.gathered.now c.add.new.gathered c.add.result width c.args.most (row_of c.in_ok-row.row) (set_rows rule rows set) one of_width c.add.ensures

pub returns : goal.returns
returns c =
    let rule = grouping_of c.args.group.now in
    let set = c.args.set.now in
    let rows = c.args.rows.now in
    let some : length set ≡ 0 → ⊥ = eqb-false (length set) 0 (sym c.if-is_empty.ensures) in
    let there : 0 < length set = omega arith in
    subst (λ rs. OnOk c.add_groups.result (AreAdded (row_width rule) c.args.most rs c.args.gathered.now c.add_groups.new.gathered)) (set_rows_some rule set rows there) c.add_groups.ensures
