use Rattle.std.proofs.Common.{◌≡◌, ◌∙◌, ◌∷◌, ◌++◌, [], cond, true, false, ap, sym, subst, length}
use Rattle.std.proofs.lemmas.List.{append-nil}
use Rattle.wd_value.specs.Bags.{positions}
use Rattle.wd_value.specs.Rows.{row_at, rows_at}
use Rattle.wd_plan.specs.Outcomes as spec
use Rattle.wd_plan.specs.Partitions.{members}
use Rattle.wd_plan.specs.Plans.{grouping_of}
use Rattle.wd_steps.specs.Gathered.{row_of}
use Rattle.wd_group.specs.Gathered.{AreFirst, HasWidth}
use Rattle.wd_group.specs.Sets.{begins_at, is_first, row_from, row_over, row_width, set_class}
use Rattle.wd_group.proofs.Firsts.{begins_group}
use Rattle.wd_group.proofs.First.{one_added}
use Rattle.wd_group.proofs.Sets.{row_is, row_over_wide}
use Rattle.wd_group.proofs.step.add_group.Goals as goal

pub returns-then-not-begins_at : goal.returns-then-not-begins_at
returns-then-not-begins_at c =
    let rule = grouping_of c.args.group.now in
    let set = c.args.set.now in
    let rows = c.args.rows.now in
    let p = c.args.position in
    let own : c.own-own.result.now ≡ members (set_class rule.columns set) rows (positions (length rows)) p = c.own-own.ensures ∙ c.requires.found p c.requires.within in
    let later : is_first rule.columns set rows p ≡ false = sym (begins_group rule.columns set rows p c.requires.within) ∙ ap (λ ps. begins_at ps p) (sym own) ∙ sym c.begins_at.ensures ∙ c.if-not-begins_at.true in
    let none : row_from rule set rows p ≡ [] = ap (λ b. cond b (spec.group_row rule rows set (spec.shown rule.columns set (row_at rows p)) ∷ []) []) later in
    λ results first. subst (λ rs. AreFirst (row_width rule) c.args.most rs c.args.gathered.now) (sym (append-nil results) ∙ ap (λ rs. results ++ rs) (sym none)) first

pub returns : goal.returns
returns c =
    let rule = grouping_of c.args.group.now in
    let set = c.args.set.now in
    let rows = c.args.rows.now in
    let p = c.args.position in
    let own : c.own-own.result.now ≡ members (set_class rule.columns set) rows (positions (length rows)) p = c.own-own.ensures ∙ c.requires.found p c.requires.within in
    let first : is_first rule.columns set rows p ≡ true = sym (begins_group rule.columns set rows p c.requires.within) ∙ ap (λ ps. begins_at ps p) (sym own) ∙ sym c.begins_at.ensures ∙ c.if-not-begins_at.false in
    let row : row_of c.in_ok-row.row ≡ spec.group_row rule rows set (spec.shown rule.columns set (row_at rows p)) =
    c.in_ok-row.ensures ∙ ap (λ qs. row_over rule set (rows_at rows qs) (spec.shown rule.columns set (row_at rows p))) own ∙ row_is rule set rows p in
    let one : row_of c.in_ok-row.row ∷ [] ≡ row_from rule set rows p = ap (λ r. r ∷ []) row ∙ sym (ap (λ b. cond b (spec.group_row rule rows set (spec.shown rule.columns set (row_at rows p)) ∷ []) []) first) in
    let width = row_width rule in
    let of_width : HasWidth width (row_of c.in_ok-row.row) = subst (HasWidth width) (sym c.in_ok-row.ensures) (row_over_wide rule set (rows_at rows c.own-own.result.now) (row_at rows p)) in
    one_added c.args.gathered.now c.add.new.gathered c.add.result width c.args.most (row_of c.in_ok-row.row) (row_from rule set rows p) one of_width c.add.ensures
