use Rattle.std.proofs.Common.{◌≡◌, ◌+◌, ◌<◌, ◌≤◌, ◌∙◌, arith, length, map, sym}
use Rattle.std.specs.Prelude.{option_to_list}
use Rattle.std.proofs.lemmas.List.{length-map}
use Rattle.wd_plan.specs.Plans.{group_call_of, grouping_of}
use Rattle.wd_candidates.specs.Marks.{is_marked}
use Rattle.wd_candidates.specs.Origins.{group_columns}
use Rattle.wd_candidates.proofs.Sources.{group_columns_long}
use Rattle.wd_candidates.proofs.Wanted.{wanted_all, wanted_next, wanted_passed}
use Rattle.wd_candidates.proofs.tied.mark_groups.Goals as goal
use Rattle.wd_candidates.proofs.tied.mark_groups.Goals.{then-is_marked, else-is_marked}

pub loop-number-preserved : goal.loop-number-preserved
loop-number-preserved c =
    let g = grouping_of c.args.group.now in
    let lists = group_columns g in
    let wanted = is_marked c.args.wanted.now in
    let i = c.loop-number.number in
    let long = length-map c.args.group.now.calls.items group_call_of in
    let all : length lists ≡ c.args.group.now.columns + length (map group_call_of c.args.group.now.calls.items) = group_columns_long g in
    let first : c.from.result ≡ c.args.group.now.columns = c.from.ensures in
    let second : c.len.result ≡ length c.args.group.now.calls.items = c.len.ensures ∙ c.args.group.now.calls.ok.0 in
    let inside : i < length lists = omega (arith, all, long, first, second, c.loop-number-test.true) in
    elim c.if-is_marked.branch [
      | then-is_marked w ↦ rw w.marks-is (wanted_next c.args.marks.now c.loop-number.marks w.mark_argument.new.marks lists wanted i (option_to_list w.column_of_group.result) inside (sym c.is_marked.ensures ∙ w.if-is_marked.true) w.column_of_group.ensures c.loop-number.invariant w.mark_argument.ensures)
      | else-is_marked w ↦ rw w.marks-is (wanted_passed c.args.marks.now c.loop-number.marks lists wanted i inside (sym c.is_marked.ensures ∙ w.if-is_marked.false) c.loop-number.invariant)
    ]

pub returns : goal.returns
returns c =
    let g = grouping_of c.args.group.now in
    let lists = group_columns g in
    let long = length-map c.args.group.now.calls.items group_call_of in
    let all : length lists ≡ c.args.group.now.columns + length (map group_call_of c.args.group.now.calls.items) = group_columns_long g in
    let first : c.from.result ≡ c.args.group.now.columns = c.from.ensures in
    let second : c.len.result ≡ length c.args.group.now.calls.items = c.len.ensures ∙ c.args.group.now.calls.ok.0 in
    let past : length lists ≤ c.loop-number.number = omega (arith, all, long, first, second, c.loop-number-test.false) in
    wanted_all c.args.marks.now c.loop-number.marks lists (is_marked c.args.wanted.now) c.loop-number.number past c.loop-number.invariant
