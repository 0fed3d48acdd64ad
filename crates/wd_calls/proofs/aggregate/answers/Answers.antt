use Rattle.std.proofs.Common.{◌∙◌, length, ap, rules}
use Rattle.wd_frame.specs.Slides.{ascending, count_over, descending, first_over, seen}
use Rattle.wd_frame.specs.IndexRanges.{AreLists, lists_of}
use Rattle.wd_calls.specs.Parts.{partition_of}
use Rattle.wd_calls.proofs.AnswerCalls.{addend_answers, addend_lists, column_answers, column_lists, count_answers, greatest_answers, least_answers, sum_answers}
use Rattle.wd_calls.proofs.FrameCalls.{IfOk-on}
use Rattle.wd_calls.proofs.aggregate.answers.Goals as goal

pub over_lists-requires : goal.over_lists-requires
over_lists-requires c κs =
    let all = lists_of c.args.lists.now in
    let lists : AreLists (length c.deref.result.now) all =
    column_lists (partition_of c.args.partition.now) c.in-Count.column c.args.count c.deref.result.now all (ap seen c.deref.ensures.value ∙ c.in_ok-values-in-Count.ensures) c.requires.lists in
    search rules

pub returns-in_ok-values-in-Count : goal.returns-in_ok-values-in-Count
returns-in_ok-values-in-Count c =
    let p = partition_of c.args.partition.now in
    let all = lists_of c.args.lists.now in
    rw c.in-Count.is
    (IfOk-on c.over_lists.result c.over_lists.ensures
    (λ v are. count_answers p c.args.count all v.items c.in-Count.column (column_answers count_over p c.in-Count.column c.args.count c.deref.result.now all v.items (ap seen c.deref.ensures.value ∙ c.in_ok-values-in-Count.ensures) are)))

pub over_lists-requires-in-Min : goal.over_lists-requires-in-Min
over_lists-requires-in-Min c κs =
    let all = lists_of c.args.lists.now in
    let lists : AreLists (length c.deref-in-Min.result.now) all =
    column_lists (partition_of c.args.partition.now) c.in-Min.column c.args.count c.deref-in-Min.result.now all (ap seen c.deref-in-Min.ensures.value ∙ c.in_ok-values-in-Min.ensures) c.requires.lists in
    search rules

pub returns-in_ok-values-in-Min : goal.returns-in_ok-values-in-Min
returns-in_ok-values-in-Min c =
    let p = partition_of c.args.partition.now in
    let all = lists_of c.args.lists.now in
    rw c.in-Min.is
    (IfOk-on c.over_lists-in-Min.result c.over_lists-in-Min.ensures
    (λ v are. least_answers p c.args.count all v.items c.in-Min.column (column_answers (first_over ascending) p c.in-Min.column c.args.count c.deref-in-Min.result.now all v.items (ap seen c.deref-in-Min.ensures.value ∙ c.in_ok-values-in-Min.ensures) are)))

pub over_lists-requires-in-Max : goal.over_lists-requires-in-Max
over_lists-requires-in-Max c κs =
    let all = lists_of c.args.lists.now in
    let lists : AreLists (length c.deref-in-Max.result.now) all =
    column_lists (partition_of c.args.partition.now) c.in-Max.column c.args.count c.deref-in-Max.result.now all (ap seen c.deref-in-Max.ensures.value ∙ c.in_ok-values-in-Max.ensures) c.requires.lists in
    search rules

pub returns-in_ok-values-in-Max : goal.returns-in_ok-values-in-Max
returns-in_ok-values-in-Max c =
    let p = partition_of c.args.partition.now in
    let all = lists_of c.args.lists.now in
    rw c.in-Max.is
    (IfOk-on c.over_lists-in-Max.result c.over_lists-in-Max.ensures
    (λ v are. greatest_answers p c.args.count all v.items c.in-Max.column (column_answers (first_over descending) p c.in-Max.column c.args.count c.deref-in-Max.result.now all v.items (ap seen c.deref-in-Max.ensures.value ∙ c.in_ok-values-in-Max.ensures) are)))

pub over_lists-requires-in-Sum : goal.over_lists-requires-in-Sum
over_lists-requires-in-Sum c κs =
    let all = lists_of c.args.lists.now in
    let lists : AreLists (length c.deref-in-Sum-2.result.now) all =
    addend_lists (partition_of c.args.partition.now) c.in-Sum.column c.args.count c.deref-in-Sum.result.now c.deref-in-Sum-2.result.now all
    (ap seen c.deref-in-Sum.ensures.value ∙ c.in_ok-values-in-Sum.ensures) (ap seen c.deref-in-Sum-2.ensures.value ∙ c.in_ok-addends-in-Sum.ensures) c.requires.lists in
    search rules

pub returns-in_ok-addends-in-Sum : goal.returns-in_ok-addends-in-Sum
returns-in_ok-addends-in-Sum c =
    let p = partition_of c.args.partition.now in
    let all = lists_of c.args.lists.now in
    rw c.in-Sum.is
    (IfOk-on c.over_lists-in-Sum.result c.over_lists-in-Sum.ensures
    (λ v are. sum_answers p c.args.count all v.items c.in-Sum.column
    (addend_answers p c.in-Sum.column c.args.count c.deref-in-Sum.result.now c.deref-in-Sum-2.result.now all v.items
    (ap seen c.deref-in-Sum.ensures.value ∙ c.in_ok-values-in-Sum.ensures) (ap seen c.deref-in-Sum-2.ensures.value ∙ c.in_ok-addends-in-Sum.ensures) are)))
