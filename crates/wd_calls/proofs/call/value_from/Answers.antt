use Rattle.std.proofs.Common.{◌≡◌, ◌∙◌, ◌<◌, ◌≤◌, ◌^◌, length, get_or, ap, subst, sym, arith, rules, Ok}
use Rattle.std.proofs.lemmas.List.{get_or_past, length-map}
use Rattle.wd_value.specs.Rows.{row_at}
use Rattle.wd_plan.specs.Calls.{call_value, taken}
use Rattle.wd_frame.specs.declared.answer.Answer.TheVariants.{Nothing}
use Rattle.wd_frame.specs.declared.answer.Answer.{Answer}
use Rattle.wd_frame.specs.Places.{part_of}
use Rattle.wd_frame.specs.Slides.{shown}
use Rattle.wd_frame.specs.IndexRanges.{lists_of, places_along}
use Rattle.wd_calls.specs.Answers.{value_of}
use Rattle.wd_calls.specs.Parts.{partition_of}
use Rattle.wd_calls.specs.Sources.{IsSourceOf}
use Rattle.wd_calls.specs.Values.{values_at}
use Rattle.wd_calls.proofs.SourceCalls.{row_value}
use Rattle.wd_calls.proofs.call.value_from.Goals as goal

pub returns-in-Ranking : goal.returns-in-Ranking
returns-in-Ranking c = λ f function is starts class part within.
    let p = partition_of c.args.partition.now in
    let e = subst (IsSourceOf f function p (part_of c.args.part.now)) c.in-Ranking.is is in
    ap Ok (c.ranking_value.ensures starts class f part within) ∙ ap (λ g. call_value class f g p c.args.place) (sym e)

pub returns-in_ok-value-in-Row : goal.returns-in_ok-value-in-Row
returns-in_ok-value-in-Row c = λ f function is starts.
    let p = partition_of c.args.partition.now in
    let place = c.args.place in
    let lists = lists_of c.in-Row.lists.items in
    let row = c.in-Row.row in
    let column = c.in-Row.column in
    let value = c.in_ok-value-in-Row.value in
    let h = subst (IsSourceOf f function p (part_of c.args.part.now)) c.in-Row.is is in
    let same : length p ≡ length c.args.partition.now.positions.now = length-map c.args.partition.now.positions.now (row_at c.args.partition.now.rows.now) in
    let bound : length c.args.partition.now.positions.now < 2 ^ 60 = search rules in
    row_value f function row column p (part_of c.args.part.now) lists place value h.0 h.1 (omega arith)
    (subst (λ all. length (places_along (lists_of all) place) < 2 ^ 64 → value ≡ taken row (values_at p column (places_along (lists_of all) place))) c.deref.ensures.value c.in_ok-value-in-Row.ensures)

pub returns-in-None : goal.returns-in-None
returns-in-None c = λ f function is starts class part within.
    let are = subst (IsSourceOf f function (partition_of c.args.partition.now) (part_of c.args.part.now)) c.in-Answers.is is in
    let past : length c.deref-in-Answers.result.now ≤ c.args.place = search rules in
    let long = ap length c.deref-in-Answers.ensures.value in
    let none : get_or c.in-Answers.answers.items c.args.place Nothing ≡ Nothing = get_or_past c.in-Answers.answers.items c.args.place Nothing (omega arith) in
    ap (λ (a : Answer). value_of (shown a)) (sym none) ∙ are class part c.args.place Nothing within
