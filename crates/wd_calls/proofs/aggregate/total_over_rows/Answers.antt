use Rattle.std.proofs.Common.{◌≡◌, ◌∙◌, ◌∷◌, [], length, map, ap, arith, subst, sym}
use Rattle.std.proofs.lemmas.List.{length-map, map_push}
use Rattle.wd_value.specs.Rows.{row_at}
use Rattle.wd_frame.specs.Slides.{IsAnswer, sum_over}
use Rattle.wd_calls.specs.Answers.{addend}
use Rattle.wd_calls.specs.Parts.{partition_of}
use Rattle.wd_calls.specs.Values.{first_values, value_in}
use Rattle.wd_calls.proofs.Whole.{length-first_values, one_more, whole_column}
use Rattle.wd_calls.proofs.aggregate.total_over_rows.Goals as goal

pub loop-place-preserved : goal.loop-place-preserved
loop-place-preserved c =
    let p = partition_of c.args.partition.now in
    let column = c.args.column in
    let place = c.loop-place.place in
    let before = first_values p column place in
    let value = value_in p column place in
    let test = c.loop-place-test.true in
    let long = length-map before addend ∙ length-first_values p column place in
    let one : IsAnswer sum_over (addend value ∷ []) c.one.result = subst (λ v. IsAnswer sum_over (v ∷ []) c.one.result) (c.addend-value.ensures ∙ ap addend c.value_at.ensures) c.one.ensures in
    subst (λ values. IsAnswer sum_over values c.join-answer.result) (sym (ap (map addend) (one_more p column place) ∙ map_push addend before value))
    (c.join-answer.ensures (map addend before) (addend value ∷ []) c.loop-place.invariant one (omega arith))

pub returns : goal.returns
returns c =
    let p = partition_of c.args.partition.now in
    let ps = c.args.partition.now.positions.now in
    let test = c.loop-place-test.false in
    let end = c.loop-place.auto.place-end in
    let long : length p ≡ length ps = length-map ps (row_at c.args.partition.now.rows.now) in
    let all : c.loop-place.place ≡ length p = omega arith in
    subst (λ values. IsAnswer sum_over (map addend values) c.loop-place.answer) (ap (first_values p c.args.column) all ∙ whole_column p c.args.column) c.loop-place.invariant
