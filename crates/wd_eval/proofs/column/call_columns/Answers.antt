use Rattle.std.proofs.Common.{◌≡◌, ◌<◌, ◌≤◌, [], ◌∷◌, length, get_or, sym, ap, subst, ◌∙◌, arith, inl, inr}
use Rattle.std.proofs.lemmas.Bool.{cases_lt}
use Rattle.std.proofs.lemmas.List.{length_push, get_or_append_left, get_or_default, get_or_push}
use Rattle.wd_plan.specs.declared.window.Call.{Call}
use Rattle.wd_plan.specs.Plans.{window_of}
use Rattle.wd_calls.specs.declared.column.CallColumn.{CallColumn}
use Rattle.wd_eval.specs.Columns.{IsColumn}
use Rattle.wd_eval.specs.ClassIndexes.{AreAskedBy, asks_keys}
use Rattle.wd_eval.proofs.Asking.{asked_by_own}
use Rattle.wd_eval.proofs.column.call_columns.Goals as goal

pub loop-call-preserved : goal.loop-call-preserved
loop-call-preserved c =
    let i = c.loop-call.call-index in
    let w = window_of c.args.window.now in
    let calls = w.calls in
    let old = c.loop-call.columns.items in
    let column = c.in_ok-column.column in
    let is = c.in_ok-push.ensures.items in
    let long = c.loop-call.invariant.0 in
    let there = c.deref-call-items.ensures.value in
    let same = ap length there in
    let within : i < length calls = omega arith in
    let new = c.push.new.self.items in (
      ap length is ∙ length_push old column ∙ omega arith,
      λ orderings listed k call other lt. (
          let rows = c.args.rows.now in
          let IsOf : Call → CallColumn → Type 0 = IsColumn w rows orderings in
          elim (cases_lt k i) [
            | inl before ↦ (
                let same : get_or new k other ≡ get_or old k other = ap (λ cs. get_or cs k other) is ∙ get_or_append_left old (column ∷ []) other k (omega arith) in
                subst (λ x. IsOf (get_or calls k call) x) (sym same) (c.loop-call.invariant.1 orderings listed k call other before))
            | inr after ↦ (
                let here : i ≡ k = omega arith in
                let same : get_or new k other ≡ column = ap (λ cs. get_or cs k other) is ∙ get_or_push old column other k (omega arith) in
                let needs : AreAskedBy c.call-item.result.frame (asks_keys w c.call-item.result.class) =
                asked_by_own w i c.call-item.result within (c.call-item.is ∙ ap (λ xs. get_or xs i c.call-item.result) there) in
                let which : c.call-item.result ≡ get_or calls k call = c.call-item.is ∙ ap (λ xs. get_or xs i c.call-item.result) there ∙ get_or_default calls i c.call-item.result call within ∙ ap (λ n. get_or calls n call) here in
                subst (λ x. IsOf (get_or calls k call) x) (sym same) (subst (λ (x : Call). IsOf x column) which (c.in_ok-column.ensures w needs orderings listed)))
          ]),
    )

pub returns : goal.returns
returns c = λ orderings listed. (
    let calls = c.args.window.now.calls.items in
    let there = c.deref-call-items.ensures.value in
    let past = c.loop-call-test.false in
    let same = ap length there in
    let all : length calls ≤ c.loop-call.call-index = omega arith in
    let on = c.loop-call.auto.call-index-end in
    let many = c.loop-call.invariant.0 in
    record {
      many = omega arith;
      each = λ k call other lt. c.loop-call.invariant.1 orderings listed k call other (omega arith);
    })
