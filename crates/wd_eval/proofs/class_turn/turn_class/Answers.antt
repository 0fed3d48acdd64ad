use Rattle.std.proofs.Common.{◌≡◌, ◌∙◌, ◌-◌, ◌<◌, [], Bool, true, false, not, Ok, Err, ap, arith, get_or, length, refl, rules, set, subst, sym}
use Rattle.std.specs.Prelude.{IsErr}
use Rattle.std.proofs.lemmas.List.{get_or-map, get_or_default}
use Rattle.wd_value.specs.declared.value.Value.TheVariants.{Null}
use Rattle.wd_value.specs.declared.value.Fault.TheVariants.{OutOfRange}
use Rattle.wd_value.specs.Rows.{Row, column_of, row_at}
use Rattle.wd_column_store.specs.Along.{values_before, with_values}
use Rattle.wd_plan.specs.declared.window.Call.{Call}
use Rattle.wd_plan.specs.Outcomes.{call_at}
use Rattle.wd_plan.specs.Plans.{window_of}
use Rattle.wd_eval.specs.ClassIndexes.{IsClassIndexIn}
use Rattle.wd_eval.proofs.Asking.{asked_by_own}
use Rattle.wd_eval.proofs.Beside.{out_of_range, standing}
use Rattle.wd_eval.proofs.ClassTurn.{all_calls, as_given, kept_is, no_calls, one_call, same_but, shows_calls, there_is, turned_is, window_turned}
use Rattle.wd_eval.proofs.class_turn.turn_class.Goals.{then-call-class+in_ok-column+else-column+in_ok-rows-2, then-is_other, else-is_other, else-call-class+in_ok-rows-3}
use Rattle.wd_eval.proofs.class_turn.turn_class.Goals as goal

held : (b : Bool) → not b ≡ false → b ≡ true
held true e = refl
held false e = absurd (cc e)

pub loop-number-init : goal.loop-number-init
loop-number-init c = λ own others same listed shown. no_calls (window_of c.args.window.now) c.args.input.now c.args.given.now others c.in_ok-rows.rows c.in_ok-rows.ensures

pub loop-number-preserved : goal.loop-number-preserved
loop-number-preserved c = λ own others same listed shown. (
    let w = window_of c.args.window.now in
    let rows = c.args.input.now in
    let given = c.args.given.now in
    let n = c.loop-number.number in
    let has = c.loop-number.invariant own others same listed shown in
    let this = c.index-call.result.now in
    let named : n < length w.calls = search rules in
    let calls : c.len.result ≡ length w.calls = search rules in
    let which : (call : Call) → this ≡ get_or w.calls n call = λ call. c.index-call.ensures ∙ get_or_default w.calls n this call named in
    elim c.if-call-class.branch [
      | then-call-class+in_ok-column+else-column+in_ok-rows-2 s ↦ (
          let values = s.in_ok-column.column.values.items in
          let column = turned_is w rows c.args.class others this s.in_ok-column.column c.in_ok-sorted.sorted.class_index s.if-call-class.true (asked_by_own w n this named c.index-call.ensures) listed s.in_ok-column.ensures in
          one_call w rows given others n c.loop-number.rows c.loop-number.is_other has values c.if-call-class.rows c.if-call-class.is_other
          (s.rows-is ∙ s.in_ok-rows-2.ensures)
          (λ p call low. ap (call_at w rows others p) (sym (which call)) ∙ standing s.in_ok-column.column p (call_at w rows others p this) s.if-column.false (column.each p low tt))
          (λ clean. elim s.if-is_other.branch [
            | then-is_other v ↦ absurd (let one = v.is_other-is in let two = s.is_other-is in cc)
            | else-is_other v ↦ (
                let stays = held v.are_before.result (sym v.is_other-is ∙ sym s.is_other-is ∙ clean) in (
                  v.if-is_other.false,
                  λ p low. (
                      let there : p < length given = omega (arith, shown.many) in
                      (λ i. get_or (sym v.deref.ensures.value i) p Null) ∙ v.are_before.ensures stays p there ∙ ap (λ m. column_of (row_at given p) (length (row_at given p) - (m - n))) calls),
                ))
          ]))
      | else-call-class+in_ok-rows-3 s ↦ (
          let values = values_before given (length w.calls - n) in
          one_call w rows given others n c.loop-number.rows c.loop-number.is_other has values c.if-call-class.rows c.if-call-class.is_other
          (s.rows-is ∙ s.in_ok-rows-3.ensures ∙ ap (λ m. with_values c.loop-number.rows (values_before given (m - n))) calls)
          (λ p call low. kept_is w rows c.args.class others own given n p call same shown named low (λ e. s.if-call-class.false (ap (λ (k : Call). k.class) (which call) ∙ e)))
          (λ clean. (
            sym s.is_other-is ∙ clean,
            λ p low. (
                let there : p < length given = omega (arith, shown.many) in
                get_or-map (λ (row : Row). column_of row (length row - (length w.calls - n))) given p [] Null there),
          )))
    ])

pub returns-then-column : goal.returns-then-column
returns-then-column c = λ own there is. (
    let w = window_of c.args.window.now in
    let rows = c.args.input.now in
    let class = c.args.class in
    let ordering = c.in_ok-sorted.sorted.ordering.items in
    let index = c.in_ok-sorted.sorted.class_index in
    let others = set own class ordering in
    let n = c.loop-number.number in
    let this = c.index-call.result.now in
    let named : n < length w.calls = search rules in
    let listed = subst (λ o. IsClassIndexIn w class rows o index) (sym (there_is class own ordering there)) c.in_ok-sorted.ensures.class_index in
    let column = turned_is w rows class others this c.in_ok-column.column index c.if-call-class.true (asked_by_own w n this named c.index-call.ensures) listed c.in_ok-column.ensures in
    let found = column.said c.if-column.true in
    window_turned w rows own class c.args.turn ordering (Err OutOfRange) there c.in_ok-sorted.ensures.stable
    (out_of_range w rows others n found.0 this named found.1 (subst (λ (call : Call). IsErr (call_at w rows others found.0 call)) c.index-call.ensures found.3)))

pub returns-then-is_other-2 : goal.returns-then-is_other-2
returns-then-is_other-2 c = λ own there is. (
    let w = window_of c.args.window.now in
    let rows = c.args.input.now in
    let given = c.args.given.now in
    let class = c.args.class in
    let ordering = c.in_ok-sorted.sorted.ordering.items in
    let index = c.in_ok-sorted.sorted.class_index in
    let others = set own class ordering in
    let listed = subst (λ o. IsClassIndexIn w class rows o index) (sym (there_is class own ordering there)) c.in_ok-sorted.ensures.class_index in
    let has = c.loop-number.invariant own others (same_but class own ordering) listed (shows_calls w rows own given is) in
    let all : c.loop-number.number ≡ length w.calls = search rules in
    window_turned w rows own class c.args.turn ordering (Ok c.loop-number.rows) there c.in_ok-sorted.ensures.stable
    (all_calls w rows given others c.loop-number.number c.loop-number.rows c.loop-number.is_other has all))

pub returns : goal.returns
returns c = λ own there is. (
    let w = window_of c.args.window.now in
    let rows = c.args.input.now in
    let given = c.args.given.now in
    let class = c.args.class in
    let ordering = c.in_ok-sorted.sorted.ordering.items in
    let index = c.in_ok-sorted.sorted.class_index in
    let others = set own class ordering in
    let listed = subst (λ o. IsClassIndexIn w class rows o index) (sym (there_is class own ordering there)) c.in_ok-sorted.ensures.class_index in
    let has = c.loop-number.invariant own others (same_but class own ordering) listed (shows_calls w rows own given is) in
    let all : c.loop-number.number ≡ length w.calls = search rules in
    window_turned w rows own class c.args.turn ordering (Ok given) there c.in_ok-sorted.ensures.stable
    (as_given w rows given others c.loop-number.number c.loop-number.rows c.loop-number.is_other has own all c.if-is_other-2.false is))
