-- A Window of which one class is turned, where each call of that class goes by peers.
use Rattle.std.proofs.Common.{◌≡◌, ℕ, ◌<◌, true, List, [], All, map, set, length, Some, None, Ok, inl, inr, refl, sym, ap, ◌∙◌, subst, arith, zero-add}
use Rattle.std.proofs.lemmas.Bool.{cases_eq}
use Rattle.std.proofs.lemmas.List.{ext_get_or}
use Rattle.std.proofs.lemmas.List.Elements.{All-weaker, recursion_from_All}
use Rattle.std.proofs.lemmas.List.FromFn.{get_or-map-range_with_len, length-map-range_with_len}
use Rattle.wd_value.proofs.Perms.{Perm-refl}
use Rattle.wd_value.specs.Bags.{positions}
use Rattle.wd_value.specs.Rows.{Row}
use Rattle.wd_plan.specs.declared.window.Call.{Call}
use Rattle.wd_plan.specs.Calls.{value_at}
use Rattle.wd_plan.specs.Choices.{AreOrderings}
use Rattle.wd_plan.specs.Faults.{all_ok}
use Rattle.wd_plan.specs.Outcomes.{call_at, class_at, extended, window_outcome}
use Rattle.wd_plan.specs.Plans.{Window, WindowRule}
use Rattle.wd_plan.specs.Settled.{is_by_peers}
use Rattle.wd_laws.proofs.WindowLaw.{call_by_row, extended_agrees}
use Rattle.wd_partition.specs.Columns.{given_positions, sort_columns}
use Rattle.wd_partition.specs.declared.turn.Turn.{Turn}
use Rattle.wd_eval.specs.Tied.{IsSortedOrdering, turned_at}
use Rattle.wd_eval.specs.Turning.{AreSameButFor, IsStepUnder}
use Rattle.wd_eval.proofs.ClassTurn.{same_but, there_is}
use Rattle.wd_eval.proofs.Putting.{lawful_all}
use Rattle.wd_eval.proofs.SomeSort.{some_stable_sort}
use Rattle.wd_trail.proofs.Windows.{sorted_others}

-- a call that goes by peers where it is one of this class
abbrev pub IsByPeersIn : ℕ → Call → Type 0
IsByPeersIn class call = call.class ≡ class → is_by_peers call.frame call.function ≡ true

-- ---- the class has another ordering

module _ (w : WindowRule) (rows : List Row) (class : ℕ) (own others : List (List ℕ)) (within : class < length w.classes) (same : AreSameButFor class own others) (v1 : AreOrderings w.classes rows own) (v2 : AreOrderings w.classes rows others) where
  same_call : (call : Call) → IsByPeersIn class call → (p : ℕ) → p < length rows → call_at w rows own p call ≡ call_at w rows others p call
  same_call call peers p h = elim (cases_eq call.class class) [
    | inl is ↦ call_by_row w rows rows own others (Perm-refl rows) v1 v2 call (subst (λ c. c < length w.classes) (sym is) within) (inl (peers is)) p p h h refl
    | inr other ↦ ap (λ ordering. value_at (class_at w call.class) call.frame call.function rows ordering p) (sym (same.same call.class other))
  ]

  module _ (peers : All (IsByPeersIn class) w.calls) where
    same_at : (p : ℕ) → p < length rows → extended w rows own p ≡ extended w rows others p
    same_at p h =
        let Same = λ (call : Call). call_at w rows own p call ≡ call_at w rows others p call in
        extended_agrees w rows rows own others p p refl (recursion_from_All Same w.calls (All-weaker (IsByPeersIn class) Same (λ call by_peers. same_call call by_peers p h) w.calls peers))

    pub same_window : window_outcome w rows own ≡ window_outcome w rows others
    same_window =
        let n = length rows in
        let f = extended w rows own in
        let g = extended w rows others in
        ap all_ok (ext_get_or (Ok []) (map f (positions n)) (map g (positions n)) (length-map-range_with_len f 0 n ∙ sym (length-map-range_with_len g 0 n)) (λ i h. (
        let below : i < n = (let long = length-map-range_with_len f 0 n in omega arith) in
        get_or-map-range_with_len f 0 n i i (Ok []) below (zero-add i) ∙ same_at i below ∙ sym (get_or-map-range_with_len g 0 n i i (Ok []) below (zero-add i)))))

-- ---- the class is turned: the Window gives the same

pub by_peers_step : (w : WindowRule) (rows : List Row) (class : ℕ) (turn : Turn) (found : List Row) → class < length w.classes → All (IsByPeersIn class) w.calls → IsStepUnder (Window w) rows None (Ok found) → IsStepUnder (Window w) rows (Some (turned_at turn class)) (Ok found)
by_peers_step w rows class turn found within peers s =
    let own = s.own in
    let some = some_stable_sort (sort_columns (class_at w class)) rows (given_positions turn (length rows)) in
    let others = set own class some.0 in
    let there : class < length own = (let many = s.sorted.long in omega arith) in
    let same = same_but class own some.0 in
    let this = subst (IsSortedOrdering (class_at w class) turn rows) (sym (there_is class own some.0 there)) some.1 in
    let sorted = sorted_others w rows class turn own others s.sorted same this in
    let v1 = lawful_all w.classes (Ok rows) None 0 own s.sorted in
    let v2 = lawful_all w.classes (Ok rows) (Some (turned_at turn class)) 0 others sorted in
    record {
      own = others;
      sorted = sorted;
      small = s.small;
      is = s.is ∙ same_window w rows class own others within same v1 v2 peers;
    }
