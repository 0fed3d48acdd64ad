-- A column that is filled one partition after another.
use Rattle.std.proofs.Common.{◌≡◌, ℕ, zero, suc, ◌+◌, ◌<◌, ◌≤◌, List, [], ◌∷◌, length, get_or, eqb, Some, Result, sym, ap, ◌∙◌, subst, arith, inl, inr}
use Rattle.std.specs.Prelude.{slice_get}
use Rattle.std.proofs.lemmas.Bool.{cases_lt}
use Rattle.wd_value.specs.declared.value.Value.{Value}
use Rattle.wd_value.specs.declared.value.Fault.{Fault}
use Rattle.wd_value.specs.Bags.{positions, times}
use Rattle.wd_value.specs.Rows.{Row, row_at, rows_at}
use Rattle.wd_plan.specs.declared.window.Call.{Call}
use Rattle.wd_plan.specs.Calls.{call_value, value_at}
use Rattle.wd_plan.specs.Partitions.{members, partition_of, place_in}
use Rattle.wd_plan.specs.Plans.{ClassRule}
use Rattle.wd_plan.specs.Sorting.{IsOrdering, same_partition}
use Rattle.wd_plan.proofs.Places.{in_part, place_member, same_members, filter_passes_at, range-times, times-filter-le, times-get_or}
use Rattle.wd_plan.proofs.Parts.{same_partition_is}
use Rattle.wd_calls.specs.declared.column.CallColumn.{CallColumn}
use Rattle.wd_calls.specs.CallColumns.{AreCallsAt, ArePut, StandsAt}
use Rattle.wd_eval.specs.Columns.{AreFilled, first_of}

module _ (class : ClassRule) (rows : List Row) (ordering : List ℕ) (lawful : IsOrdering class rows ordering) where
  -- a member of a row's partition has the same members
  alike : (p k : ℕ) → k < length (members class rows ordering p) → members class rows ordering (get_or (members class rows ordering p) k 0) ≡ members class rows ordering p
  alike p k h =
      let q = get_or (members class rows ordering p) k 0 in
      same_members class rows ordering (row_at rows p) q (same_partition_is class (row_at rows p) (row_at rows q) (filter_passes_at (λ q. same_partition class (row_at rows p) (row_at rows q)) ordering k 0 h))

  -- and its place is where it stands among them
  place_alike : (p k : ℕ) → k < length (members class rows ordering p) → let q = get_or (members class rows ordering p) k 0 in place_in (members class rows ordering q) q ≡ k
  place_alike p k h = ap (λ ps. place_in ps (get_or (members class rows ordering p) k 0)) (alike p k h) ∙ place_member class rows ordering p k lawful.once h

  has_members : (p : ℕ) → p < length rows → 0 < length (members class rows ordering p)
  has_members p h = let there = (in_part class rows ordering p lawful.once h).within in omega arith

  -- it is one of the rows
  member_below : (p k : ℕ) → k < length (members class rows ordering p) → get_or (members class rows ordering p) k 0 < length rows
  member_below p k h =
      let ms = members class rows ordering p in
      let q = get_or ms k 0 in
      let among : 0 < times eqb q ms = times-get_or ms k 0 h in
      let given : times eqb q ms ≤ times eqb q ordering = times-filter-le eqb (λ r. same_partition class (row_at rows p) (row_at rows r)) q ordering in
      let once : times eqb q (positions (length rows)) ≡ times eqb q ordering = lawful.once q in
      let below = range-times q 0 (length rows) (omega arith) in
      omega arith

  pub first_below : (p : ℕ) → p < length rows → first_of class rows ordering p < length rows
  first_below p h = member_below p 0 (has_members p h)

  -- the first row of a partition stands at place 0
  pub first_place : (p : ℕ) → p < length rows → place_in (members class rows ordering (first_of class rows ordering p)) (first_of class rows ordering p) ≡ 0
  first_place p h = place_alike p 0 (has_members p h)

  module _ (call : Call) (position : ℕ) where
    -- nothing is to be filled at a row that is not the first of its partition
    pub filled_before : (column : CallColumn) → (place_in (members class rows ordering position) position ≡ 0 → ⊥)
        → AreFilled class call rows ordering position column → AreFilled class call rows ordering (position + 1) column
    filled_before column later filled = record {
      long = filled.long;
      each = λ p h lt. elim (cases_lt (first_of class rows ordering p) position) [
        | inl before ↦ filled.each p h before
        | inr after ↦ (
            let here : first_of class rows ordering p ≡ position = omega arith in
            absurd (later (ap (λ q. place_in (members class rows ordering q) q) (sym here) ∙ first_place p h)))
      ];
      said = λ h. (let found = filled.said h in let before = found.2 in (found.0, found.1, omega arith, found.3));
    }

    abbrev value : ℕ → Result Value Fault
    value = value_at class call.frame call.function rows ordering

    -- the values of the call at the members of a row's partition
    pub calls_at_members : AreCallsAt class call.frame call.function (partition_of class rows ordering position) (members class rows ordering position) value
    calls_at_members k h = λ i. call_value class call.frame call.function (rows_at rows (alike position k h i)) (place_alike position k h i)

    -- they fill the places of the partition
    pub filled_more : (old new : CallColumn) → position < length rows → place_in (members class rows ordering position) position ≡ 0 → ArePut value (members class rows ordering position) old new
        → AreFilled class call rows ordering position old → AreFilled class call rows ordering (position + 1) new
    filled_more old new within first put filled = record {
      long = put.long ∙ filled.long;
      each = λ p h lt. elim (cases_lt (first_of class rows ordering p) position) [
        | inl before ↦ put.kept p (filled.each p h before)
        | inr after ↦ (
            let here : first_of class rows ordering p ≡ position = omega arith in
            let same : members class rows ordering position ≡ members class rows ordering p = ap (members class rows ordering) (sym here) ∙ alike p 0 (has_members p h) in
            let part = in_part class rows ordering p lawful.once h in
            let k = place_in (members class rows ordering p) p in
            let stands : get_or (members class rows ordering position) k 0 ≡ p = ap (λ ps. get_or ps k 0) same ∙ part.at_place in
            let there : k < length (members class rows ordering position) = subst (λ ps. k < length ps) (sym same) part.within in
            subst (λ q. StandsAt new q (value q)) stands (put.put k there (subst (λ q. q < length old.values.items) (sym stands) (subst (λ m. p < m) (sym filled.long) h))))
      ];
      said = λ h. elim (put.said h) [
        | inl before ↦ (let found = filled.said before in let below = found.2 in (found.0, found.1, omega arith, found.3))
        | inr some ↦ (
            let k = some.0 in
            let q = get_or (members class rows ordering position) k 0 in
            let starts : first_of class rows ordering q ≡ position =
            ap (λ ps. get_or ps 0 0) (alike position k some.1) ∙ ap (λ n. get_or (members class rows ordering position) n 0) (sym first) ∙ (in_part class rows ordering position lawful.once within).at_place in
            (q, member_below position k some.1, omega arith, some.2))
      ];
    }

-- what stands at a place of a list
pub found : {X : Type 0} (xs : List X) (i : ℕ) (x : X) → slice_get xs i ≡ Some x → (i < length xs) × ((other : X) → get_or xs i other ≡ x)
found [] i x h = absurd (cc)
found (y ∷ ys) zero x h = (omega arith, λ other. cc)
found (y ∷ ys) (suc i) x h = (let later = found ys i x h in (omega arith, later.1))
