-- The first rows among results and the least fault, one result on and at the end.
use Rattle.std.proofs.Common.{◌≡◌, ℕ, ◌+◌, ◌<◌, ◌≤◌, List, [], ◌∷◌, ◌++◌, take, length, Result, Ok, Err, None, true, sym, subst, ◌∙◌, ap, arith}
use Rattle.std.proofs.lemmas.Bool.{lt-ltb}
use Rattle.std.proofs.lemmas.List.{length-take, length_push, take_all, take-append-le}
use Rattle.std.proofs.lemmas.Result.{IfOk-weaker}
use Rattle.std.specs.Prelude.{OnOk}
use Rattle.wd_value.specs.declared.value.OutOfMemory.{OutOfMemory}
use Rattle.wd_value.specs.declared.value.Fault.{Fault}
use Rattle.wd_value.specs.Rows.{Row, rows_of}
use Rattle.wd_column_store.specs.Along.{rows_along, with_row}
use Rattle.wd_column_store.proofs.Pushes.{long as with_row_long}
use Rattle.wd_column_store.proofs.RowsAlong.{count as rows_count, longer, more}
use Rattle.wd_join.specs.Joins.{has_more_rows}
use Rattle.wd_plan.specs.Faults.{all_ok, unless, values_among}
use Rattle.wd_steps.specs.Faults.{with_fault}
use Rattle.wd_steps.proofs.Results.{least_fault-push, values_among-push_err, values_among-push_ok}
use Rattle.wd_group.specs.Gathered.{AreAdded, AreFirst, HasWidth}
use Rattle.wd_group.specs.declared.gathered.Gathered.{Gathered}

module _ (width most : ℕ) (results : List (Result Row Fault)) (old new : Gathered) (first : AreFirst width most results old) where
  abbrev values : List Row
  values = values_among results

  abbrev columns : List Row
  columns = rows_of old.columns.items

  kept_long : old.count ≡ length (take (most + 1) values)
  kept_long = sym (rows_count columns old.count) ∙ ap length first.rows

  -- one row more that is kept
  pub AreFirst-kept : (row : Row) → length row ≡ width → old.count ≤ most → rows_of new.columns.items ≡ with_row columns row → new.count ≡ old.count + 1 → new.fault ≡ old.fault → AreFirst width most (results ++ Ok row ∷ []) new
  AreFirst-kept row wide room grown one_more fault =
      let long = kept_long in
      let cut = length-take (most + 1) values in
      let further = length_push values row in
      let few : length values ≤ most = omega arith in
      let whole : take (most + 1) values ≡ values = take_all (most + 1) values (omega arith) in
      let all : take (most + 1) (values ++ row ∷ []) ≡ values ++ row ∷ [] = take_all (most + 1) (values ++ row ∷ []) (omega arith) in
      let as_wide : length row ≡ length columns = wide ∙ sym first.wide in
      record {
        rows = (λ i. rows_along (grown i) (one_more i)) ∙ more columns row old.count first.long as_wide ∙ ap (λ rs. rs ++ row ∷ []) (first.rows ∙ whole) ∙ sym all ∙ ap (take (most + 1)) (sym (values_among-push_ok results row));
        long = rw (grown, one_more) (longer columns row old.count first.long as_wide);
        wide = ap length grown ∙ with_row_long columns row ∙ first.wide;
        fault = fault ∙ first.fault ∙ sym (least_fault-push results (Ok row));
      }

  -- one row more that is let go
  pub AreFirst-full : (row : Row) → most < old.count → new ≡ old → AreFirst width most (results ++ Ok row ∷ []) new
  AreFirst-full row full same =
      let long = kept_long in
      let cut = length-take (most + 1) values in
      let enough : most + 1 ≤ length values = omega arith in
      rw same (record {
        rows = first.rows ∙ sym (take-append-le (most + 1) values (row ∷ []) enough) ∙ ap (take (most + 1)) (sym (values_among-push_ok results row));
        long = first.long;
        wide = first.wide;
        fault = first.fault ∙ sym (least_fault-push results (Ok row));
      })

  -- one fault more
  pub AreFirst-fault : (found : Fault) → new.columns ≡ old.columns → new.count ≡ old.count → new.fault ≡ with_fault old.fault found → AreFirst width most (results ++ Err found ∷ []) new
  AreFirst-fault found same counted fault = record {
    rows = (λ i. rows_along (rows_of (same i).items) (counted i)) ∙ first.rows ∙ ap (take (most + 1)) (sym (values_among-push_err results found));
    long = rw (same, counted) first.long;
    wide = ap (λ v. length (rows_of v.items)) same ∙ first.wide;
    fault = fault ∙ ap (λ f. with_fault f found) first.fault ∙ sym (least_fault-push results (Err found));
  }

module _ (width most : ℕ) (results : List (Result Row Fault)) (gathered : Gathered) (first : AreFirst width most results gathered) where
  kept_all : gathered.count ≡ length (take (most + 1) (values_among results))
  kept_all = sym (rows_count (rows_of gathered.columns.items) gathered.count) ∙ ap length first.rows

  -- no more than `most`: all rows are there
  pub AreFirst-all : gathered.count ≤ most → gathered.fault ≡ None → Ok (rows_along (rows_of gathered.columns.items) gathered.count) ≡ all_ok results
  AreFirst-all few none =
      let long = kept_all in
      let cut = length-take (most + 1) (values_among results) in
      let whole : take (most + 1) (values_among results) ≡ values_among results = take_all (most + 1) (values_among results) (omega arith) in
      ap Ok (first.rows ∙ whole) ∙ ap (λ f. unless f (values_among results)) (sym none ∙ first.fault)

  -- more than `most`
  pub AreFirst-more : most < gathered.count → gathered.fault ≡ None → has_more_rows most (all_ok results) ≡ true
  AreFirst-more full none =
      let long = kept_all in
      let cut = length-take (most + 1) (values_among results) in
      ap (λ f. has_more_rows most (unless f (values_among results))) (sym first.fault ∙ none) ∙ lt-ltb most (length (values_among results)) (omega arith)

-- a row or a fault that is the only result added
pub one_added : (old new : Gathered) (r : Result Unit OutOfMemory) (width most : ℕ) (row : Result Row Fault) (added : List (Result Row Fault)) → row ∷ [] ≡ added → HasWidth width row
    → OnOk r ((w : ℕ) → HasWidth w row → AreAdded w most (row ∷ []) old new) → OnOk r (AreAdded width most added old new)
one_added old new r width most row added is wide held =
    IfOk-weaker r (λ _. (w : ℕ) → HasWidth w row → AreAdded w most (row ∷ []) old new) (λ _. AreAdded width most added old new) (λ _ each. subst (λ rs. AreAdded width most rs old new) is (each width wide)) held
