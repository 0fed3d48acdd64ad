-- What a step gives under the orderings that a walk takes next, of a choice or sorted ones.
use Rattle.std.proofs.Common.{◌≡◌, ℕ, ◌+◌, ◌++◌, Bool, true, false, List, [], length, Option, None, Result, Ok, Err, refl, sym, subst, arith}
use Rattle.std.specs.Borrow.{Bor}
use Rattle.std.specs.declared.alloc.Global.{Global}
use Rattle.std.specs.declared.vec.Vec.{Vec}
use Rattle.wd_value.specs.declared.value.Fault.{Fault}
use Rattle.wd_value.specs.Rows.{Row}
use Rattle.wd_plan.specs.Outcomes.{RowsOrFault, window_outcome}
use Rattle.wd_plan.specs.Plans.{NameBelow, NamesClasses, Step, Window, WindowRule, step_classes}
use Rattle.wd_eval.specs.ClassIndexes.{AreClassIndexes, AreEmpty, WhereIndexed}
use Rattle.wd_eval.specs.Ties.{AreAllPut, IsPutEmpty, IsStableStep}
use Rattle.wd_eval.specs.Walks.{AreNextEmpty, AreNextIndexes, AreNotEmpty, Gives, GivesOrStops, HasMade, IsAt, Stops}
use Rattle.wd_eval.specs.Windows.{AreUnserved, IsExtendedOrUnserved, IsStepped, orderings_of}
use Rattle.wd_eval.specs.declared.class_index.ClassIndex.{ClassIndex}
use Rattle.wd_eval.specs.declared.error.EvalError.{EvalError}
use Rattle.wd_eval.specs.declared.orderings.Orderings.{Orderings}
use Rattle.wd_eval.specs.declared.orderings.Orderings.TheVariants.{Chosen, Sorted, Stable}
use Rattle.wd_eval.specs.declared.turned.Turned.{Turned}
use Rattle.wd_eval.proofs.Putting.{fault_tied, indexes_again, put_again, some_empty, step_again}
use Rattle.wd_eval.proofs.Serving.{fault_done, fault_unserved, rows_done}

-- ---- a choice

module _ (old : Orderings) (own : Bor (List (Vec ℕ Global))) (next most : ℕ) (is : old ≡ Chosen own next most) where
  -- so many orderings further on
  further : (count after m : ℕ) (choice : List (List ℕ)) (first : ℕ) → after ≡ next + count → IsAt old m choice first → IsAt (Chosen own after most) m choice (first + count)
  further count after m choice first at here = let a = subst (λ o. IsAt o m choice first) is here in let number = a.1 in (a.0, omega arith, a.2)

  pub gives_chosen : (step : Step) (input : RowsOrFault) (found : RowsOrFault) (after : ℕ) → after ≡ next + length (step_classes step) → IsStepped step input (orderings_of own.now) next found → Gives step input old (Chosen own after most) found
  gives_chosen step input found after at x = record {
    chosen = λ m choice first here. (
        let a = subst (λ o. IsAt o m choice first) is here in
        (further (length (step_classes step)) after m choice first at here, subst (λ n. IsStepped step input choice n found) a.1 (subst (λ ch. IsStepped step input ch next found) a.0 x)));
    sorted = λ kept turned made has. absurd (subst (λ o. HasMade o kept turned made) is has);
  }

  pub stops_chosen : (step : Step) (input : RowsOrFault) (e : EvalError) → AreUnserved (step_classes step) input (orderings_of own.now) next e → Stops step input old e
  stops_chosen step input e x = record {
    chosen = λ m choice first here. (
        let a = subst (λ o. IsAt o m choice first) is here in
        subst (λ n. AreUnserved (step_classes step) input choice n e) a.1 (subst (λ ch. AreUnserved (step_classes step) input ch next e) a.0 x));
    sorted = λ kept turned made has. absurd (subst (λ o. HasMade o kept turned made) is has);
  }

  pub indexes_chosen : (w : WindowRule) (rows : List Row) (indexes : List ClassIndex) (after : ℕ) → after ≡ next + length w.classes → AreClassIndexes w rows (orderings_of own.now) next (length w.classes) indexes → AreNextIndexes w rows old (Chosen own after most) indexes
  indexes_chosen w rows indexes after at x = record {
    chosen = λ m choice first here. (
        let a = subst (λ o. IsAt o m choice first) is here in
        (further (length w.classes) after m choice first at here, subst (λ n. AreClassIndexes w rows choice n (length w.classes) indexes) a.1 (subst (λ ch. AreClassIndexes w rows ch next (length w.classes) indexes) a.0 x)));
    sorted = λ kept turned made has. absurd (subst (λ o. HasMade o kept turned made) is has);
  }

  pub empty_chosen : (count after : ℕ) → after ≡ next + count → AreEmpty count (orderings_of own.now) next → AreNextEmpty count old (Chosen own after most)
  empty_chosen count after at x = record {
    chosen = λ m choice first here. (
        let a = subst (λ o. IsAt o m choice first) is here in
        (further count after m choice first at here, subst (λ n. AreEmpty count choice n) a.1 (subst (λ ch. AreEmpty count ch next) a.0 x)));
    sorted = λ kept turned made has. absurd (subst (λ o. HasMade o kept turned made) is has);
  }

-- ---- sorted orderings, which are kept

module _ (old : Orderings) (turned : Option Turned) (made more : Vec (Vec ℕ Global) Global) (is : old ≡ Sorted turned made) where
  pub gives_sorted : (step : Step) (input : RowsOrFault) (found : RowsOrFault) → IsStableStep step input turned (orderings_of made.items) (orderings_of more.items) found → Gives step input old (Sorted turned more) found
  gives_sorted step input found x = record {
    chosen = λ m choice first here. absurd (subst (λ o. IsAt o m choice first) is here);
    sorted = λ kept t os has. (
        let a = subst (λ o. HasMade o kept t os) is has in
        (orderings_of more.items, (a.0, a.1, refl), subst (λ u. IsStableStep step input u os (orderings_of more.items) found) a.1 (subst (λ ms. IsStableStep step input turned ms (orderings_of more.items) found) a.2 x)));
  }

  pub indexes_sorted : (w : WindowRule) (rows : List Row) (indexes : List ClassIndex) → AreAllPut w.classes (Ok rows) turned (orderings_of made.items) (orderings_of more.items)
      → AreClassIndexes w rows (orderings_of more.items) (length (orderings_of made.items)) (length w.classes) indexes → AreNextIndexes w rows old (Sorted turned more) indexes
  indexes_sorted w rows indexes p x = record {
    chosen = λ m choice first here. absurd (subst (λ o. IsAt o m choice first) is here);
    sorted = λ kept t os has. (
        let a = subst (λ o. HasMade o kept t os) is has in (
          orderings_of more.items,
          (a.0, a.1, refl),
          subst (λ u. AreAllPut w.classes (Ok rows) u os (orderings_of more.items)) a.1 (subst (λ ms. AreAllPut w.classes (Ok rows) turned ms (orderings_of more.items)) a.2 p),
          subst (λ ms. AreClassIndexes w rows (orderings_of more.items) (length ms) (length w.classes) indexes) a.2 x,
        ));
  }

  pub empty_sorted : (count : ℕ) → IsPutEmpty count (orderings_of made.items) (orderings_of more.items) → AreNextEmpty count old (Sorted turned more)
  empty_sorted count x = record {
    chosen = λ m choice first here. absurd (subst (λ o. IsAt o m choice first) is here);
    sorted = λ kept t os has. (let a = subst (λ o. HasMade o kept t os) is has in (orderings_of more.items, (a.0, a.1, refl), subst (λ ms. IsPutEmpty count ms (orderings_of more.items)) a.2 x));
  }

-- ---- sorted orderings of which none is kept

module _ (old : Orderings) (is : old ≡ Stable) where
  -- whichever were made before
  still : (kept : Bool) (turned : Option Turned) (made more : List (List ℕ)) → HasMade old kept turned made → HasMade old kept turned more × (None ≡ turned)
  still kept turned made more has =
      let a = subst (λ o. HasMade o kept turned made) is has in
      (subst (λ o. HasMade o kept turned more) (sym is) a, sym a.1)

  pub gives_stable : (step : Step) (input : RowsOrFault) (found : RowsOrFault) (made more : List (List ℕ)) → IsStableStep step input None made more found → Gives step input old old found
  gives_stable step input found made more x = record {
    chosen = λ m choice first here. absurd (subst (λ o. IsAt o m choice first) is here);
    sorted = λ kept t os has. (
        let again = step_again step input made more found os x in
        let a = still kept t os again.0 has in
        (again.0, a.0, subst (λ u. IsStableStep step input u os again.0 found) a.1 again.1));
  }

  pub indexes_stable : (w : WindowRule) (rows : List Row) (indexes : List ClassIndex) (made more : List (List ℕ)) → AreAllPut w.classes (Ok rows) None made more
      → AreClassIndexes w rows more (length made) (length w.classes) indexes → AreNextIndexes w rows old old indexes
  indexes_stable w rows indexes made more p x = record {
    chosen = λ m choice first here. absurd (subst (λ o. IsAt o m choice first) is here);
    sorted = λ kept t os has. (
        let all = os ++ p.own in
        let a = still kept t os all has in (
          all,
          a.0,
          subst (λ u. AreAllPut w.classes (Ok rows) u os all) a.1 (put_again w.classes (Ok rows) made more p os),
          indexes_again w.classes (Ok rows) made more p os w rows (length w.classes) indexes x,
        ));
  }

  pub empty_stable : (count : ℕ) → AreNextEmpty count old old
  empty_stable count = record {
    chosen = λ m choice first here. absurd (subst (λ o. IsAt o m choice first) is here);
    sorted = λ kept t os has. (let some = some_empty count os in (some.0, (still kept t os some.0 has).0, some.1));
  }

-- ---- a Window

module _ (w : WindowRule) (rows : List Row) (new : Orderings) (indexes : List ClassIndex) where
  long_indexes : (old : Orderings) → AreNextIndexes w rows old new indexes → length indexes ≡ length w.classes
  long_indexes (Chosen own next most) a = (a.chosen most (orderings_of own.now) next (refl, refl, refl)).1.long
  long_indexes (Sorted turned made) a = (a.sorted true turned (orderings_of made.items) (refl, refl, refl)).3.long
  long_indexes Stable a = (a.sorted false None [] (refl, refl)).3.long

  -- its calls name classes that have partitions
  pub name_indexes : (old : Orderings) → NamesClasses w → AreNextIndexes w rows old new indexes → NameBelow (length indexes) w.calls
  name_indexes old named a = subst (λ n. NameBelow n w.calls) (sym (long_indexes old a)) named

pub rows_given : (w : WindowRule) (old new : Orderings) (rows : List Row) (indexes : List ClassIndex) (found : RowsOrFault) → AreNextIndexes w rows old new indexes → WhereIndexed w rows indexes (λ orderings. found ≡ window_outcome w rows orderings) → Gives (Window w) (Ok rows) old new found
rows_given w old new rows indexes found a is = record {
  chosen = λ most choice first at. (let x = a.chosen most choice first at in (x.0, rows_done w rows choice first indexes found x.1 is));
  sorted = λ kept turned made has. (let x = a.sorted kept turned made has in (x.0, x.1, record { put = x.2; stepped = rows_done w rows x.0 (length made) indexes found x.3 is }));
}

-- ---- a step over a fault

module _ (step : Step) (fault : Fault) (old new : Orderings) (n : ℕ) (long : n ≡ length (step_classes step)) where
  pub fault_given : AreNextEmpty n old new → Gives step (Err fault) old new (Err fault)
  fault_given a = record {
    chosen = λ most choice first at. (let x = a.chosen most choice first at in (subst (λ k. IsAt new most choice (first + k)) long x.0, fault_done step fault choice first n long x.1));
    sorted = λ kept turned made has. (let x = a.sorted kept turned made has in (x.0, x.1, fault_tied step fault turned n made x.0 long x.2));
  }

  pub fault_stops : (e : EvalError) → AreNotEmpty n old e → Stops step (Err fault) old e
  fault_stops e a = record {
    chosen = λ most choice first at. fault_unserved step fault choice first n long e (a.chosen most choice first at);
    sorted = λ kept turned made has. a.sorted kept turned made has;
  }

-- under a choice's orderings from a number on
pub extended_under : {X : Type 0} (view : X → RowsOrFault) (w : WindowRule) (input : RowsOrFault) (choice : Bor (List (Vec ℕ Global))) (first most : ℕ) (new : Orderings) (r : Result X EvalError)
    → GivesOrStops view (Window w) input (Chosen choice first most) new r → IsExtendedOrUnserved view w input (orderings_of choice.now) first r
extended_under view w input choice first most new (Ok x) g = record { ok = (g.ok.chosen most (orderings_of choice.now) first (refl, refl, refl)).1; refused = tt }
extended_under view w input choice first most new (Err e) g = record { ok = tt; refused = g.refused.chosen most (orderings_of choice.now) first (refl, refl, refl) }
