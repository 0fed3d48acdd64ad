-- The orderings of a step's classes, one by one and together.
use Rattle.std.proofs.Common.{◌≡◌, ℕ, zero, suc, ◌+◌, ◌<◌, ◌≤◌, false, List, [], ◌∷◌, take, drop, length, get_or, ◌++◌, below_more, length-append, Result, Ok, Err, refl, sym, ap, ◌∙◌, subst, arith, length-drop, length-take}
use Rattle.std.specs.List.{AllByRecursion}
use Rattle.std.proofs.lemmas.List.{get_or-take, get_or-drop, get_or-map, get_or_append_left, length-map}
use Rattle.std.proofs.Math.Seq.{drop-cons, get_or-append_seam}
use Rattle.wd_value.specs.declared.value.Fault.{Fault}
use Rattle.wd_value.specs.Rows.{Row}
use Rattle.wd_plan.specs.declared.window.Class.{Class}
use Rattle.wd_plan.specs.declared.window.Window.{Window}
use Rattle.wd_plan.specs.Choices.{AreOrderingsOver, AtRows}
use Rattle.wd_plan.specs.Outcomes.{RowsOrFault, class_among, class_at, ordering_at, window_outcome}
use Rattle.wd_plan.specs.Plans.{ClassRule, Limit, LimitRule, Step, Window as WindowStep, WindowRule, class_of, step_classes, window_of}
use Rattle.wd_plan.specs.Sorting.{IsOrdering, limit_class}
use Rattle.wd_eval.specs.Nodes.{IsLimited, IsLimitedOrUnserved}
use Rattle.wd_eval.specs.Windows.{AreServed, AreUnserved, HasOrdering, IsLeast, IsStepped, IsSteppedOrUnserved, IsUnserved, IsWrong, step_over}
use Rattle.wd_eval.specs.declared.error.EvalError.{EvalError}
use Rattle.wd_eval.specs.declared.error.EvalError.TheVariants.{NotValid, TooManyRows, OutOfMemory}
use Rattle.wd_eval.specs.ClassIndexes.{AreEmpty, AreIndexed, AreClassIndexes, IsEmptyAt, IsIndexed, IsClassIndexIn, IsNotEmptyIn, WhereIndexed, asks_keys}
use Rattle.wd_eval.specs.declared.class_index.ClassIndex.{ClassIndex}

own_at : (choice : List (List ℕ)) (first m k : ℕ) → k < m → ordering_at (take m (drop first choice)) k ≡ ordering_at choice (first + k)
own_at choice first m k h = get_or-take m (drop first choice) k [] h ∙ get_or-drop first choice k []

length_own : (choice : List (List ℕ)) (first m : ℕ) → first + m ≤ length choice → length (take m (drop first choice)) ≡ m
length_own choice first m h = let a = length-take m (drop first choice) in let b = length-drop first choice in omega arith

-- the class with a number
pub class_is : (window : Window) (class : Class) (n : ℕ) → n < length window.classes.items → class ≡ get_or window.classes.items n class → class_of class ≡ class_at (window_of window) n
class_is window class n lt is = sym (get_or-map class_of window.classes.items n class (record { partition = []; order = [] }) lt ∙ ap class_of (sym is))

-- the first class without a valid ordering stops its Window
pub class_unserved : (window : Window) (class : Class) (rows : List Row) (choice : List (List ℕ)) (first k : ℕ) (indexes : List ClassIndex) → k < length window.classes.items → class ≡ get_or window.classes.items k class
    → AreClassIndexes (window_of window) rows choice first k indexes → (HasOrdering (class_of class) (Ok rows) choice (first + k) → ⊥) → AreUnserved (window_of window).classes (Ok rows) choice first (NotValid (first + k))
class_unserved window class rows choice first k indexes lt is a h =
    let classes = window.classes.items in
    let long = length-map classes class_of in
    let there = a.present in (
      record {
        number = k;
        within = omega arith;
        wrong = subst (λ (rule : ClassRule). IsWrong rule (Ok rows) choice (first + k) (first + k)) (class_is window class k lt is) (refl, h);
      },
      λ m earlier x. (
          let at = x.wrong.0 in
          let before : x.number < k = omega arith in
          x.wrong.1 (record {
            present = omega arith;
            lawful = (a.each x.number (record { partitions = []; desc = false }) before).lawful;
          })),
    )

-- the partitions of one class more
pub indexes_more : (w : WindowRule) (rows : List Row) (choice : List (List ℕ)) (first n : ℕ) (ls more : List ClassIndex) (l : ClassIndex)
    → AreClassIndexes w rows choice first n ls → IsIndexed (class_at w n) (asks_keys w n) rows choice (first + n) l → more ≡ ls ++ l ∷ [] → AreClassIndexes w rows choice first (n + 1) more
indexes_more w rows choice first n ls more l a b e =
    let there = b.present in
    let long = a.long in
    let last : (d : ClassIndex) → get_or more n d ≡ l = λ d. ap (λ xs. get_or xs n d) e ∙ ap (λ k. get_or (ls ++ l ∷ []) k d) (sym long) ∙ get_or-append_seam ls l [] d in
    let earlier : (k : ℕ) → k < n → (d : ClassIndex) → IsClassIndexIn w k rows (ordering_at choice (first + k)) (get_or more k d) =
    λ k h d. (let within : k < length ls = omega arith in subst (λ (x : ClassIndex). IsClassIndexIn w k rows (ordering_at choice (first + k)) x) (sym (ap (λ xs. get_or xs k d) e ∙ get_or_append_left ls (l ∷ []) d k within)) (a.each k d h)) in
    let here : (d : ClassIndex) → IsClassIndexIn w n rows (ordering_at choice (first + n)) (get_or more n d) =
    λ d. subst (λ (x : ClassIndex). IsClassIndexIn w n rows (ordering_at choice (first + n)) x) (sym (last d)) b.is in
    record {
      long = ap length e ∙ length-append ls (l ∷ []) ∙ ap (λ k. k + 1) long;
      present = omega arith;
      each = λ k d h. below_more (λ i. (d : ClassIndex) → IsClassIndexIn w i rows (ordering_at choice (first + i)) (get_or more i d)) n earlier here k h d;
    }

module _ (w : WindowRule) (rows : List Row) (choice : List (List ℕ)) (first : ℕ) where
  abbrev own : List (List ℕ)
  own = take (length w.classes) (drop first choice)

  pub listed : (indexes : List ClassIndex) → AreClassIndexes w rows choice first (length w.classes) indexes → AreIndexed w rows own indexes
  listed indexes a = record {
    long = a.long;
    each = λ k l h. subst (λ (o : List ℕ). IsClassIndexIn w k rows o (get_or indexes k l)) (sym (own_at choice first (length w.classes) k h)) (a.each k l h);
  }

  pub served : (indexes : List ClassIndex) → AreClassIndexes w rows choice first (length w.classes) indexes → AreServed w.classes (Ok rows) choice first
  served indexes a = record {
    present = a.present;
    lawful = record {
      number = length_own choice first (length w.classes) a.present;
      each = λ k h. ((listed indexes a).each k (record { partitions = []; desc = false }) h).lawful;
    };
  }

  pub rows_done : (indexes : List ClassIndex) (found : RowsOrFault) → AreClassIndexes w rows choice first (length w.classes) indexes
      → WhereIndexed w rows indexes (λ orderings. found ≡ window_outcome w rows orderings) → IsStepped (WindowStep w) (Ok rows) choice first found
  rows_done indexes found a is = record { served = served indexes a; is = is own (listed indexes a) }

-- ---- an input that is a fault

pub all_from_each : (xs : List (List ℕ)) → ((k : ℕ) → k < length xs → get_or xs k [] ≡ []) → AllByRecursion (λ o. o ≡ []) xs
all_from_each [] h = tt
all_from_each (x ∷ xs) h = (h 0 (omega arith), all_from_each xs (λ k lt. h (suc k) (omega arith)))

each_from_all : (xs : List (List ℕ)) (k : ℕ) → AllByRecursion (λ o. o ≡ []) xs → get_or xs k [] ≡ []
each_from_all [] k a = refl
each_from_all (x ∷ xs) zero a = a.0
each_from_all (x ∷ xs) (suc k) a = each_from_all xs k a.1

module _ (step : Step) (fault : Fault) (choice : List (List ℕ)) (first n : ℕ) (long : n ≡ length (step_classes step)) where
  pub fault_done : AreEmpty n choice first → IsStepped step (Err fault) choice first (Err fault)
  fault_done a =
      let there = a.present in
      let count = length (step_classes step) in
      let enough : first + count ≤ length choice = omega arith in
      let size = length_own choice first count enough in
      record {
        served = record {
          present = enough;
          lawful = all_from_each (take count (drop first choice)) (λ k h. (let lt : k < count = omega arith in own_at choice first count k lt ∙ a.empty k (omega arith)));
        };
        is = refl;
      }

  pub fault_unserved : (e : EvalError) → IsUnserved (IsLeast (IsNotEmptyIn n choice first)) e → AreUnserved (step_classes step) (Err fault) choice first e
  fault_unserved TooManyRows h = absurd h
  fault_unserved OutOfMemory h = tt
  fault_unserved (NotValid place) h =
      let small = h.0.within in (
        record {
          number = h.0.number;
          within = omega arith;
          wrong = (h.0.at, λ o. h.0.wrong (record { present = o.present; empty = o.lawful }));
        },
        λ m earlier x. (let few = x.within in h.1 m earlier (record {
          number = x.number;
          within = omega arith;
          at = x.wrong.0;
          wrong = λ o. x.wrong.1 (record { present = o.present; lawful = o.empty });
        })),
      )

-- the first ordering that is not empty
pub empty_unserved : (count : ℕ) (choice : List (List ℕ)) (first k : ℕ) → k < count → AreEmpty k choice first → (IsEmptyAt choice (first + k) → ⊥) → IsLeast (IsNotEmptyIn count choice first) (first + k)
empty_unserved count choice first k lt a filled = (
  record { number = k; within = lt; at = refl; wrong = filled },
  λ m earlier w. (
      let at = w.at in
      let there = a.present in
      let before : w.number < k = omega arith in
      w.wrong (record { present = omega arith; empty = a.empty w.number before })),
)

-- ---- each class that is served

pub class_served : (classes : List ClassRule) (input : RowsOrFault) (choice : List (List ℕ)) (first k : ℕ) → AreServed classes input choice first → k < length classes → HasOrdering (class_among classes k) input choice (first + k)
class_served classes (Ok rows) choice first k s lt =
    let there = s.present in
    record {
      present = omega arith;
      lawful = subst (λ (o : List ℕ). IsOrdering (class_among classes k) rows o) (own_at choice first (length classes) k lt) (s.lawful.each k lt);
    }
class_served classes (Err fault) choice first k s lt =
    let there = s.present in
    record {
      present = omega arith;
      lawful = sym (own_at choice first (length classes) k lt) ∙ each_from_all (take (length classes) (drop first choice)) k s.lawful;
    }

-- ---- a step without classes

none_served : (input : RowsOrFault) (choice : List (List ℕ)) (first : ℕ) → first ≤ length choice → AreServed [] input choice first
none_served (Ok rows) choice first h = record { present = omega arith; lawful = record { number = refl; each = λ k lt. absurd (omega arith) } }
none_served (Err fault) choice first h = record { present = omega arith; lawful = tt }

pub bare_stepped : (step : Step) (input : RowsOrFault) (choice : List (List ℕ)) (first : ℕ) (found : RowsOrFault) → step_classes step ≡ [] → first ≤ length choice → found ≡ step_over step [] input → IsStepped step input choice first found
bare_stepped step input choice first found bare h is = record {
  served = subst (λ (classes : List ClassRule). AreServed classes input choice first) (sym bare) (none_served input choice first h);
  is = is ∙ ap (λ classes. step_over step (take (length classes) (drop first choice)) input) (sym bare);
}

-- ---- a step with one class

one_taken : (choice : List (List ℕ)) (number : ℕ) → number < length choice → take 1 (drop number choice) ≡ ordering_at choice number ∷ []
one_taken choice number h = ap (take 1) (drop-cons choice number [] h)

one_lawful : (class : ClassRule) (input : RowsOrFault) (ordering : List ℕ) → AtRows input (λ rows. IsOrdering class rows ordering) (ordering ≡ []) → AreOrderingsOver (class ∷ []) input (ordering ∷ [])
one_lawful class (Err fault) ordering h = (h, tt)
one_lawful class (Ok rows) ordering h = record { number = refl; each = by }
  where
    by : (k : ℕ) → k < 1 → IsOrdering (class_among (class ∷ []) k) rows (ordering_at (ordering ∷ []) k)
    by zero lt = h
    by (suc k) lt = absurd (omega arith)

pub one_served : (class : ClassRule) (input : RowsOrFault) (choice : List (List ℕ)) (number : ℕ) → HasOrdering class input choice number → AreServed (class ∷ []) input choice number
one_served class input choice number h = record {
  present = (let there = h.present in omega arith);
  lawful = subst (AreOrderingsOver (class ∷ []) input) (sym (one_taken choice number h.present)) (one_lawful class input (ordering_at choice number) h.lawful);
}

pub limited_stepped : (limit : LimitRule) (input : RowsOrFault) (choice : List (List ℕ)) (number : ℕ) (found : RowsOrFault) → IsLimited limit input choice number found → IsStepped (Limit limit) input choice number found
limited_stepped limit input choice number found h = record {
  served = one_served (limit_class limit) input choice number h.served;
  is = h.is ∙ ap (λ own. step_over (Limit limit) own input) (sym (one_taken choice number h.served.present));
}

one_unserved : (class : ClassRule) (input : RowsOrFault) (choice : List (List ℕ)) (number : ℕ) (e : EvalError) → IsUnserved (IsWrong class input choice number) e → AreUnserved (class ∷ []) input choice number e
one_unserved class input choice number (NotValid place) w =
    let same : number ≡ number + 0 = omega arith in (
      record { number = 0; within = omega arith; wrong = subst (λ (n : ℕ). IsWrong class input choice n place) same w },
      λ m earlier x. (let few = x.within in let at = x.wrong.0 in let here = w.0 in omega arith),
    )
one_unserved class input choice number TooManyRows h = h
one_unserved class input choice number OutOfMemory h = tt

pub limited_or_unserved : {X : Type 0} (view : X → RowsOrFault) (limit : LimitRule) (input : RowsOrFault) (choice : List (List ℕ)) (number : ℕ) (r : Result X EvalError) → IsLimitedOrUnserved view limit input choice number r → IsSteppedOrUnserved view (Limit limit) input choice number r
limited_or_unserved view limit input choice number (Ok x) h = record { ok = limited_stepped limit input choice number (view x) h.ok; refused = tt }
limited_or_unserved view limit input choice number (Err e) h = record { ok = tt; refused = one_unserved (limit_class limit) input choice number e h.refused }
