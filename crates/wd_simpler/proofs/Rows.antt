-- Facts of each row of an outcome.
use Rattle.std.proofs.Common.{◌≡◌, ℕ, zero, suc, ◌<◌, List, [], ◌∷◌, ◌++◌, map, length, refl, sym, ◌∙◌, ap, arith, Some, slice_get, get_or, Result, Ok, Err, zero-add}
use Rattle.std.specs.List.{AllByRecursion}
use Rattle.std.proofs.lemmas.List.FromFn.{get_or-range_with_len, length-range_with_len}
use Rattle.std.proofs.lemmas.Option.{get_or_from_slice_get, slice_get_within}
use Rattle.wd_value.specs.Bags.{positions}
use Rattle.wd_value.specs.declared.value.Fault.{Fault}
use Rattle.wd_value.specs.declared.value.Value.{Value}
use Rattle.wd_value.specs.declared.value.Value.TheVariants.{Null}
use Rattle.wd_value.specs.Rows.{Row, column_of, row_at}
use Rattle.wd_laws.proofs.AllValues.{AllOk, all_ok_each}
use Rattle.wd_laws.proofs.Widths.{AllRows}
use Rattle.wd_plan.specs.Choices.{AreOrderings, AreOrderingsOver, AtRows}
use Rattle.wd_plan.specs.Faults.{all_ok, and_then}
use Rattle.wd_plan.specs.Outcomes.{RowsOrFault, extended, step_outcome, window_outcome}
use Rattle.wd_plan.specs.Plans.{Step, WindowRule, step_classes}

pub of_any : (P : Row → Type 0) → ((row : Row) → P row) → (rows : List Row) → AllByRecursion P rows
of_any P h [] = tt
of_any P h (row ∷ rows) = (h row, of_any P h rows)

pub at_any : (P : Row → Type 0) → ((row : Row) → P row) → (r : RowsOrFault) → AllRows P r
at_any P h (Ok rows) = of_any P h rows
at_any P h (Err fault) = tt

pub then_all : (P Q : List Row → Type 0) (R : Row → Type 0) (r : RowsOrFault) (f : List Row → RowsOrFault) → ((rows : List Row) → P rows → Q rows → AllRows R (f rows)) → AtRows r P (Unit {0}) → AtRows r Q (Unit {0}) → AllRows R (and_then r f)
then_all P Q R (Ok rows) f h p q = h rows p q
then_all P Q R (Err fault) f h p q = tt

pub step_all : (P Q : List Row → Type 0) (R : Row → Type 0) (step : Step) (own : List (List ℕ)) (r : RowsOrFault) → ((rows : List Row) → P rows → Q rows → AreOrderings (step_classes step) rows own → AllRows R (step_outcome step own rows))
    → AtRows r P (Unit {0}) → AtRows r Q (Unit {0}) → AreOrderingsOver (step_classes step) r own → AllRows R (and_then r (step_outcome step own))
step_all P Q R step own (Ok rows) h p q lawful = h rows p q lawful
step_all P Q R step own (Err fault) h p q lawful = tt

pub at_each : (P : Row → Type 0) (rows : List Row) (p : ℕ) → AllByRecursion P rows → p < length rows → P (row_at rows p)
at_each P [] p a h = absurd (omega arith)
at_each P (row ∷ rows) zero a h = a.0
at_each P (row ∷ rows) (suc p) a h = at_each P rows p a.1 (omega arith)

pub from_each : (P : Row → Type 0) (rows : List Row) → ((p : ℕ) → p < length rows → P (row_at rows p)) → AllByRecursion P rows
from_each P [] h = tt
from_each P (row ∷ rows) h = (h 0 (omega arith), from_each P rows (λ p k. h (suc p) (omega arith)))

-- rows that are made one by one
pub all_made : {X : Type 0} (d : X) (P : Row → Type 0) (f : X → Result Row Fault) (xs : List X) → ((p : ℕ) (row : Row) → p < length xs → f (get_or xs p d) ≡ Ok row → P row) → AllRows P (all_ok (map f xs))
all_made d P f xs h = by (all_ok (map f xs)) refl
  where
    by : (r : RowsOrFault) → all_ok (map f xs) ≡ r → AllRows P r
    by (Err fault) e = tt
    by (Ok rows) e =
        let all = all_ok_each f xs rows e in
        from_each P rows (λ p k. h p (row_at rows p) (omega (arith, all.long)) (all.each p d [] (omega (arith, all.long))))

-- the value of an item that has one
pub item_value : {A : Type 0} (f : A → Result Value Fault) (items : List A) (row : Row) → AllOk f items row → (c : ℕ) (a : A) → slice_get items c ≡ Some a → f a ≡ Ok (column_of row c)
item_value f items row all c a h = ap f (sym (get_or_from_slice_get items c a a h)) ∙ all.each c a Null (slice_get_within items c a h)

-- a row that is extended
pub record IsExtended (row : Row) (values : Result Row Fault) (extended : Row) : Type 0 where
  pub added : Row
  pub are : values ≡ Ok added
  pub is : extended ≡ row ++ added

pub is_extended : (row : Row) (values : Result Row Fault) (extended : Row) → and_then values (λ vs. Ok (row ++ vs)) ≡ Ok extended → IsExtended row values extended
is_extended row (Ok values) extended e = record { added = values; are = refl; is = let same : row ++ values ≡ extended = cc in sym same }
is_extended row (Err fault) extended e = absurd cc

-- the rows of a Window
pub window_rows : (P : Row → Type 0) (w : WindowRule) (rows : List Row) (orderings : List (List ℕ)) → ((p : ℕ) (row : Row) → p < length rows → extended w rows orderings p ≡ Ok row → P row) → AllRows P (window_outcome w rows orderings)
window_rows P w rows orderings h =
    all_made 0 P (extended w rows orderings) (positions (length rows))
    (λ p row k e.
    let within : p < length rows = omega (arith, length-range_with_len 0 (length rows)) in
    let at : get_or (positions (length rows)) p 0 ≡ p = get_or-range_with_len 0 (length rows) p 0 within ∙ zero-add p in
    h p row within (ap (extended w rows orderings) (sym at) ∙ e))

-- two facts of each row
pub both_rows : (P Q : Row → Type 0) (r : RowsOrFault) → AllRows P r → AllRows Q r → AllRows (λ row. P row × Q row) r
both_rows P Q (Ok rows) p q = both rows p q
  where
    both : (rows : List Row) → AllByRecursion P rows → AllByRecursion Q rows → AllByRecursion (λ row. P row × Q row) rows
    both [] p q = tt
    both (row ∷ rows) p q = ((p.0, q.0), both rows p.1 q.1)
both_rows P Q (Err fault) p q = tt

-- ---- lists

pub all_append : {X : Type 0} (P : X → Type 0) (xs ys : List X) → AllByRecursion P xs → AllByRecursion P ys → AllByRecursion P (xs ++ ys)
all_append P [] ys a b = b
all_append P (x ∷ xs) ys a b = (a.0, all_append P xs ys a.1 b)

pub map_same : {X Y : Type 0} (P : X → Type 0) (f g : X → Y) → ((x : X) → P x → f x ≡ g x) → (xs : List X) → AllByRecursion P xs → map f xs ≡ map g xs
map_same P f g h [] a = refl
map_same P f g h (x ∷ xs) a = λ i. h x a.0 i ∷ map_same P f g h xs a.1 i
