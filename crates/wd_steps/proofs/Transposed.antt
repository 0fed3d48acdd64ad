-- The values of expressions over rows, found column by column: the least fault is the same as row by row, and so are the values.
use Rattle.std.proofs.Common.{◌≡◌, ◌∙◌, Bool, true, false, cond, ◌||◌, List, [], ◌∷◌, map, length, Option, Some, None, Result, Ok, Err, refl, sym, ap}
use Rattle.std.specs.List.{list_any}
use Rattle.wd_value.specs.declared.value.Value.{Value}
use Rattle.wd_value.specs.declared.value.Value.TheVariants.{Null}
use Rattle.wd_value.specs.declared.value.Fault.{Fault}
use Rattle.wd_value.specs.declared.value.Fault.TheVariants.{DivisionByZero, OutOfRange}
use Rattle.wd_value.specs.Rows.{Row}
use Rattle.wd_column_store.specs.Along.{rows_along}
use Rattle.wd_column_store.proofs.Copied.{values_along}
use Rattle.wd_plan.specs.Expressions.{Expression, value_of}
use Rattle.wd_plan.specs.Faults.{all_ok, has_fault, least_fault, unless, values_among}
use Rattle.wd_plan.specs.Outcomes.{map_outcome}
use Rattle.wd_steps.proofs.Results.{IsGathered, some_fault}

-- ---- whether any of the results has a fault

or_shuffle : (a b c d : Bool) → ((a || b) || (c || d)) ≡ ((a || c) || (b || d))
or_shuffle true b c d = refl
or_shuffle false true true d = refl
or_shuffle false true false d = refl
or_shuffle false false c d = refl

-- the least of faults that are there or not
abbrev least : Bool → Bool → Option Fault
least zero_divided past = cond zero_divided (Some DivisionByZero) (cond past (Some OutOfRange) None)

module _ {X : Type 0} where
  zero_divided : (d o : Bool) (x : X) → has_fault DivisionByZero (unless (least d o) x) ≡ d
  zero_divided true o x = refl
  zero_divided false true x = refl
  zero_divided false false x = refl

  past_range : (o : Bool) (x : X) → has_fault OutOfRange (unless (least false o) x) ≡ o
  past_range true x = refl
  past_range false x = refl

neither : (a b : Bool) → (a || b) ≡ false → (a ≡ false) × (b ≡ false)
neither true b e = absurd (cc e)
neither false b e = (refl, e)

module _ {A B X : Type 0} (f : A → B → Result X Fault) where
  -- the results of each of the first with all of the second
  abbrev lines : List A → List B → List (Result (List X) Fault)
  lines xs ys = map (λ a. all_ok (map (f a) ys)) xs

  -- whether one of all these results has the fault
  abbrev any : Fault → List A → List B → Bool
  any fault xs ys = list_any (λ a. list_any (has_fault fault) (map (f a) ys)) xs

  any_zero_divided : (xs : List A) (ys : List B) → list_any (has_fault DivisionByZero) (lines xs ys) ≡ any DivisionByZero xs ys
  any_zero_divided [] ys = refl
  any_zero_divided (a ∷ xs) ys =
      let rs = map (f a) ys in
      let here = zero_divided (list_any (has_fault DivisionByZero) rs) (list_any (has_fault OutOfRange) rs) (values_among rs) in
      λ i. here i || any_zero_divided xs ys i

  any_past_range : (xs : List A) (ys : List B) → any DivisionByZero xs ys ≡ false → list_any (has_fault OutOfRange) (lines xs ys) ≡ any OutOfRange xs ys
  any_past_range [] ys none = refl
  any_past_range (a ∷ xs) ys none =
      let rs = map (f a) ys in
      let both = neither (list_any (has_fault DivisionByZero) rs) (any DivisionByZero xs ys) none in
      ap (λ d. has_fault OutOfRange (unless (least d (list_any (has_fault OutOfRange) rs)) (values_among rs)) || list_any (has_fault OutOfRange) (lines xs ys)) both.0
      ∙ (λ i. past_range (list_any (has_fault OutOfRange) rs) (values_among rs) i || any_past_range xs ys both.1 i)

  -- the least fault of the lines is that of all their results
  least_any : (xs : List A) (ys : List B) → least_fault (lines xs ys) ≡ least (any DivisionByZero xs ys) (any OutOfRange xs ys)
  least_any xs ys = ap (λ d. least d (list_any (has_fault OutOfRange) (lines xs ys))) (any_zero_divided xs ys) ∙ by (any DivisionByZero xs ys) refl
    where
      by : (d : Bool) → any DivisionByZero xs ys ≡ d → least (any DivisionByZero xs ys) (list_any (has_fault OutOfRange) (lines xs ys)) ≡ least (any DivisionByZero xs ys) (any OutOfRange xs ys)
      by true e = rw e refl
      by false e = ap (least (any DivisionByZero xs ys)) (any_past_range xs ys e)

  or_lines : (fault : Fault) (a : A) (xs : List A) (ys : List B) → (list_any (has_fault fault) (map (f a) ys) || list_any (λ b. list_any (has_fault fault) (map (λ x. f x b) xs)) ys) ≡ list_any (λ b. list_any (has_fault fault) (map (λ x. f x b) (a ∷ xs))) ys
  or_lines fault a xs [] = refl
  or_lines fault a xs (b ∷ ys) =
      or_shuffle (has_fault fault (f a b)) (list_any (has_fault fault) (map (f a) ys)) (list_any (has_fault fault) (map (λ x. f x b) xs)) (list_any (λ y. list_any (has_fault fault) (map (λ x. f x y) xs)) ys)
      ∙ ap (λ rest. (has_fault fault (f a b) || list_any (has_fault fault) (map (λ x. f x b) xs)) || rest) (or_lines fault a xs ys)

no_line : {B : Type 0} (ys : List B) → false ≡ list_any (λ b. false) ys
no_line [] = refl
no_line (b ∷ ys) = no_line ys

-- whether they are looked at line by line or across
any_swapped : {A B X : Type 0} (f : A → B → Result X Fault) (fault : Fault) (xs : List A) (ys : List B) → any f fault xs ys ≡ any (λ b a. f a b) fault ys xs
any_swapped f fault [] ys = no_line ys
any_swapped f fault (a ∷ xs) ys = ap (λ rest. list_any (has_fault fault) (map (f a) ys) || rest) (any_swapped f fault xs ys) ∙ or_lines f fault a xs ys

least_swapped : {A B X : Type 0} (f : A → B → Result X Fault) (xs : List A) (ys : List B) → least_fault (lines f xs ys) ≡ least_fault (lines (λ b a. f a b) ys xs)
least_swapped f xs ys =
    least_any f xs ys
    ∙ (λ i. least (any_swapped f DivisionByZero xs ys i) (any_swapped f OutOfRange xs ys i))
    ∙ sym (least_any (λ b a. f a b) ys xs)

-- ---- the values, where there is no fault

-- the value of a result
abbrev value_in : Result Value Fault → Value
value_in (Ok v) = v
value_in (Err fault) = Null

all_values_in : {B : Type 0} (g : B → Result Value Fault) (ys : List B) → least_fault (map g ys) ≡ None → values_among (map g ys) ≡ map (λ b. value_in (g b)) ys
all_values_in g [] none = refl
all_values_in g (b ∷ ys) none = by (g b) refl (all_values_in g ys)
  where
    first : (r : Result Value Fault) → g b ≡ r → least_fault (r ∷ map g ys) ≡ None
    first r is = ap (λ q. least_fault (q ∷ map g ys)) (sym is) ∙ none

    by : (r : Result Value Fault) → g b ≡ r → (least_fault (map g ys) ≡ None → values_among (map g ys) ≡ map (λ y. value_in (g y)) ys) → values_among (g b ∷ map g ys) ≡ value_in (g b) ∷ map (λ y. value_in (g y)) ys
    by (Ok v) is rest = ap (λ r. values_among (r ∷ map g ys)) is ∙ ap (λ vs. v ∷ vs) (rest (first (Ok v) is)) ∙ ap (λ r. value_in r ∷ map (λ y. value_in (g y)) ys) (sym is)
    by (Err DivisionByZero) is rest = absurd (cc (first (Err DivisionByZero) is))
    by (Err OutOfRange) is rest = absurd (some_fault (list_any (has_fault DivisionByZero) (map g ys)) (first (Err OutOfRange) is))

module _ {A B : Type 0} (f : A → B → Result Value Fault) where
  -- all the values of each line
  line_values : (xs : List A) (ys : List B) → least_fault (lines f xs ys) ≡ None → values_among (lines f xs ys) ≡ map (λ a. map (λ b. value_in (f a b)) ys) xs
  line_values [] ys none = refl
  line_values (a ∷ xs) ys none = by (least_fault (map (f a) ys)) refl (line_values xs ys)
    where
      rs : List (Result Value Fault)
      rs = map (f a) ys

      first : (o : Option Fault) → least_fault rs ≡ o → least_fault (unless o (values_among rs) ∷ lines f xs ys) ≡ None
      first o is = ap (λ x. least_fault (unless x (values_among rs) ∷ lines f xs ys)) (sym is) ∙ none

      by : (o : Option Fault) → least_fault rs ≡ o → (least_fault (lines f xs ys) ≡ None → values_among (lines f xs ys) ≡ map (λ x. map (λ y. value_in (f x y)) ys) xs) → values_among (lines f (a ∷ xs) ys) ≡ map (λ x. map (λ y. value_in (f x y)) ys) (a ∷ xs)
      by None is rest = ap (λ x. values_among (unless x (values_among rs) ∷ lines f xs ys)) is ∙ (λ i. all_values_in (f a) ys is i ∷ rest (first None is) i)
      by (Some DivisionByZero) is rest = absurd (cc (first (Some DivisionByZero) is))
      by (Some OutOfRange) is rest = absurd (some_fault (list_any (has_fault DivisionByZero) (lines f xs ys)) (first (Some OutOfRange) is))

-- ---- a Map

-- the columns of the expressions' values, gathered one after another
pub by_columns : (es : List Expression) (rows columns : List Row) (fault : Option Fault) → IsGathered (map (λ e. all_ok (map (value_of e) rows)) es) columns fault → unless fault (rows_along columns (length rows)) ≡ map_outcome es rows
by_columns es rows columns fault gathered = by fault refl
  where
    by_row : List (Result Row Fault)
    by_row = lines (λ row e. value_of e row) rows es

    fault_is : fault ≡ least_fault by_row
    fault_is = gathered.fault_is ∙ least_swapped value_of es rows

    by : (o : Option Fault) → fault ≡ o → unless fault (rows_along columns (length rows)) ≡ map_outcome es rows
    by (Some found) is = ap (λ o. unless o (rows_along columns (length rows))) is ∙ ap (λ o. unless o (values_among by_row)) (sym is ∙ fault_is)
    by None is =
        ap (λ o. unless o (rows_along columns (length rows))) is
        ∙ ap Ok (ap (λ cs. rows_along cs (length rows)) (gathered.values_are ∙ line_values value_of es rows (sym gathered.fault_is ∙ is)) ∙ values_along (λ e row. value_in (value_of e row)) rows es (length rows) refl ∙ sym (line_values (λ row e. value_of e row) rows es (sym fault_is ∙ is)))
        ∙ ap (λ o. unless o (values_among by_row)) (sym is ∙ fault_is)
