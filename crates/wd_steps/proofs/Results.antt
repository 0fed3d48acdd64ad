-- The least fault and the values of several results, where one more comes.
use Rattle.std.proofs.Common.{◌≡◌, ℕ, suc, ◌+◌, ◌<◌, Bool, true, false, cond, ◌||◌, List, [], ◌∷◌, ◌++◌, map, take, length, get_or, Option, Some, None, Result, Ok, Err, refl, sym, ap, ◌∙◌}
use Rattle.std.specs.List.{list_any}
use Rattle.std.proofs.lemmas.List.{take_more, map_push}
use Rattle.wd_value.specs.declared.value.Fault.{Fault}
use Rattle.wd_value.specs.declared.value.Fault.TheVariants.{DivisionByZero, OutOfRange}
use Rattle.wd_plan.specs.Faults.{has_fault, least_fault, values_among}
use Rattle.wd_steps.specs.Faults.{with_fault, with_result}

or_false : (b : Bool) → (b || false) ≡ b
or_false true = refl
or_false false = refl

or_assoc : (a b c : Bool) → (a || (b || c)) ≡ ((a || b) || c)
or_assoc true b c = refl
or_assoc false b c = refl

pub list_any-push : {X : Type 0} (t : X → Bool) (xs : List X) (x : X) → list_any t (xs ++ x ∷ []) ≡ (list_any t xs || t x)
list_any-push t [] x = or_false (t x)
list_any-push t (y ∷ ys) x = ap (λ b. t y || b) (list_any-push t ys x) ∙ or_assoc (t y) (list_any t ys) (t x)

least_step : {X : Type 0} (d o : Bool) (r : Result X Fault) → cond (d || has_fault DivisionByZero r) (Some DivisionByZero) (cond (o || has_fault OutOfRange r) (Some OutOfRange) None) ≡ with_result (cond d (Some DivisionByZero) (cond o (Some OutOfRange) None)) r
least_step true o (Ok x) = refl
least_step true o (Err f) = refl
least_step false true (Ok x) = refl
least_step false true (Err DivisionByZero) = refl
least_step false true (Err OutOfRange) = refl
least_step false false (Ok x) = refl
least_step false false (Err DivisionByZero) = refl
least_step false false (Err OutOfRange) = refl

pub least_fault-push : {X : Type 0} (rs : List (Result X Fault)) (r : Result X Fault) → least_fault (rs ++ r ∷ []) ≡ with_result (least_fault rs) r
least_fault-push rs r =
    (λ i. cond (list_any-push (has_fault DivisionByZero) rs r i) (Some DivisionByZero) (cond (list_any-push (has_fault OutOfRange) rs r i) (Some OutOfRange) None))
    ∙ least_step (list_any (has_fault DivisionByZero) rs) (list_any (has_fault OutOfRange) rs) r

pub values_among-push_ok : {X : Type 0} (rs : List (Result X Fault)) (x : X) → values_among (rs ++ Ok x ∷ []) ≡ values_among rs ++ x ∷ []
values_among-push_ok [] x = refl
values_among-push_ok (Ok y ∷ rs) x = ap (λ ys. y ∷ ys) (values_among-push_ok rs x)
values_among-push_ok (Err f ∷ rs) x = values_among-push_ok rs x

pub values_among-push_err : {X : Type 0} (rs : List (Result X Fault)) (f : Fault) → values_among (rs ++ Err f ∷ []) ≡ values_among rs
values_among-push_err [] f = refl
values_among-push_err (Ok y ∷ rs) f = ap (λ ys. y ∷ ys) (values_among-push_err rs f)
values_among-push_err (Err g ∷ rs) f = values_among-push_err rs f

-- the results of a list's first elements, one more
pub map_more : {A B : Type 0} (f : A → B) (xs : List A) (i : ℕ) (x : A) → i < length xs → x ≡ get_or xs i x → map f (take (i + 1) xs) ≡ map f (take i xs) ++ f x ∷ []
map_more f xs i x within is =
    ap (map f) (take_more xs i x within ∙ ap (λ y. take i xs ++ y ∷ []) (sym is)) ∙ map_push f (take i xs) x

-- what is made of the first elements of a list, one more
pub map-map_more : {A B C : Type 0} (g : B → C) (f : A → B) (xs : List A) (i : ℕ) (x : A) → i < length xs → x ≡ get_or xs i x → map g (map f (take (i + 1) xs)) ≡ map g (map f (take i xs)) ++ g (f x) ∷ []
map-map_more g f xs i x within is = ap (map g) (map_more f xs i x within is) ∙ map_push g (map f (take i xs)) (f x)

-- the values among results, and their least fault
pub record IsGathered {X : Type 0} (rs : List (Result X Fault)) (values : List X) (fault : Option Fault) : Type 0 where
  pub values_are : values ≡ values_among rs
  pub fault_is : fault ≡ least_fault rs

module _ {X : Type 0} {rs more : List (Result X Fault)} {values values' : List X} {fault fault' : Option Fault} (r : Result X Fault) (g : IsGathered rs values fault) (longer : more ≡ rs ++ r ∷ []) where
  -- a value more
  pub IsGathered-more_ok : (x : X) → r ≡ Ok x → values' ≡ values ++ x ∷ [] → fault' ≡ fault → IsGathered more values' fault'
  IsGathered-more_ok x is v f = record {
    values_are = v ∙ ap (λ ys. ys ++ x ∷ []) g.values_are ∙ sym (values_among-push_ok rs x) ∙ sym (ap values_among (longer ∙ ap (λ y. rs ++ y ∷ []) is));
    fault_is = f ∙ g.fault_is ∙ sym (ap least_fault (longer ∙ ap (λ y. rs ++ y ∷ []) is) ∙ least_fault-push rs (Ok x));
  }

  -- a fault more
  pub IsGathered-more_err : (found : Fault) → r ≡ Err found → values' ≡ values → fault' ≡ with_fault fault found → IsGathered more values' fault'
  IsGathered-more_err found is v f = record {
    values_are = v ∙ g.values_are ∙ sym (ap values_among (longer ∙ ap (λ y. rs ++ y ∷ []) is) ∙ values_among-push_err rs found);
    fault_is = f ∙ ap (λ o. with_fault o found) g.fault_is ∙ sym (ap least_fault (longer ∙ ap (λ y. rs ++ y ∷ []) is) ∙ least_fault-push rs (Err found));
  }

-- ---- without a fault

pub some_fault : (b : Bool) → cond b (Some DivisionByZero) (Some OutOfRange) ≡ None → ⊥
some_fault true e = cc e
some_fault false e = cc e

-- there are as many values as results
pub all_values : {X : Type 0} (rs : List (Result X Fault)) → least_fault rs ≡ None → length (values_among rs) ≡ length rs
all_values [] e = refl
all_values (Ok x ∷ rs) e = ap suc (all_values rs e)
all_values (Err DivisionByZero ∷ rs) e = absurd (cc e)
all_values (Err OutOfRange ∷ rs) e = absurd (some_fault (list_any (has_fault DivisionByZero) rs) e)
