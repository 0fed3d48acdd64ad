-- All the values of a list of results, where none is a fault.
use Rattle.std.proofs.Common.{◌≡◌, ℕ, zero, suc, ◌<◌, Bool, true, false, cond, List, [], ◌∷◌, map, length, get_or, refl, sym, ap, subst, arith, Option, Some, None, Result, Ok, Err}
use Rattle.std.specs.List.{list_any}
use Rattle.wd_value.specs.declared.value.Fault.{Fault}
use Rattle.wd_value.specs.declared.value.Fault.TheVariants.{DivisionByZero, OutOfRange}
use Rattle.wd_plan.specs.Faults.{all_ok, has_fault, least_fault, unless, values_among}

fault_first : {X : Type 0} (f : Fault) (rs : List (Result X Fault)) (xs : List X) → all_ok (Err f ∷ rs) ≡ Ok xs → ⊥
fault_first DivisionByZero rs xs e = cc
fault_first OutOfRange rs xs e = by (list_any (has_fault DivisionByZero) rs) e
  where
    by : (b : Bool) → unless (cond b (Some DivisionByZero) (Some OutOfRange)) (values_among rs) ≡ Ok xs → ⊥
    by true h = cc
    by false h = cc

first_value : {X : Type 0} (o : Option Fault) (x : X) (rest xs : List X) → unless o (x ∷ rest) ≡ Ok xs → (xs ≡ x ∷ rest) × (unless o rest ≡ Ok rest)
first_value None x rest xs e = (let h : xs ≡ x ∷ rest = cc in h, refl)
first_value (Some f) x rest xs e = cc

no_value : {X : Type 0} (xs : List X) → ◌≡◌ {A = Result (List X) Fault} (Ok []) (Ok xs) → xs ≡ []
no_value xs e = cc

-- as many values as results, each that of its result
pub record AllOk {A X : Type 0} (f : A → Result X Fault) (as' : List A) (xs : List X) : Type 0 where
  pub long : length xs ≡ length as'
  pub each : (p : ℕ) (a : A) (x : X) → p < length as' → f (get_or as' p a) ≡ Ok (get_or xs p x)

all_ok_cons : {A X : Type 0} (f : A → Result X Fault) (a : A) (as' : List A) (r : Result X Fault) → f a ≡ r → (xs : List X) → all_ok (r ∷ map f as') ≡ Ok xs → ((ys : List X) → all_ok (map f as') ≡ Ok ys → AllOk f as' ys) → AllOk f (a ∷ as') xs
all_ok_cons f a as' (Err d) is xs e rest = absurd (fault_first d (map f as') xs e)
all_ok_cons f a as' (Ok x) is xs e rest =
    let v = first_value (least_fault (map f as')) x (values_among (map f as')) xs e in
    let tail = rest (values_among (map f as')) v.1 in
    subst (AllOk f (a ∷ as')) (sym v.0) (record { long = ap suc tail.long; each = at tail })
  where
    at : AllOk f as' (values_among (map f as')) → (p : ℕ) (d : _) (y : _) → p < length (a ∷ as') → f (get_or (a ∷ as') p d) ≡ Ok (get_or (x ∷ values_among (map f as')) p y)
    at tail zero d y k = is
    at tail (suc p) d y k = tail.each p d y (omega arith)

pub all_ok_each : {A X : Type 0} (f : A → Result X Fault) (as' : List A) (xs : List X) → all_ok (map f as') ≡ Ok xs → AllOk f as' xs
all_ok_each f [] xs e = subst (AllOk f []) (sym (no_value xs e)) (record { long = refl; each = λ p a x k. absurd (omega arith) })
all_ok_each f (a ∷ as') xs e = all_ok_cons f a as' (f a) refl xs e (λ ys g. all_ok_each f as' ys g)
