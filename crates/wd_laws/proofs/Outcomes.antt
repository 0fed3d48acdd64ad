-- The nodes over rows keep outcomes that agree.
use Rattle.std.proofs.Common.{◌≡◌, suc, Bool, true, false, cond, not, ◌||◌, List, [], ◌∷◌, ◌++◌, map, filter, flat_map, refl, sym, ◌∙◌, ap, subst, Option, Some, None, Ok, Err, Result}
use Rattle.std.proofs.lemmas.Bool.{false_from_ne_true}
use Rattle.std.specs.List.{list_any}
use Rattle.wd_plan.specs.Faults.{all_ok, has_fault, least_fault, unless, values_among}
use Rattle.wd_plan.specs.Expressions.{Expression, value_of}
use Rattle.wd_plan.specs.Outcomes.{Agree, RowsOrFault, distinct, filter_outcome, join_outcome, map_outcome, pairs, passes}
use Rattle.wd_value.proofs.Perms.{Perm, Perm-append, Perm-filter, Perm-flat_map, Perm-from_SameBag, Perm-list_any, Perm-map, Perm-refl, SameBag-from_Perm, both, count_by-no, count_by-yes, done, flip, keep}
use Rattle.wd_value.proofs.SameLaws.{same_row-Decides}
use Rattle.wd_value.specs.Bags.{times}
use Rattle.wd_value.specs.Rows.{Row, same_row}
use Rattle.wd_value.specs.declared.value.Fault.{Fault}
use Rattle.wd_value.specs.declared.value.Fault.TheVariants.{DivisionByZero, OutOfRange}

-- the same fault, or the same elements in another order
abbrev pub Alike : {X : Type 0} → Result (List X) Fault → Result (List X) Fault → Type 0
Alike {X} (Ok xs) (Ok ys) = Perm X xs ys
Alike (Ok xs) (Err g) = ⊥
Alike (Err f) (Ok ys) = ⊥
Alike (Err f) (Err g) = f ≡ g

pub Agree-from_Alike : (a b : RowsOrFault) → Alike a b → Agree a b
Agree-from_Alike (Ok xs) (Ok ys) p = SameBag-from_Perm same_row same_row-Decides p
Agree-from_Alike (Ok xs) (Err g) p = p
Agree-from_Alike (Err f) (Ok ys) p = p
Agree-from_Alike (Err f) (Err g) p = p

pub Alike-from_Agree : (a b : RowsOrFault) → Agree a b → Alike a b
Alike-from_Agree (Ok xs) (Ok ys) p = Perm-from_SameBag same_row same_row-Decides xs ys p
Alike-from_Agree (Ok xs) (Err g) p = p
Alike-from_Agree (Err f) (Ok ys) p = p
Alike-from_Agree (Err f) (Err g) p = p

Alike-unless : {X : Type 0} (o : Option Fault) (xs ys : List X) → Perm X xs ys → Alike (unless o xs) (unless o ys)
Alike-unless None xs ys p = p
Alike-unless (Some f) xs ys p = refl

pub Perm-least_fault : {X : Type 0} {rs ss : List (Result X Fault)} → Perm (Result X Fault) rs ss → least_fault rs ≡ least_fault ss
Perm-least_fault p = λ i. cond (Perm-list_any (has_fault DivisionByZero) p i) (Some DivisionByZero) (cond (Perm-list_any (has_fault OutOfRange) p i) (Some OutOfRange) None)

pub Perm-values_among : {X : Type 0} {rs ss : List (Result X Fault)} → Perm (Result X Fault) rs ss → Perm X (values_among rs) (values_among ss)
Perm-values_among done = done
Perm-values_among (keep (Ok x) p) = keep x (Perm-values_among p)
Perm-values_among (keep (Err f) p) = Perm-values_among p
Perm-values_among (flip (Ok x) (Ok y) rs) = flip x y (values_among rs)
Perm-values_among (flip (Ok x) (Err g) rs) = keep x (Perm-refl (values_among rs))
Perm-values_among (flip (Err f) (Ok y) rs) = keep y (Perm-refl (values_among rs))
Perm-values_among (flip (Err f) (Err g) rs) = Perm-refl (values_among rs)
Perm-values_among (both p q) = both (Perm-values_among p) (Perm-values_among q)

pub Alike-all_ok : {X : Type 0} (rs ss : List (Result X Fault)) → Perm (Result X Fault) rs ss → Alike (all_ok rs) (all_ok ss)
Alike-all_ok rs ss p = subst (λ o. Alike (all_ok rs) (unless o (values_among ss))) (Perm-least_fault p) (Alike-unless (least_fault rs) (values_among rs) (values_among ss) (Perm-values_among p))

pub Alike-filter : (condition : Expression) (xs ys : List Row) → Perm Row xs ys → Alike (filter_outcome condition xs) (filter_outcome condition ys)
Alike-filter condition xs ys p =
    let t : Row → Bool = λ row. passes (value_of condition row) in
    subst (λ o. Alike (filter_outcome condition xs) (unless o (filter t ys))) (Perm-least_fault (Perm-map (value_of condition) p)) (Alike-unless (least_fault (map (value_of condition) xs)) (filter t xs) (filter t ys) (Perm-filter t p))

pub Alike-join : (condition : Option Expression) (xs ys : List Row) → Perm Row xs ys → Alike (join_outcome condition xs) (join_outcome condition ys)
Alike-join None xs ys p = p
Alike-join (Some condition) xs ys p = Alike-filter condition xs ys p

pub Alike-map : (outputs : List Expression) (xs ys : List Row) → Perm Row xs ys → Alike (map_outcome outputs xs) (map_outcome outputs ys)
Alike-map outputs xs ys p = Alike-all_ok _ _ (Perm-map (λ row. all_ok (map (λ output. value_of output row) outputs)) p)

pub flat_map_each : {X Y : Type 0} (f g : X → List Y) (xs : List X) → ((x : X) → Perm Y (f x) (g x)) → Perm Y (flat_map f xs) (flat_map g xs)
flat_map_each f g [] h = done
flat_map_each f g (x ∷ xs) h = Perm-append (h x) (flat_map_each f g xs h)

pub Perm-pairs : {ls ks rs ss : List Row} → Perm Row ls ks → Perm Row rs ss → Perm Row (pairs ls rs) (pairs ks ss)
Perm-pairs {ks = ks} {rs = rs} {ss = ss} p q = both (Perm-flat_map (λ l. map (λ r. l ++ r) rs) p) (flat_map_each (λ l. map (λ r. l ++ r) rs) (λ l. map (λ r. l ++ r) ss) ks (λ l. Perm-map (λ r. l ++ r) q))

-- ---- first occurrences

-- of a row x, the filter leaves all or none
drop_step : (x r q : Row) (qs : List Row) (a b : Bool) → same_row r x ≡ a → same_row r q ≡ b → times same_row x (filter (λ y. not (same_row r y)) qs) ≡ cond a 0 (times same_row x qs) → times same_row x (filter (λ y. not (same_row r y)) (q ∷ qs)) ≡ cond a 0 (times same_row x (q ∷ qs))
drop_step x r q qs true true e f h = rw f h
drop_step x r q qs true false e f h =
    let n : same_row x q ≡ true → ⊥ = λ s. (let k = subst (λ y. same_row r y ≡ true) ((same_row-Decides x q).0 s) e in cc) in
    rw f (count_by-no (same_row x) q (filter (λ y. not (same_row r y)) qs) (false_from_ne_true (same_row x q) n) ∙ h)
drop_step x r q qs false true e f h =
    let n : same_row x q ≡ true → ⊥ = λ s. (let k = subst (λ y. same_row r y ≡ true) (sym ((same_row-Decides x q).0 s)) f in cc) in
    rw f (h ∙ sym (count_by-no (same_row x) q qs (false_from_ne_true (same_row x q) n)))
drop_step x r q qs false false e f h = rw f (both_count (same_row x q) refl)
  where
    both_count : (c : Bool) → same_row x q ≡ c → times same_row x (q ∷ filter (λ y. not (same_row r y)) qs) ≡ times same_row x (q ∷ qs)
    both_count true s = count_by-yes (same_row x) q (filter (λ y. not (same_row r y)) qs) s ∙ ap suc h ∙ sym (count_by-yes (same_row x) q qs s)
    both_count false s = count_by-no (same_row x) q (filter (λ y. not (same_row r y)) qs) s ∙ h ∙ sym (count_by-no (same_row x) q qs s)

times-dropped : (x r : Row) (qs : List Row) → times same_row x (filter (λ y. not (same_row r y)) qs) ≡ cond (same_row r x) 0 (times same_row x qs)
times-dropped x r [] = by (same_row r x)
  where
    by : (a : Bool) → times same_row x [] ≡ cond a 0 (times same_row x [])
    by true = refl
    by false = refl
times-dropped x r (q ∷ qs) = drop_step x r q qs (same_row r x) (same_row r q) refl refl (times-dropped x r qs)

distinct_step : (x r : Row) (rs : List Row) (a b : Bool) → same_row x r ≡ a → same_row r x ≡ b → times same_row x (distinct rs) ≡ cond (list_any (same_row x) rs) 1 0 → times same_row x (distinct (r ∷ rs)) ≡ cond (list_any (same_row x) (r ∷ rs)) 1 0
distinct_step x r rs true true e f h = count_by-yes (same_row x) r (filter (λ y. not (same_row r y)) (distinct rs)) e ∙ ap suc (times-dropped x r (distinct rs) ∙ ap (λ c. cond c 0 (times same_row x (distinct rs))) f) ∙ sym (ap (λ c. cond (c || list_any (same_row x) rs) 1 0) e)
distinct_step x r rs true false e f h = absurd (let k = (same_row-Decides r x).1 (sym ((same_row-Decides x r).0 e)) in cc)
distinct_step x r rs false true e f h = absurd (let k = (same_row-Decides x r).1 (sym ((same_row-Decides r x).0 f)) in cc)
distinct_step x r rs false false e f h = count_by-no (same_row x) r (filter (λ y. not (same_row r y)) (distinct rs)) e ∙ (times-dropped x r (distinct rs) ∙ ap (λ c. cond c 0 (times same_row x (distinct rs))) f) ∙ h ∙ sym (ap (λ c. cond (c || list_any (same_row x) rs) 1 0) e)

-- a row stands once where it stood at all
pub times-distinct : (x : Row) (rs : List Row) → times same_row x (distinct rs) ≡ cond (list_any (same_row x) rs) 1 0
times-distinct x [] = refl
times-distinct x (r ∷ rs) = distinct_step x r rs (same_row x r) (same_row r x) refl refl (times-distinct x rs)

pub Perm-distinct : {xs ys : List Row} → Perm Row xs ys → Perm Row (distinct xs) (distinct ys)
Perm-distinct {xs = xs} {ys = ys} p = Perm-from_SameBag same_row same_row-Decides (distinct xs) (distinct ys) (λ x. times-distinct x xs ∙ ap (λ b. cond b 1 0) (Perm-list_any (same_row x) p) ∙ sym (times-distinct x ys))
