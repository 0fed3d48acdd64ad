-- Plans without rows.
use Rattle.std.proofs.Common.{◌≡◌, ℕ, zero, suc, Bool, true, false, ◌||◌, ◌⊎◌, inl, inr, List, [], ◌∷◌, drop, refl, sym, ◌∙◌, ap, subst, arith, Option, Some, None, Ok, Err}
use Rattle.std.specs.List.{AllByRecursion}
use Rattle.std.proofs.lemmas.Bool.{and_parts, false≢true}
use Rattle.wd_schema.specs.Meets.{Meets}
use Rattle.wd_schema.specs.Tables.{TableRule}
use Rattle.wd_value.proofs.Perms.{Perm-all}
use Rattle.wd_value.specs.Rows.{Instance, Row, rows_at}
use Rattle.wd_laws.proofs.Parts.{Perm-ordered}
use Rattle.wd_plan.specs.Choices.{AreLawful, AreOrderingsOver}
use Rattle.wd_plan.specs.Expressions.{Expression}
use Rattle.wd_plan.specs.Faults.{and_then}
use Rattle.wd_plan.specs.Fits.{fits, is_step, kinds_of, width}
use Rattle.wd_plan.specs.Outcomes.{RowsOrFault, limited_rows, filter_outcome, first_rows, join_outcome, ordering_at, outcome, pairs, step_outcome}
use Rattle.wd_plan.specs.Plans.{ClassRule, LimitRule, PlanTree, Scan, Join, Over, Filter, Group, Limit, ordering_count, own_orderings}
use Rattle.wd_plan.specs.Sorting.{IsOrdering, limit_class}
use Rattle.wd_simpler.proofs.Known.{all_among}
use Rattle.wd_laws.proofs.Widths.{AllRows}
use Rattle.wd_simpler.proofs.Rows.{at_any}
use Rattle.wd_simpler.proofs.Conditions.{IsAmong, all_unmet, keeps_none}
use Rattle.wd_simpler.specs.Simpler.{is_empty, is_unmet, takes_none}
use Rattle.wd_simpler.specs.Numbers.{numbers_of}

abbrev pub AreNone : List Row → Type 0
AreNone rows = AllByRecursion (λ (row : Row). ⊥) rows

-- no row, or a fault
abbrev pub HasNone : RowsOrFault → Type 0
HasNone r = AllRows (λ row. ⊥) r

pub none_are : (rows : List Row) → AreNone rows → rows ≡ []
none_are [] a = refl
none_are (row ∷ rows) a = absurd a.0

-- ---- steps over no rows

step_none : (f : List Row → RowsOrFault) → HasNone (f []) → (r : RowsOrFault) → HasNone r → HasNone (and_then r f)
step_none f h (Ok []) a = h
step_none f h (Ok (row ∷ rows)) a = absurd a.0
step_none f h (Err fault) a = tt

-- a step that gives none of these rows
step_drops : (P : Row → Type 0) (f : List Row → RowsOrFault) → ((rows : List Row) → AllByRecursion P rows → f rows ≡ Ok []) → (r : RowsOrFault) → AllRows P r → HasNone (and_then r f)
step_drops P f h (Ok rows) a = subst HasNone (sym (h rows a)) tt
step_drops P f h (Err fault) a = tt

pairs_none : (left : List Row) → pairs left [] ≡ []
pairs_none [] = refl
pairs_none (row ∷ left) = pairs_none left

join_of_none : (condition : Option Expression) → HasNone (join_outcome condition [])
join_of_none None = tt
join_of_none (Some condition) = tt

join_none : (condition : Option Expression) (left right : RowsOrFault) → HasNone right ⊎ HasNone left → HasNone (and_then left (λ ls. and_then right (λ rs. join_outcome condition (pairs ls rs))))
join_none condition (Err fault) right h = tt
join_none condition (Ok ls) (Err fault) h = tt
join_none condition (Ok ls) (Ok rs) (inl a) = subst (λ (x : List Row). HasNone (join_outcome condition (pairs ls x))) (sym (none_are rs a)) (subst (λ (x : List Row). HasNone (join_outcome condition x)) (sym (pairs_none ls)) (join_of_none condition))
join_none condition (Ok ls) (Ok rs) (inr a) = subst (λ (x : List Row). HasNone (join_outcome condition (pairs x rs))) (sym (none_are ls a)) (join_of_none condition)

-- ---- Limits

pub cut_none : (limit : LimitRule) (rows : List Row) → takes_none limit.count ≡ true → limited_rows limit rows ≡ []
cut_none limit rows = by limit.count
  where
    by : (count : Option ℕ) → takes_none count ≡ true → limited_rows (record limit { count = count }) rows ≡ []
    by None h = absurd (false≢true h)
    by (Some zero) h = refl
    by (Some (suc n)) h = absurd (false≢true h)

drop_of_none : (n : ℕ) → ◌≡◌ {A = List Row} (drop n []) []
drop_of_none zero = refl
drop_of_none (suc n) = refl

pub cut_of_none : (limit : LimitRule) → limited_rows limit [] ≡ []
cut_of_none limit = by limit.count
  where
    first : (n : ℕ) → first_rows limit.keys limit.ties n [] ≡ []
    first zero = refl
    first (suc zero) = refl
    first (suc (suc n)) = refl

    by : (count : Option ℕ) → limited_rows (record limit { count = count }) [] ≡ []
    by None = drop_of_none limit.offset
    by (Some n) = ap (first_rows limit.keys limit.ties n) (drop_of_none limit.offset) ∙ first n

ordered_none : (class : ClassRule) (rows : List Row) (ordering : List ℕ) → AreNone rows → IsOrdering class rows ordering → AreNone (rows_at rows ordering)
ordered_none class rows ordering a lawful = Perm-all (λ (row : Row). ⊥) (Perm-ordered rows ordering lawful.once) a

limited_none : (limit : LimitRule) (own : List (List ℕ)) (r : RowsOrFault) → HasNone r → AreOrderingsOver (limit_class limit ∷ []) r own → HasNone (and_then r (step_outcome (Limit limit) own))
limited_none limit own (Ok rows) a lawful =
    let ordering = ordering_at own 0 in
    subst AreNone (sym (ap (limited_rows limit) (none_are (rows_at rows ordering) (ordered_none (limit_class limit) rows ordering a (lawful.each 0 (omega arith)))) ∙ cut_of_none limit)) tt
limited_none limit own (Err fault) a lawful = tt

positions_none : (ordering : List ℕ) → AreNone (rows_at [] ordering) → ordering ≡ []
positions_none [] a = refl
positions_none (p ∷ ordering) a = absurd a.0

-- no rows have no other ordering than the empty one
pub ordering_of_none : (class : ClassRule) (rows : List Row) (ordering : List ℕ) → AreNone rows → IsOrdering class rows ordering → ordering ≡ []
ordering_of_none class rows ordering a lawful = positions_none ordering (subst (λ (x : List Row). AreNone (rows_at x ordering)) (none_are rows a) (ordered_none class rows ordering a lawful))

-- ---- plans

module _ (tables : List TableRule) (instance : Instance) (meets : Meets tables instance) where
  pub no_rows : (plan : PlanTree) (choice : List (List ℕ)) → fits tables plan ≡ true → AreLawful plan instance choice → is_empty tables plan ≡ true → HasNone (outcome plan instance choice)
  no_rows (Scan table columns) choice fit a h = absurd (false≢true h)
  no_rows (Join condition left right) choice fit a h =
      let sides = and_parts (fits tables left) (fits tables right) (and_parts _ _ fit).0 in
      let rest = drop (ordering_count left) choice in
      join_none condition (outcome left instance choice) (outcome right instance rest)
      (either (is_empty tables right) (is_empty tables left) (HasNone (outcome right instance rest)) (HasNone (outcome left instance choice)) (no_rows right rest sides.1 a.1) (no_rows left choice sides.0 a.0) h)
    where
      either : (x y : Bool) (A B : Type 0) → (x ≡ true → A) → (y ≡ true → B) → (x || y) ≡ true → A ⊎ B
      either true y A B f g h = inl (f refl)
      either false y A B f g h = inr (g h)
  no_rows (Over (Filter condition) input) choice fit a h =
      let own = (and_parts _ _ fit).0 in
      by (is_unmet (numbers_of tables input) condition) refl (no_rows input choice own a.0) h
    where
      by : (b : Bool) → is_unmet (numbers_of tables input) condition ≡ b → (is_empty tables input ≡ true → HasNone (outcome input instance choice)) → (b || is_empty tables input) ≡ true → HasNone (and_then (outcome input instance choice) (filter_outcome condition))
      by true e below h = step_drops (IsAmong (numbers_of tables input)) (filter_outcome condition) (λ rows from. keeps_none condition rows (all_unmet (numbers_of tables input) condition e rows from)) (outcome input instance choice) (all_among tables instance meets input choice (and_parts _ _ fit).0 a.0)
      by false e below h = step_none (filter_outcome condition) tt (outcome input instance choice) (below h)
  no_rows (Over (Group rule) input) choice fit a h = absurd (false≢true h)
  no_rows (Over (Limit limit) input) choice fit a h =
      by (takes_none limit.count) refl (no_rows input choice (and_parts _ _ fit).0 a.0) h
    where
      by : (b : Bool) → takes_none limit.count ≡ b → (is_empty tables input ≡ true → HasNone (outcome input instance choice)) → (b || is_empty tables input) ≡ true → HasNone (and_then (outcome input instance choice) (step_outcome (Limit limit) (own_orderings (Limit limit) input choice)))
      by true e below h = step_drops (λ row. Unit {0}) (step_outcome (Limit limit) (own_orderings (Limit limit) input choice)) (λ rows u. ap (λ x. Ok x) (cut_none limit (rows_at rows (ordering_at (own_orderings (Limit limit) input choice) 0)) e)) (outcome input instance choice) (at_any (λ row. Unit {0}) (λ row. tt) (outcome input instance choice))
      by false e below h = limited_none limit (own_orderings (Limit limit) input choice) (outcome input instance choice) (below h) a.1
  no_rows (Over step input) choice fit a h =
      step_none (step_outcome step (own_orderings step input choice)) tt (outcome input instance choice) (no_rows input choice (and_parts (fits tables input) (is_step (kinds_of tables input) (width input) step) fit).0 a.0 h)
