-- No step has more rows than its bound.
use Rattle.std.proofs.Common.{◌≡◌, ℕ, ◌+◌, ◌*◌, ◌≤◌, false, ◌||◌, List, [], ◌∷◌, drop, flat_map, length, map, nat_lt, Ok, Err, Some, None, Option, refl, arith, length-append}
use Rattle.std.proofs.lemmas.Bool.{le-ltb, ltb-false}
use Rattle.std.proofs.lemmas.List.{length-map}
use Rattle.std.proofs.lemmas.Nat.{mul-le}
use Rattle.wd_value.specs.Rows.{Row, Instance, table_at}
use Rattle.wd_plan.specs.Choices.{AreLawful, AreOrderingsOver}
use Rattle.wd_plan.specs.Expressions.{Expression}
use Rattle.wd_plan.specs.Faults.{and_then, least_fault, values_among}
use Rattle.wd_plan.specs.Outcomes.{RowsOrFault, group_row, groups, join_outcome, outcome, pairs, set_rows, shown}
use Rattle.wd_plan.specs.Plans.{Step, Filter, Map, Group, Window, Distinct, Limit, GroupRule, PlanTree, Scan, Join, Over, ordering_count, own_orderings, step_classes}
use Rattle.wd_join.specs.Joins.{has_more_rows}
use Rattle.wd_join.proofs.Joining.{length-pairs}
use Rattle.wd_nodes.specs.Relation.{most_rows}
use Rattle.wd_eval.specs.Steps.{has_large_step}
use Rattle.wd_eval.specs.Windows.{step_over}
use Rattle.wd_eval.proofs.Sizes.{distinct-le, fewer_step, fewer_unless, values_among-le}
use Rattle.wd_sizes.specs.Laws.{BoundedAreSmall}
use Rattle.wd_sizes.specs.Sizes.{IsBounded, rows_at_most, step_at_most}

self_few : (n : ℕ) → nat_lt n n ≡ false
self_few n = le-ltb n n (omega arith)

few : (n m : ℕ) → m ≤ n → nat_lt n m ≡ false
few n m h = le-ltb n m h

wider : (n m : ℕ) (o : RowsOrFault) → n ≤ m → has_more_rows n o ≡ false → has_more_rows m o ≡ false
wider n m (Ok rows) h e = let within = ltb-false n (length rows) e in few m (length rows) (omega arith)
wider n m (Err fault) h e = refl

-- ---- groups

group_few : (rule : GroupRule) (rows : List Row) (set : List ℕ) (n : ℕ) → length rows ≤ n → length (set_rows rule rows set) ≤ n + 1
group_few rule rows [] n h = omega arith
group_few rule rows (c ∷ set) n h =
    let each = length-map (groups rule.columns (c ∷ set) rows) (group_row rule rows (c ∷ set)) in
    let once = distinct-le (map (shown rule.columns (c ∷ set)) rows) in
    let all = length-map rows (shown rule.columns (c ∷ set)) in
    omega arith

sets_few : (rule : GroupRule) (rows : List Row) (n : ℕ) → length rows ≤ n → (sets : List (List ℕ)) → length (flat_map (set_rows rule rows) sets) ≤ length sets * (n + 1)
sets_few rule rows n h [] = omega arith
sets_few rule rows n h (set ∷ sets) =
    let own = group_few rule rows set n h in
    let later = sets_few rule rows n h sets in
    let both = length-append (set_rows rule rows set) (flat_map (set_rows rule rows) sets) in
    omega arith

-- ---- steps

step_few : (step : Step) (orderings : List (List ℕ)) (input : RowsOrFault) (n : ℕ) → AreOrderingsOver (step_classes step) input orderings → has_more_rows n input ≡ false → has_more_rows (step_at_most step n) (step_over step orderings input) ≡ false
step_few (Filter condition) orderings input n lawful h = fewer_step n (Filter condition) orderings input tt lawful h
step_few (Map outputs) orderings input n lawful h = fewer_step n (Map outputs) orderings input tt lawful h
step_few (Group rule) orderings (Err fault) n lawful h = refl
step_few (Group rule) orderings (Ok rows) n lawful h =
    let all = flat_map (set_rows rule rows) rule.sets in
    let within = ltb-false n (length rows) h in
    let among = values_among-le all in
    let sets = sets_few rule rows n (omega arith) rule.sets in
    fewer_unless (length rule.sets * (n + 1)) (least_fault all) (values_among all) (few (length rule.sets * (n + 1)) (length (values_among all)) (omega arith))
step_few (Window w) orderings input n lawful h = fewer_step n (Window w) orderings input tt lawful h
step_few Distinct orderings input n lawful h = fewer_step n Distinct orderings input tt lawful h
step_few (Limit limit) orderings input n lawful h = fewer_step n (Limit limit) orderings input tt lawful h

pairs_few : (condition : Option Expression) (left right : RowsOrFault) (n m : ℕ) → has_more_rows n left ≡ false → has_more_rows m right ≡ false → has_more_rows (n * m) (and_then left (λ ls. and_then right (λ rs. join_outcome condition (pairs ls rs)))) ≡ false
pairs_few condition (Err fault) right n m a b = refl
pairs_few condition (Ok ls) (Err fault) n m a b = refl
pairs_few condition (Ok ls) (Ok rs) n m a b = by condition
  where
    all : has_more_rows (n * m) (Ok (pairs ls rs)) ≡ false
    all =
        let l = ltb-false n (length ls) a in
        let r = ltb-false m (length rs) b in
        let product = mul-le (length ls) (length rs) n m (omega arith) (omega arith) in
        let long = length-pairs ls rs in
        few (n * m) (length (pairs ls rs)) (omega arith)

    by : (condition : Option Expression) → has_more_rows (n * m) (join_outcome condition (pairs ls rs)) ≡ false
    by None = all
    by (Some condition) = fewer_step (n * m) (Filter condition) [] (Ok (pairs ls rs)) tt (record { number = refl; each = λ k h. absurd (omega arith) }) all

-- ---- plans

module _ (instance : Instance) where
  plan_few : (plan : PlanTree) (choice : List (List ℕ)) → AreLawful plan instance choice → has_more_rows (rows_at_most plan instance) (outcome plan instance choice) ≡ false
  plan_few (Scan table columns) choice a = self_few (length (table_at instance table))
  plan_few (Join condition left right) choice a =
      pairs_few condition (outcome left instance choice) (outcome right instance (drop (ordering_count left) choice)) (rows_at_most left instance) (rows_at_most right instance) (plan_few left choice a.0) (plan_few right (drop (ordering_count left) choice) a.1)
  plan_few (Over step input) choice a = step_few step (own_orderings step input choice) (outcome input instance choice) (rows_at_most input instance) a.1 (plan_few input choice a.0)

  within : (plan : PlanTree) (choice : List (List ℕ)) → rows_at_most plan instance ≤ most_rows → AreLawful plan instance choice → has_more_rows most_rows (outcome plan instance choice) ≡ false
  within plan choice h a = wider (rows_at_most plan instance) most_rows (outcome plan instance choice) h (plan_few plan choice a)

  small : (plan : PlanTree) (choice : List (List ℕ)) → IsBounded plan instance → AreLawful plan instance choice → has_large_step plan instance choice ≡ false
  small (Scan table columns) choice b a = within (Scan table columns) choice b a
  small (Join condition left right) choice b a =
      let n = ordering_count left in
      let l = small left choice b.0 a.0 in
      let r = small right (drop n choice) b.1 a.1 in
      let own = within (Join condition left right) choice b.2 a in
      λ i. (l i || r i) || own i
  small (Over step input) choice b a =
      let below = small input choice b.0 a.0 in
      let own = within (Over step input) choice b.1 a in
      λ i. below i || own i

pub bounded_are_small : BoundedAreSmall
bounded_are_small plan instance choice b a = small instance plan choice b a
