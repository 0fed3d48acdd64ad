-- The nodes compose: over the same tables, a settled plan has outcomes that agree.
use Rattle.std.proofs.Common.{◌≡◌, ℕ, List, [], drop, refl, subst, arith, Ok, Err}
use Rattle.std.specs.List.{AllByRecursion}
use Rattle.wd_laws.proofs.Grouping.{Alike-group}
use Rattle.wd_laws.proofs.LimitLaw.{Perm-cut}
use Rattle.wd_laws.proofs.Outcomes.{Alike, Alike-filter, Alike-join, Alike-map, Perm-distinct, Perm-pairs}
use Rattle.wd_laws.proofs.WindowLaw.{Alike-window}
use Rattle.wd_plan.specs.Choices.{AreLawful, AreOrderings, AtRows}
use Rattle.wd_plan.specs.Faults.{and_then}
use Rattle.wd_plan.specs.Settled.{IsSettledPlan, IsSettledStep}
use Rattle.wd_laws.specs.Laws.{SameTables}
use Rattle.wd_plan.specs.Outcomes.{RowsOrFault, join_outcome, ordering_at, outcome, pairs, step_outcome}
use Rattle.wd_plan.specs.Plans.{Step, Filter, Map, Group, Window, Distinct, Limit, PlanTree, Scan, Join, Over, step_classes, ordering_count, own_orderings}
use Rattle.wd_value.proofs.Perms.{Perm, Perm-from_SameBag}
use Rattle.wd_value.proofs.SameLaws.{same_row-Decides}
use Rattle.wd_value.specs.Rows.{Instance, Row, same_row}

-- a step over outcomes that are one
Alike-and_then : (a b : RowsOrFault) (f g : List Row → RowsOrFault) → Alike a b → ((xs ys : List Row) → a ≡ Ok xs → b ≡ Ok ys → Perm Row xs ys → Alike (f xs) (g ys)) → Alike (and_then a f) (and_then b g)
Alike-and_then (Ok xs) (Ok ys) f g p h = h xs ys refl refl p
Alike-and_then (Ok xs) (Err d) f g p h = absurd p
Alike-and_then (Err c) (Ok ys) f g p h = absurd p
Alike-and_then (Err c) (Err d) f g p h = p

-- what is said of the rows, where there are rows
at_rows : (o : RowsOrFault) (rows : List Row) (P : List Row → Type 0) (Q : Type 0) → o ≡ Ok rows → AtRows o P Q → P rows
at_rows o rows P Q e h = let family : RowsOrFault → Type 0 = λ v. AtRows v P Q in subst family e h

-- a settled step over rearranged rows
Alike-step : (step : Step) (xs ys : List Row) (os1 os2 : List (List ℕ)) → Perm Row xs ys → AreOrderings (step_classes step) xs os1 → AreOrderings (step_classes step) ys os2 → IsSettledStep step xs → Alike (step_outcome step os1 xs) (step_outcome step os2 ys)
Alike-step (Filter condition) xs ys os1 os2 p v1 v2 h = Alike-filter condition xs ys p
Alike-step (Map outputs) xs ys os1 os2 p v1 v2 h = Alike-map outputs xs ys p
Alike-step (Group rule) xs ys os1 os2 p v1 v2 h = Alike-group rule xs ys p
Alike-step (Window w) xs ys os1 os2 p v1 v2 (names, exchange, width, wide, calls) = Alike-window w exchange width xs ys os1 os2 p v1 v2 wide names calls
Alike-step Distinct xs ys os1 os2 p v1 v2 h = Perm-distinct p
Alike-step (Limit limit) xs ys os1 os2 p v1 v2 (width, wide, settled) = Perm-cut limit xs ys (ordering_at os1 0) (ordering_at os2 0) p (v1.each 0 (omega arith)) (v2.each 0 (omega arith)) width wide settled

pub one_outcome : (plan : PlanTree) (instance other : Instance) (c1 c2 : List (List ℕ)) → SameTables instance other → AreLawful plan instance c1 → AreLawful plan other c2 → IsSettledPlan plan instance c1 → Alike (outcome plan instance c1) (outcome plan other c2)
one_outcome (Scan table columns) instance other c1 c2 same v1 v2 h = Perm-from_SameBag same_row same_row-Decides _ _ (same table)
one_outcome (Join condition left right) instance other c1 c2 same v1 v2 h =
    let d1 = drop (ordering_count left) c1 in
    let d2 = drop (ordering_count left) c2 in
    Alike-and_then _ _ (λ ls. and_then (outcome right instance d1) (λ rs. join_outcome condition (pairs ls rs))) (λ ls. and_then (outcome right other d2) (λ rs. join_outcome condition (pairs ls rs))) (one_outcome left instance other c1 c2 same v1.0 v2.0 h.0) (λ ls ks e f p.
    Alike-and_then _ _ (λ rs. join_outcome condition (pairs ls rs)) (λ rs. join_outcome condition (pairs ks rs)) (one_outcome right instance other d1 d2 same v1.1 v2.1 h.1) (λ rs ss e' f' q. Alike-join condition _ _ (Perm-pairs p q)))
one_outcome (Over step input) instance other c1 c2 same v1 v2 h =
    let os1 = own_orderings step input c1 in
    let os2 = own_orderings step input c2 in
    Alike-and_then _ _ (step_outcome step os1) (step_outcome step os2) (one_outcome input instance other c1 c2 same v1.0 v2.0 h.0) (λ xs ys e f p.
    Alike-step step xs ys os1 os2 p
    (at_rows (outcome input instance c1) xs (λ rows. AreOrderings (step_classes step) rows os1) (AllByRecursion (λ o. o ≡ []) os1) e v1.1)
    (at_rows (outcome input other c2) ys (λ rows. AreOrderings (step_classes step) rows os2) (AllByRecursion (λ o. o ≡ []) os2) f v2.1)
    (at_rows (outcome input instance c1) xs (IsSettledStep step) (Unit {0}) e h.1))
