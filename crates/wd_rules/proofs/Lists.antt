-- A plan whose last Limit is ordered by keys that give every column has one list.
use Rattle.std.proofs.Common.{◌≡◌, ℕ, Bool, true, List, [], ◌∷◌, filter, refl, sym, ◌∙◌, ap, subst, arith, Ok, Err}
use Rattle.std.specs.List.{AllByRecursion}
use Rattle.wd_laws.proofs.Exchange.{gives_all_looks}
use Rattle.wd_laws.proofs.Outcomes.{Alike}
use Rattle.wd_laws.proofs.Parts.{Perm-ordered, same_rows_at_places}
use Rattle.wd_laws.proofs.PlanLaw.{one_outcome}
use Rattle.wd_laws.specs.Laws.{SameTables}
use Rattle.wd_plan.proofs.Parts.{ordered, part}
use Rattle.wd_plan.specs.Choices.{AreLawful, AreOrderings, AtRows}
use Rattle.wd_plan.specs.Facts.{DeterminesAll, HasWidth}
use Rattle.wd_plan.specs.Faults.{and_then}
use Rattle.wd_plan.specs.Outcomes.{RowsOrFault, limited_rows, map_outcome, ordering_at, outcome, step_outcome}
use Rattle.wd_plan.specs.Plans.{LimitRule, Map, Limit, PlanTree, Over, own_orderings}
use Rattle.wd_plan.specs.Settled.{IsSettledPlan}
use Rattle.wd_plan.specs.Sorting.{IsOrdering, limit_class, order_columns}
use Rattle.wd_value.proofs.Perms.{Perm, both}
use Rattle.wd_value.specs.Rows.{Instance, Row}
use Rattle.wd_rules.specs.Lists.{AgreeAsLists, IsListedPlan, PlanHasOneList}

-- ---- one order only

-- in a limit all rows are one partition
keep_all : (t : Row → Bool) → ((r : Row) → t r ≡ true) → (rs : List Row) → filter t rs ≡ rs
keep_all t h [] = refl
keep_all t h (r ∷ rs) = rw (h r) (ap (λ l. r ∷ l) (keep_all t h rs))

one_part : (limit : LimitRule) (x : Row) (ws : List Row) → part (limit_class limit) x ws ≡ ws
one_part limit x ws = keep_all (λ q. true) (λ q. refl) ws

-- keys that give every column put rearranged rows into one order
same_order : (limit : LimitRule) (width : ℕ) (rows others : List Row) (o1 o2 : List ℕ) → Perm Row rows others → IsOrdering (limit_class limit) rows o1 → IsOrdering (limit_class limit) others o2
    → HasWidth width rows → DeterminesAll rows width (order_columns (limit_class limit)) → ordered rows o1 ≡ ordered others o2
same_order limit width rows others o1 o2 perm v1 v2 wide h =
    sym (one_part limit [] (ordered rows o1))
    ∙ same_rows_at_places (limit_class limit) rows (gives_all_looks (limit_class limit) rows width wide h) [] (ordered rows o1) (ordered others o2) (Perm-ordered rows o1 v1.once) (both perm (Perm-ordered others o2 v2.once)) v1.in_order v2.in_order
    ∙ one_part limit [] (ordered others o2)

-- ---- outcomes

itself : (a : RowsOrFault) → AgreeAsLists a a
itself (Ok rows) = refl
itself (Err f) = refl

pub AgreeAsLists-from : (a b : RowsOrFault) → a ≡ b → AgreeAsLists a b
AgreeAsLists-from a b e = subst (AgreeAsLists a) e (itself a)

-- a step that makes one list of rows that are one
same_step : (a b : RowsOrFault) (f g : List Row → RowsOrFault) → Alike a b → ((xs ys : List Row) → a ≡ Ok xs → b ≡ Ok ys → Perm Row xs ys → f xs ≡ g ys) → and_then a f ≡ and_then b g
same_step (Ok xs) (Ok ys) f g p h = h xs ys refl refl p
same_step (Ok xs) (Err d) f g p h = absurd p
same_step (Err c) (Ok ys) f g p h = absurd p
same_step (Err c) (Err d) f g p h = ap Err p

at_rows : (o : RowsOrFault) (rows : List Row) (P : List Row → Type 0) (Q : Type 0) → o ≡ Ok rows → AtRows o P Q → P rows
at_rows o rows P Q e h = let family : RowsOrFault → Type 0 = λ v. AtRows v P Q in subst family e h

pub one_list : (plan : PlanTree) (instance other : Instance) (c1 c2 : List (List ℕ)) → SameTables instance other → AreLawful plan instance c1 → AreLawful plan other c2 → IsSettledPlan plan instance c1 → IsListedPlan plan instance c1
    → outcome plan instance c1 ≡ outcome plan other c2
one_list (Over (Map outputs) input) instance other c1 c2 same v1 v2 h l = ap (λ o. and_then o (map_outcome outputs)) (one_list input instance other c1 c2 same v1.0 v2.0 h.0 l)
one_list (Over (Limit limit) input) instance other c1 c2 same v1 v2 h l =
    let o1 = own_orderings (Limit limit) input c1 in
    let o2 = own_orderings (Limit limit) input c2 in
    same_step _ _ (step_outcome (Limit limit) o1) (step_outcome (Limit limit) o2) (one_outcome input instance other c1 c2 same v1.0 v2.0 h.0) (λ xs ys e f p.
    let j = at_rows (outcome input instance c1) xs (λ rows. (width : ℕ) × HasWidth width rows × DeterminesAll rows width (order_columns (limit_class limit))) (Unit {0}) e l in
    ap (λ rows. Ok (limited_rows limit rows))
    (same_order limit j.0 xs ys (ordering_at o1 0) (ordering_at o2 0) p
    ((at_rows (outcome input instance c1) xs (λ rows. AreOrderings (limit_class limit ∷ []) rows o1) (AllByRecursion (λ o. o ≡ []) o1) e v1.1).each 0 (omega arith))
    ((at_rows (outcome input other c2) ys (λ rows. AreOrderings (limit_class limit ∷ []) rows o2) (AllByRecursion (λ o. o ≡ []) o2) f v2.1).each 0 (omega arith))
    j.1 j.2))
one_list plan instance other c1 c2 same v1 v2 h l = absurd l

pub plan_has_one_list : PlanHasOneList
plan_has_one_list plan instance other c1 c2 same v1 v2 h l = AgreeAsLists-from _ _ (one_list plan instance other c1 c2 same v1.lawful v2.lawful h l)
