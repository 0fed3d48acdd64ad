-- The walk to the node with a number, and how wide the nodes are.
use Rattle.std.proofs.Common.{◌≡◌, ℕ, zero, suc, ◌+◌, ◌-◌, ◌<◌, ◌≤◌, min, true, false, cond, ◌&&◌, List, nat_eq, nat_lt, refl, ap, subst, arith, Option, Some, None, option_and_then, Result, Ok, Err}
use Rattle.std.proofs.lemmas.Bool.{and_parts, eq-eqb, ne_eqb, lt-ltb, le-ltb}
use Rattle.wd_schema.specs.Tables.{TableRule}
use Rattle.wd_plan.specs.Fits.{fits, is_join, is_step, kinds_of, width}
use Rattle.wd_plan.specs.Plans.{PlanTree, Scan, Join, Over, node_count}
use Rattle.wd_plan.proofs.Ranges.{narrow}
use Rattle.wd_candidates.specs.Nodes.{AreNarrow, found, or_own, or_right}
use Rattle.wd_candidates.specs.Tied.{node_at, ordered_at, ordered_by}

-- ---- widths

-- a plan that fits has narrow nodes
pub fits_narrow : (tables : List TableRule) (plan : PlanTree) → fits tables plan ≡ true → AreNarrow plan
fits_narrow tables (Scan table columns) f = narrow tables (Scan table columns) f
fits_narrow tables (Join condition left right) f =
    let first = and_parts (fits tables left && fits tables right) (is_join (kinds_of tables (Join condition left right)) (width left + width right) condition) f in
    let sides = and_parts (fits tables left) (fits tables right) first.0 in
    ((fits_narrow tables left sides.0, fits_narrow tables right sides.1), narrow tables (Join condition left right) f)
fits_narrow tables (Over step input) f = (fits_narrow tables input (and_parts (fits tables input) (is_step (kinds_of tables input) (width input) step) f).0, narrow tables (Over step input) f)

-- and so its own rows are narrow
pub narrow_width : (plan : PlanTree) → AreNarrow plan → width plan ≤ 1024
narrow_width (Scan table columns) n = n
narrow_width (Join condition left right) n = n.1
narrow_width (Over step input) n = n.1

pub width_is : (plan : PlanTree) (n : ℕ) → AreNarrow plan → n ≡ min (width plan) 4294967295 → n ≡ width plan
width_is plan n narrow e = let few = narrow_width plan narrow in omega arith

-- ---- the walk

-- how what was found among so many nodes stands to the node with the number
Stands : ℕ → Option PlanTree → ℕ → Result PlanTree ℕ → Type 0
Stands count at n (Ok node) = (n < count) × (at ≡ Some node)
Stands count at n (Err left) = (n ≡ count + left) × (at ≡ None)

own_stands : (own : PlanTree) (count n : ℕ) (at : Option PlanTree) (r : Result PlanTree ℕ) → Stands count at n r → Stands (count + 1) (cond (nat_eq n count) (Some own) at) n (or_own own r)
unfolding Stands
own_stands own count n at (Ok node) s =
    let low = s.0 in
    let other : nat_eq n count ≡ false = ne_eqb n count (λ e. omega arith) in
    (omega arith, rw other s.1)
own_stands own count n at (Err zero) s =
    let is = s.0 in
    let same : nat_eq n count ≡ true = eq-eqb n count (omega arith) in
    (omega arith, rw same refl)
own_stands own count n at (Err (suc more)) s =
    let is = s.0 in
    let other : nat_eq n count ≡ false = ne_eqb n count (λ e. omega arith) in
    (omega arith, rw other s.1)

module _ (l r n : ℕ) (at : Option PlanTree) (at_right : ℕ → Option PlanTree) where
  on_right : (k : ℕ) (b : Result PlanTree ℕ) → n ≡ l + k → Stands r (at_right k) k b → Stands (l + r) (cond (nat_lt n l) at (at_right (n - l))) n b
  unfolding Stands
  on_right k (Ok node) e s =
      let low = s.0 in
      let past : nat_lt n l ≡ false = le-ltb n l (omega arith) in
      let is : k ≡ n - l = omega arith in
      (omega arith, rw past (subst (λ j. at_right j ≡ Some node) is s.1))
  on_right k (Err more) e s =
      let is_left = s.0 in
      let past : nat_lt n l ≡ false = le-ltb n l (omega arith) in
      let is : k ≡ n - l = omega arith in
      (omega arith, rw past (subst (λ j. at_right j ≡ None) is s.1))

  right_stands : (right : ℕ → Result PlanTree ℕ) (a : Result PlanTree ℕ) → Stands l at n a → ((k : ℕ) → Stands r (at_right k) k (right k)) → Stands (l + r) (cond (nat_lt n l) at (at_right (n - l))) n (or_right a right)
  unfolding Stands
  right_stands right (Ok node) s t =
      let low = s.0 in
      let before : nat_lt n l ≡ true = lt-ltb n l low in
      (omega arith, rw before s.1)
  right_stands right (Err k) s t = on_right k (right k) s.0 (t k)

stands : (plan : PlanTree) (n : ℕ) → Stands (node_count plan) (node_at plan n) n (found plan n)
unfolding Stands
stands (Scan table columns) n = own_stands (Scan table columns) 0 n None (Err n) (omega arith, refl)
stands (Join condition left right) n =
    own_stands (Join condition left right) (node_count left + node_count right) n _ (or_right (found left n) (found right))
    (right_stands (node_count left) (node_count right) n (node_at left n) (node_at right) (found right) (found left n) (stands left n) (stands right))
stands (Over step input) n = own_stands (Over step input) (node_count input) n (node_at input n) (found input n) (stands input n)

pub found_node : (plan : PlanTree) (n : ℕ) (node : PlanTree) → found plan n ≡ Ok node → node_at plan n ≡ Some node
unfolding Stands
found_node plan n node e = (subst (Stands (node_count plan) (node_at plan n) n) e (stands plan n)).1

pub found_none : (plan : PlanTree) (n left : ℕ) → found plan n ≡ Err left → node_at plan n ≡ None
unfolding Stands
found_none plan n left e = (subst (Stands (node_count plan) (node_at plan n) n) e (stands plan n)).1

pub ordered_found : (plan : PlanTree) (n : ℕ) (call : Option ℕ) (node : PlanTree) → found plan n ≡ Ok node → ordered_by plan n call ≡ ordered_at call node
ordered_found plan n call node e = ap (option_and_then (ordered_at call)) (found_node plan n node e)

pub ordered_none : (plan : PlanTree) (n left : ℕ) (call : Option ℕ) → found plan n ≡ Err left → ordered_by plan n call ≡ None
ordered_none plan n left call e = ap (option_and_then (ordered_at call)) (found_none plan n left e)

-- ---- the node that is found is narrow

IsNarrow : Result PlanTree ℕ → Type 0
IsNarrow (Ok node) = AreNarrow node
IsNarrow (Err left) = Unit {0}

own_narrow : (own : PlanTree) → AreNarrow own → (r : Result PlanTree ℕ) → IsNarrow r → IsNarrow (or_own own r)
unfolding IsNarrow
own_narrow own n (Ok node) m = m
own_narrow own n (Err zero) m = n
own_narrow own n (Err (suc more)) m = tt

right_narrow : (right : ℕ → Result PlanTree ℕ) (a : Result PlanTree ℕ) → IsNarrow a → ((k : ℕ) → IsNarrow (right k)) → IsNarrow (or_right a right)
unfolding IsNarrow
right_narrow right (Ok node) m g = m
right_narrow right (Err k) m g = g k

narrow_found : (plan : PlanTree) → AreNarrow plan → (n : ℕ) → IsNarrow (found plan n)
unfolding IsNarrow
narrow_found (Scan table columns) w n = own_narrow (Scan table columns) w (Err n) tt
narrow_found (Join condition left right) w n = own_narrow (Join condition left right) w (or_right (found left n) (found right)) (right_narrow (found right) (found left n) (narrow_found left w.0.0 n) (narrow_found right w.0.1))
narrow_found (Over step input) w n = own_narrow (Over step input) w (found input n) (narrow_found input w.0 n)

pub found_narrow : (tables : List TableRule) (plan : PlanTree) (n : ℕ) (node : PlanTree) → fits tables plan ≡ true → found plan n ≡ Ok node → AreNarrow node
unfolding IsNarrow
found_narrow tables plan n node f e = subst IsNarrow e (narrow_found plan (fits_narrow tables plan f) n)
