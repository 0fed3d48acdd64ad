-- The calls by peer groups: their values are a matter of the row and of the rows of its partition, in any order.
use Rattle.std.proofs.Common.{◌≡◌, ℕ, ◌+◌, ◌<◌, ℤ, pos, ◌+ℤ◌, Bool, true, false, cond, not, List, ◌∷◌, length, count_by, refl, sym, ◌∙◌, ap, arith, Ordering, Less, Equal, Greater, is_gt, nat_lt, Ok, Err}
use Rattle.std.specs.Cmp.{IsTotalOrder}
use Rattle.std.specs.Ordering.{ordering_reverse}
use Rattle.std.proofs.lemmas.Bool.{false≢true}
use Rattle.std.proofs.lemmas.Cmp.{upto}
use Rattle.std.proofs.lemmas.Int.{ints}
use Rattle.std.proofs.lemmas.Map.Lookups.{CmpEqualImpliesEq}
use Rattle.wd_laws.proofs.Frames.{Perm-frame_rows, Perm-group}
use Rattle.wd_plan.specs.Calls.{aggregate_value, call_value, column_values, first_by, ranking_value, sum_of, total}
use Rattle.wd_plan.specs.Expressions.{fits_64, is_null}
use Rattle.wd_plan.specs.Frames.{is_stable}
use Rattle.wd_plan.specs.Functions.{name_of_direction, signature}
use Rattle.wd_plan.specs.Settled.{goes_by_peers, is_by_peers}
use Rattle.wd_plan.specs.Partitions.{group_of}
use Rattle.wd_plan.specs.Plans.{ClassRule}
use Rattle.wd_plan.specs.declared.function.Aggregate.{Aggregate as AggregateFunction}
use Rattle.wd_plan.specs.declared.function.Aggregate.TheVariants.{Count, CountRows, Max, Min, Sum}
use Rattle.wd_plan.specs.declared.function.Direction.{Direction}
use Rattle.wd_plan.specs.declared.function.Direction.TheVariants.{Lag, Lead}
use Rattle.wd_plan.specs.declared.function.FrameFunction.TheVariants.{Aggregate, ValueAt}
use Rattle.wd_plan.specs.declared.function.FrameRow.TheVariants.{First, Last, Nth}
use Rattle.wd_plan.specs.declared.function.Function.{Function}
use Rattle.wd_plan.specs.declared.function.Function.TheVariants.{Ranking as Ranked, Shift as Shifted, OfFrame}
use Rattle.wd_plan.specs.declared.function.Ranking.{Ranking}
use Rattle.wd_plan.specs.declared.function.Ranking.TheVariants.{DenseRank, Ntile, Rank, RowNumber}
use Rattle.wd_plan.specs.declared.window.Frame.{Frame}
use Rattle.wd_value.proofs.OrderLaws.{compare-exact, compare_total}
use Rattle.wd_value.proofs.Perms.{Perm, Perm-count_by, Perm-keeps, Perm-length, Perm-list_any, Perm-map}
use Rattle.wd_value.specs.Order.{compare}
use Rattle.wd_value.specs.Rows.{Row, column_of, row_at}
use Rattle.wd_value.specs.declared.order.SortKey.{SortKey}
use Rattle.wd_value.specs.declared.value.Fault.TheVariants.{OutOfRange}
use Rattle.wd_value.specs.declared.value.Value.{Value}
use Rattle.wd_value.specs.declared.value.Value.TheVariants.{Int, Null, Text, Bool as Truth}

-- ---- totals

added : Value → ℤ → ℤ
added Null z = z
added (Int n) z = n +ℤ z
added (Text t) z = z
added (Truth b) z = z

total_is : (v : Value) (vs : List Value) → total (v ∷ vs) ≡ added v (total vs)
unfolding added
total_is Null vs = refl
total_is (Int n) vs = refl
total_is (Text t) vs = refl
total_is (Truth b) vs = refl

added_swaps : (v w : Value) (z : ℤ) → added v (added w z) ≡ added w (added v z)
unfolding added
added_swaps (Int m) (Int n) z = omega (arith, ints)
added_swaps (Int m) Null z = refl
added_swaps (Int m) (Text t) z = refl
added_swaps (Int m) (Truth b) z = refl
added_swaps Null w z = refl
added_swaps (Text t) w z = refl
added_swaps (Truth b) w z = refl

pub Perm-total : {vs ws : List Value} → Perm Value vs ws → total vs ≡ total ws
Perm-total p = Perm-keeps total added total_is added_swaps p

pub Perm-sum_of : {vs ws : List Value} → Perm Value vs ws → sum_of vs ≡ sum_of ws
Perm-sum_of p = λ i. cond (Perm-list_any (λ v. not (is_null v)) p i) (cond (fits_64 (Perm-total p i)) (Ok (Int (Perm-total p i))) (Err OutOfRange)) (Ok Null)

-- ---- the first by an order that tells elements apart

module _ {X : Type 0} (R : X → X → Ordering) (o : IsTotalOrder R) (exact : CmpEqualImpliesEq R) where
  abbrev pub first_of : X → X → X
  first_of v w = cond (is_gt (R v w)) w v

  neither : (a b : Ordering) → a ≡ ordering_reverse b → is_gt a ≡ false → is_gt b ≡ false → a ≡ Equal
  neither a Less e g h = cc
  neither a Equal e g h = e
  neither a Greater e g h = cc

  one_way : (a b : Ordering) → a ≡ ordering_reverse b → is_gt a ≡ true → is_gt b ≡ false
  one_way a Less e g = refl
  one_way a Equal e g = refl
  one_way a Greater e g = cc

  swaps_by : (x y v : X) (xy yx yv xv : Bool) → is_gt (R x y) ≡ xy → is_gt (R y x) ≡ yx → is_gt (R y v) ≡ yv → is_gt (R x v) ≡ xv → first_of x (first_of y v) ≡ first_of y (first_of x v)
  swaps_by x y v xy yx true true a b c d = rw (c, d, c)
  swaps_by x y v true yx false true a b c d = rw (c, d, c, a)
  swaps_by x y v false yx false true a b c d = absurd (let t = upto o x y v a c in cc)
  swaps_by x y v xy true true false a b c d = rw (c, d, b)
  swaps_by x y v xy false true false a b c d = absurd (let t = upto o y x v b d in cc)
  swaps_by x y v true true false false a b c d = absurd (let t = one_way _ _ (o.antisymm x y) a in cc)
  swaps_by x y v true false false false a b c d = rw (c, d, a, b)
  swaps_by x y v false true false false a b c d = rw (c, d, a, b)
  swaps_by x y v false false false false a b c d = rw (c, d, a, b) (exact x y (neither _ _ (o.antisymm x y) a b))

  pub first_of-swaps : (x y v : X) → first_of x (first_of y v) ≡ first_of y (first_of x v)
  first_of-swaps x y v = swaps_by x y v _ _ _ _ refl refl refl refl

pub Perm-first_by : (key : SortKey) {vs ws : List Value} → Perm Value vs ws → first_by key vs ≡ first_by key ws
Perm-first_by key p = Perm-keeps (first_by key) (λ v w. cond (is_gt (compare key v w)) w v) (λ v vs. refl) (first_of-swaps (compare key) (compare_total key) (compare-exact key)) p

-- ---- aggregates

Perm-column : (c : ℕ) {rows others : List Row} → Perm Row rows others → Perm Value (column_values c rows) (column_values c others)
Perm-column c p = Perm-map (λ r. column_of r c) p

pub Perm-aggregate : (aggregate : AggregateFunction) {rows others : List Row} → Perm Row rows others → aggregate_value aggregate rows ≡ aggregate_value aggregate others
Perm-aggregate CountRows p = ap (λ n. Ok (Int (pos n))) (Perm-length p)
Perm-aggregate (Count c) p = ap (λ n. Ok (Int (pos n))) (Perm-count_by (λ r. not (is_null (column_of r c))) p)
Perm-aggregate (Sum c) p = Perm-sum_of (Perm-column c p)
Perm-aggregate (Min c) p = ap (λ v. Ok v) (Perm-first_by (record { desc = false; nulls_first = false }) (Perm-column c p))
Perm-aggregate (Max c) p = ap (λ v. Ok v) (Perm-first_by (record { desc = true; nulls_first = false }) (Perm-column c p))

-- ---- the calls

-- LAG and LEAD never go by peers
shifts_never : (frame : Frame) (direction : Direction) → goes_by_peers (signature (name_of_direction direction)).by_peers frame ≡ false
shifts_never frame Lag = refl
shifts_never frame Lead = refl

-- an aggregate goes by peers over a stable frame
aggregates_stable : (frame : Frame) (aggregate : AggregateFunction) → is_by_peers frame (OfFrame (Aggregate aggregate)) ≡ is_stable frame
aggregates_stable frame CountRows = refl
aggregates_stable frame (Count c) = refl
aggregates_stable frame (Sum c) = refl
aggregates_stable frame (Min c) = refl
aggregates_stable frame (Max c) = refl

ranks : (class : ClassRule) (frame : Frame) (ranking : Ranking) (part other : List Row) (i j : ℕ) → is_by_peers frame (Ranked ranking) ≡ true → Perm Row part other → row_at part i ≡ row_at other j → ranking_value class ranking part i ≡ ranking_value class ranking other j
ranks class frame RowNumber part other i j h p e = absurd (false≢true h)
ranks class frame Rank part other i j h p e =
    let g = Perm-group class p in
    let swapped = Perm-count_by (λ q. nat_lt (group_of class part q) (group_of class part (row_at part i))) p in
    ap (λ n. 1 + n) (swapped ∙ (λ m. count_by (λ q. nat_lt (g m q) (g m (e m))) other))
ranks class frame DenseRank part other i j h p e = λ m. Perm-group class p m (e m) + 1
ranks class frame (Ntile n) part other i j h p e = absurd (false≢true h)

pub peers_value : (class : ClassRule) (frame : Frame) (function : Function) (part other : List Row) (i j : ℕ) → is_by_peers frame function ≡ true → Perm Row part other → i < length part → j < length other → row_at part i ≡ row_at other j → call_value class frame function part i ≡ call_value class frame function other j
peers_value class frame (Ranked ranking) part other i j h p k l e = ap (λ n. Ok (Int (pos n))) (ranks class frame ranking part other i j h p e)
peers_value class frame (Shifted shift) part other i j h p k l e = absurd (false≢true (sym (shifts_never frame shift.direction) ∙ h))
peers_value class frame (OfFrame (ValueAt First c)) part other i j h p k l e = absurd (false≢true h)
peers_value class frame (OfFrame (ValueAt Last c)) part other i j h p k l e = absurd (false≢true h)
peers_value class frame (OfFrame (ValueAt (Nth n) c)) part other i j h p k l e = absurd (false≢true h)
peers_value class frame (OfFrame (Aggregate aggregate)) part other i j h p k l e = Perm-aggregate aggregate (Perm-frame_rows class frame part other i j (sym (aggregates_stable frame aggregate) ∙ h) p k l e)
