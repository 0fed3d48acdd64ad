-- A partition list as a call reads it stands in the order that frames ask for.
use Rattle.std.proofs.Common.{◌≡◌, ◌∙◌, ℕ, ◌<◌, ◌≤◌, ℤ, pos, ◌-ℤ◌, Bool, true, false, if◌then◌else◌, List, [], ◌∷◌, map, length, get_or, refl, sym, ap, subst, arith, Option, Some, None, Ordering, Less, Equal, Greater, int_cmp}
use Rattle.std.specs.Prelude.{int_le}
use Rattle.std.specs.Ordering.{ordering_reverse, ordering_then}
use Rattle.std.proofs.lemmas.Int.{ints}
use Rattle.std.proofs.lemmas.List.{get_or-map, length-map}
use Rattle.wd_value.specs.declared.order.SortKey.{SortKey}
use Rattle.wd_value.specs.declared.value.Value.{Value}
use Rattle.wd_value.specs.declared.value.Value.TheVariants.{Null, Int, Text, Bool as Truth}
use Rattle.wd_value.specs.Order.{compare}
use Rattle.wd_value.specs.Rows.{Row, column_of, columns_of, row_at}
use Rattle.wd_value.proofs.OrderLaws.{compare-exact, compare_total}
use Rattle.wd_value.specs.declared.order.SortColumn.{SortColumn}
use Rattle.wd_plan.specs.declared.window.Frame.{Frame}
use Rattle.wd_plan.specs.Frames.{key_distance, value_distance}
use Rattle.wd_value.specs.Keys.{compare_keys, key_columns}
use Rattle.wd_plan.specs.Partitions.{group_of}
use Rattle.wd_plan.specs.Plans.{ClassRule}
use Rattle.wd_plan.proofs.Groups.{group-lt, key_from_group}
use Rattle.wd_frame.specs.Bounds.{IsInOrder, KeysRise, level_at}
use Rattle.wd_frame.specs.Places.{PartRule, group_at, key_at}
use Rattle.wd_frame.proofs.Passing.{gap, value_distance-is}
use Rattle.wd_calls.specs.Parts.{HasKeys, IsPartOf}
use Rattle.wd_calls.specs.Values.{IsRising}
use Rattle.wd_calls.proofs.Columns.{rises}

-- ---- one sort key

then_nothing : (o : Ordering) → ordering_then o Equal ≡ o
then_nothing Less = refl
then_nothing Equal = refl
then_nothing Greater = refl

one_key : (item : SortColumn) (a b : Row) → compare_keys (item ∷ []) a b ≡ compare item.key (column_of a item.column) (column_of b item.column)
one_key item a b = then_nothing (compare item.key (column_of a item.column) (column_of b item.column))

-- two rows with a distance of keys: there is one sort key, and both have a whole number there
record HasNumbers (order : List SortColumn) (r q : Row) (d : ℤ) : Type 0 where
  item : SortColumn
  from : ℤ
  to : ℤ
  only : order ≡ item ∷ []
  first : column_of r item.column ≡ Int from
  second : column_of q item.column ≡ Int to
  apart : d ≡ (if item.key.desc then from -ℤ to else to -ℤ from)

record AreNumbers (desc : Bool) (v w : Value) (d : ℤ) : Type 0 where
  from : ℤ
  to : ℤ
  first : v ≡ Int from
  second : w ≡ Int to
  apart : d ≡ (if desc then from -ℤ to else to -ℤ from)

numbers : (desc : Bool) (v w : Value) (d : ℤ) → value_distance desc v w ≡ Some d → AreNumbers desc v w d
numbers desc (Int x) (Int y) d e = record { from = x; to = y; first = refl; second = refl; apart = cc }
numbers desc (Int x) Null d e = absurd (cc e)
numbers desc (Int x) (Text t) d e = absurd (cc e)
numbers desc (Int x) (Truth b) d e = absurd (cc e)
numbers desc Null w d e = absurd (cc e)
numbers desc (Text t) w d e = absurd (cc e)
numbers desc (Truth b) w d e = absurd (cc e)

has_numbers : (order : List SortColumn) (r q : Row) (d : ℤ) → key_distance order r q ≡ Some d → HasNumbers order r q d
has_numbers [] r q d e = absurd (cc e)
has_numbers (item ∷ []) r q d e =
    let are = numbers item.key.desc (column_of r item.column) (column_of q item.column) d e in
    record { item = item; from = are.from; to = are.to; only = refl; first = are.first; second = are.second; apart = are.apart }
has_numbers (item ∷ other ∷ items) r q d e = absurd (cc e)

-- a number at a negative distance stands before
stands_before : (key : SortKey) (x y : ℤ) → int_le (pos 0) (if key.desc then x -ℤ y else y -ℤ x) ≡ false → compare key (Int y) (Int x) ≡ Less
stands_before key x y = by key.desc
  where
    by : (desc : Bool) → int_le (pos 0) (if desc then x -ℤ y else y -ℤ x) ≡ false → (if desc then int_cmp x y else int_cmp y x) ≡ Less
    by true e = grind (arith, ints)
    by false e = grind (arith, ints)

-- what is no whole number stands before all of them, or after all
one_side : (key : SortKey) (x y : ℤ) (v : Value) → value_distance key.desc (Int x) v ≡ None → compare key (Int x) v ≡ compare key (Int y) v
one_side key x y (Int z) e = absurd (cc e)
one_side key x y Null e = refl
one_side key x y (Text t) e = refl
one_side key x y (Truth b) e = refl

negative : (a b : ℤ) → int_le a b ≡ false → int_le (pos 0) (b -ℤ a) ≡ false
negative a b e = grind (arith, ints)

module _ (class : ClassRule) (partition : List Row) (part : PartRule)
    (same : part.groups ≡ map (group_of class partition) partition) (rising : IsRising part.groups) where
  abbrev row : ℕ → Row
  row p = row_at partition p

  abbrev group : ℕ → ℕ
  group p = group_of class partition (row p)

  long : length part.groups ≡ length partition
  long = ap length same ∙ length-map partition (group_of class partition)

  group-is : (p : ℕ) → p < length partition → group_at part p ≡ group p
  group-is p l = ap (λ gs. get_or gs p 0) same ∙ get_or-map (group_of class partition) partition p [] 0 l

  groups_rise : (p q : ℕ) → p < q → q < length partition → group p ≤ group q
  groups_rise p q o l =
      let is = group-is p (omega arith) in let are = group-is q l in
      let le = rising p q 0 (omega arith) (rw long l) in
      omega arith

  -- a row whose key stands before that of an earlier one
  never : (p q : ℕ) → p < q → q < length partition → compare_keys class.order (row q) (row p) ≡ Less → ⊥
  never p q o l e = let lt = group-lt class partition q (row q) (row p) l refl e in let le = groups_rise p q o l in omega arith

  module _ (keys : HasKeys class partition part) where
    distance : (p q : ℕ) (a b : Option ℤ) → p < length partition → q < length partition → level_at part p ≡ a → level_at part q ≡ b → key_distance class.order (row p) (row q) ≡ gap a b
    distance p q a b l m e f = sym (keys p q l m) ∙ value_distance-is part.desc (key_at part p) (key_at part q) ∙ (λ i. gap (e i) (f i))

    rise : (p q : ℕ) (a b : ℤ) → p < q → q < length partition → level_at part p ≡ Some a → level_at part q ≡ Some b → int_le a b ≡ true
    rise p q a b o l e f = by (int_le a b) refl
      where
        has : HasNumbers class.order (row p) (row q) (b -ℤ a)
        has = has_numbers class.order (row p) (row q) (b -ℤ a) (distance p q (Some a) (Some b) (omega arith) l e f)

        by : (c : Bool) → int_le a b ≡ c → int_le a b ≡ true
        by true g = g
        by false g = absurd (never p q o l
            (ap (λ items. compare_keys items (row q) (row p)) has.only
            ∙ one_key has.item (row q) (row p)
            ∙ (λ i. compare has.item.key (has.second i) (has.first i))
            ∙ stands_before has.item.key has.from has.to (ap (int_le (pos 0)) (sym has.apart) ∙ negative a b g)))

    apart : (p q : ℕ) (a : ℤ) → p < length partition → q < length partition → level_at part p ≡ Some a → level_at part q ≡ None → group p ≡ group q → ⊥
    apart p q a l m e f g =
        let has = has_numbers class.order (row p) (row p) (a -ℤ a) (distance p p (Some a) (Some a) l l e e) in
        let none : value_distance has.item.key.desc (column_of (row p) has.item.column) (column_of (row q) has.item.column) ≡ None =
        ap (λ items. key_distance items (row p) (row q)) (sym has.only) ∙ distance p q (Some a) None l m e f in
        let alike : columns_of (key_columns (has.item ∷ [])) (row p) ≡ columns_of (key_columns (has.item ∷ [])) (row q) =
        rw has.only at (key_from_group class partition p q l m g) in
        let column : column_of (row p) has.item.column ≡ column_of (row q) has.item.column = cc alike in
        let some : value_distance has.item.key.desc (Int has.from) (Int has.from) ≡ None = (λ i. value_distance has.item.key.desc (sym has.first i) (sym has.first i)) ∙ ap (λ v. value_distance has.item.key.desc (column_of (row p) has.item.column) v) column ∙ none in
        cc some

    together : (p q r : ℕ) (a b : ℤ) → p < q → q < r → r < length partition → level_at part p ≡ Some a → level_at part r ≡ Some b → level_at part q ≡ None → ⊥
    together p q r a b o o' l e f g = by (compare has.item.key (Int has.from) v) refl
      where
        has : HasNumbers class.order (row p) (row r) (b -ℤ a)
        has = has_numbers class.order (row p) (row r) (b -ℤ a) (distance p r (Some a) (Some b) (omega arith) l e f)

        v : Value
        v = column_of (row q) has.item.column

        none : value_distance has.item.key.desc (Int has.from) v ≡ None
        none = ap (λ w. value_distance has.item.key.desc w v) (sym has.first) ∙ ap (λ items. key_distance items (row p) (row q)) (sym has.only) ∙ distance p q (Some a) None (omega arith) (omega arith) e g

        by : (c : Ordering) → compare has.item.key (Int has.from) v ≡ c → ⊥
        by Less h = never q r o' l
            (ap (λ items. compare_keys items (row r) (row q)) has.only ∙ one_key has.item (row r) (row q) ∙ ap (λ w. compare has.item.key w v) has.second
            ∙ sym (one_side has.item.key has.from has.to v none) ∙ h)
        by Equal h = let is = compare-exact has.item.key (Int has.from) v h in let no = ap (value_distance has.item.key.desc (Int has.from)) is ∙ none in cc no
        by Greater h = never p q o (omega arith)
            (ap (λ items. compare_keys items (row q) (row p)) has.only ∙ one_key has.item (row q) (row p) ∙ ap (compare has.item.key v) has.first
            ∙ (compare_total has.item.key).antisymm v (Int has.from) ∙ ap ordering_reverse h)

    keys_rise : KeysRise part
    keys_rise = record {
      rise = λ p q a b o l e f. rise p q a b o (rw long at l) e f;
      apart = λ p q a l m e f g. apart p q a (rw long at l) (rw long at m) e f (sym (group-is p (rw long at l)) ∙ g ∙ group-is q (rw long at m));
      together = λ p q r a b o o' l e f g. together p q r a b o o' (rw long at l) e f g;
    }

pub in_order : {class : ClassRule} {frame : Frame} {partition : List Row} {part : PartRule} → IsPartOf class frame partition part → IsInOrder part frame
in_order {class} {frame} {partition} {part} is =
    let rising : IsRising part.groups = subst IsRising (sym is.groups) (rises is.rising) in
    record {
      groups = λ p q o l. rising p q 0 (omega arith) l;
      keys = λ offset. keys_rise class partition part is.groups rising (is.keys offset);
    }
