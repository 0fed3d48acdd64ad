-- What a plan that fits names: its columns are those of its inputs, its calls' classes are there.
use Rattle.std.proofs.Common.{◌≡◌, ℕ, zero, suc, ◌+◌, ◌-◌, ◌<◌, ◌≤◌, Bool, true, false, cond, ◌&&◌, List, [], ◌∷◌, length, refl, sym, ◌∙◌, ap, arith, nat_lt, nat_eq, nat_le, Option, Some, None, slice_get, is_some, option_and_then}
use Rattle.std.specs.List.{AllByRecursion, list_all, list_any}
use Rattle.std.proofs.lemmas.Bool.{and_parts, false≢true, leb-true, lt-ltb, ltb-false, ltb-true, eqb-true}
use Rattle.std.proofs.lemmas.Option.{get_or_from_slice_get, slice_get_within}
use Rattle.wd_schema.specs.declared.table.Column.{Column as TableColumn}
use Rattle.wd_schema.specs.Tables.{TableRule}
use Rattle.wd_value.specs.declared.order.SortColumn.{SortColumn}
use Rattle.wd_plan.specs.declared.window.Call.{Call}
use Rattle.wd_plan.specs.Expressions.{Expression}
use Rattle.wd_plan.specs.Fits.{AreBelow, Kinds, are_bounds, fits, has_class, has_columns, has_keys, has_keys_for, has_table, is_call, is_join, is_narrow, is_step, is_typed, may_join, is_window, are_sets, is_group, is_group_call, kind_of, kind_of_call, kind_of_group_call, kinds_of, step_kinds, step_width, table_kind, takes, width}
use Rattle.wd_value.specs.Bags.{positions}
use Rattle.wd_value.specs.Keys.{key_columns}
use Rattle.wd_plan.specs.Outcomes.{class_at}
use Rattle.wd_plan.specs.Plans.{ClassRule, EachNamesClasses, GroupCall, OfRows, Grouping, GroupRule, HasMask, NameBelow, StepNamesClasses, WindowRule, Step, Map, Group, Window, PlanTree, Scan, Join, Over, has}
use Rattle.wd_plan.specs.Sorting.{order_columns}

-- ---- a table's columns

pub table_columns : (tables : List TableRule) (table columns : ℕ) (t : TableRule) → slice_get tables table ≡ Some t → has_table tables table columns ≡ true → columns ≡ length t.columns
table_columns tables table columns t e f = let g : nat_eq columns (length t.columns) ≡ true = rw e at f in eqb-true columns (length t.columns) g

pub has_the_table : (tables : List TableRule) (table columns : ℕ) → has_table tables table columns ≡ true → (t : TableRule) × (slice_get tables table ≡ Some t)
has_the_table tables table columns f = by (slice_get tables table) refl
  where
    by : (o : Option TableRule) → slice_get tables table ≡ o → (t : TableRule) × (slice_get tables table ≡ Some t)
    by None e = absurd (let g : false ≡ true = rw e at f in false≢true g)
    by (Some t) e = (t, e)

scan_below : (tables : List TableRule) (table columns c : ℕ) (t : TableRule) → slice_get tables table ≡ Some t → columns ≡ length t.columns → is_some (table_kind tables table c) ≡ true → c < columns
scan_below tables table columns c t e long g = by (slice_get t.columns c) refl
  where
    by : (o : Option TableColumn) → slice_get t.columns c ≡ o → c < columns
    by None h = absurd (let k : false ≡ true = rw (e, h) at g in false≢true k)
    by (Some column) h = let k = slice_get_within t.columns c column h in omega arith

-- a column of a step that has a kind is one of its columns
step_below : (step : Step) (kinds : Kinds) (columns : ℕ) → ((c : ℕ) → is_some (kinds c) ≡ true → c < columns) → (c : ℕ) → is_some (step_kinds step columns kinds c) ≡ true → c < step_width step columns
step_below (Map outputs) kinds columns below c e = by (slice_get outputs c) refl e
  where
    by : (o : Option Expression) → slice_get outputs c ≡ o → is_some (option_and_then (kind_of kinds) o) ≡ true → c < length outputs
    by None h g = absurd (false≢true g)
    by (Some x) h g = slice_get_within outputs c x h
step_below (Group g) kinds columns below c e = by (nat_lt c g.columns) refl e
  where
    by_call : (o : Option GroupCall) → slice_get g.calls (c - g.columns) ≡ o → is_some (option_and_then (kind_of_group_call kinds) o) ≡ true → g.columns ≤ c → c < g.columns + length g.calls
    by_call None h k l = absurd (false≢true k)
    by_call (Some call) h k l = let m = slice_get_within g.calls (c - g.columns) call h in omega arith

    by : (b : Bool) → nat_lt c g.columns ≡ b → is_some (cond b (kinds c) (option_and_then (kind_of_group_call kinds) (slice_get g.calls (c - g.columns)))) ≡ true → c < g.columns + length g.calls
    by true h k = let l = ltb-true c g.columns h in omega arith
    by false h k = by_call (slice_get g.calls (c - g.columns)) refl k (ltb-false c g.columns h)
step_below (Window w) kinds columns below c e = by (nat_lt c columns) refl e
  where
    by_call : (o : Option Call) → slice_get w.calls (c - columns) ≡ o → is_some (option_and_then (kind_of_call kinds) o) ≡ true → c < columns + length w.calls
    by_call None h g = absurd (false≢true g)
    by_call (Some call) h g = let k = slice_get_within w.calls (c - columns) call h in omega arith

    by : (b : Bool) → nat_lt c columns ≡ b → is_some (cond b (kinds c) (option_and_then (kind_of_call kinds) (slice_get w.calls (c - columns)))) ≡ true → c < columns + length w.calls
    by true h g = let k = below c g in omega arith
    by false h g = by_call (slice_get w.calls (c - columns)) refl g
step_below step kinds columns below c e = below c e

-- a column that has a kind is a column of the node
pub kinds_below : (tables : List TableRule) (plan : PlanTree) → fits tables plan ≡ true → (c : ℕ) → is_some (kinds_of tables plan c) ≡ true → c < width plan
kinds_below tables (Scan table columns) f c e =
    let parts = and_parts (is_narrow columns) (has_table tables table columns) f in
    let t = has_the_table tables table columns parts.1 in
    scan_below tables table columns c t.0 t.1 (table_columns tables table columns t.0 t.1 parts.1) e
kinds_below tables (Join condition left right) f c e =
    let first = and_parts (fits tables left && fits tables right) (is_join (kinds_of tables (Join condition left right)) (width left + width right) condition) f in
    let sides = and_parts (fits tables left) (fits tables right) first.0 in
    by (nat_lt c (width left)) refl e (kinds_below tables left sides.0 c) (kinds_below tables right sides.1 (c - width left))
  where
    by : (b : Bool) → nat_lt c (width left) ≡ b → is_some (cond b (kinds_of tables left c) (kinds_of tables right (c - width left))) ≡ true → (is_some (kinds_of tables left c) ≡ true → c < width left) → (is_some (kinds_of tables right (c - width left)) ≡ true → c - width left < width right) → c < width left + width right
    by true h g in_left in_right = let k = in_left g in omega arith
    by false h g in_left in_right = let k = in_right g in omega arith
kinds_below tables (Over step input) f c e = step_below step (kinds_of tables input) (width input) (kinds_below tables input (and_parts (fits tables input) (is_step (kinds_of tables input) (width input) step) f).0) c e

-- ---- a Window's calls

module _ (kinds : Kinds) (columns : ℕ) (below : (c : ℕ) → is_some (kinds c) ≡ true → c < columns) where
  columns_below : (X : List ℕ) → has_columns kinds X ≡ true → AreBelow columns X
  columns_below [] e = refl
  columns_below (c ∷ X) e =
      let parts = and_parts (is_some (kinds c)) (has_columns kinds X) e in
      λ i. lt-ltb c columns (below c parts.0) i && columns_below X parts.1 i

  keys_below : (keys : List SortColumn) → has_keys kinds keys ≡ true → AreBelow columns (key_columns keys)
  keys_below [] e = refl
  keys_below (item ∷ keys) e =
      let parts = and_parts (is_some (kinds item.column)) (has_keys kinds keys) e in
      λ i. lt-ltb item.column columns (below item.column parts.0) i && keys_below keys parts.1 i

  -- a call that names a class and a column
  pub record IsSound (w : WindowRule) (call : Call) : Type 0 where
    pub names : call.class < length w.classes
    pub in_partition : AreBelow columns (class_at w call.class).partition
    pub in_order : AreBelow columns (order_columns (class_at w call.class))

  class_there : (classes : List ClassRule) (n : ℕ) (class : ClassRule) → list_all (has_class kinds) classes ≡ true → slice_get classes n ≡ Some class → has_class kinds class ≡ true
  class_there [] n class a e = cc
  class_there (x ∷ classes) zero class a e =
      let same : x ≡ class = cc in
      ap (has_class kinds) (sym same) ∙ (and_parts (has_class kinds x) (list_all (has_class kinds) classes) a).0
  class_there (x ∷ classes) (suc n) class a e = class_there classes n class (and_parts (has_class kinds x) (list_all (has_class kinds) classes) a).1 e

  call_sound : (w : WindowRule) → list_all (has_class kinds) w.classes ≡ true → (call : Call) → is_call kinds w.classes call ≡ true → IsSound w call
  call_sound w a call e = by (slice_get w.classes call.class) refl
    where
      by : (o : Option ClassRule) → slice_get w.classes call.class ≡ o → IsSound w call
      by None h = absurd (let g : false ≡ true = rw h at e in false≢true g)
      by (Some class) h =
          let g : (takes kinds call.function && (are_bounds call.frame.start call.frame.end && has_keys_for kinds class.order call.frame)) ≡ true = rw h at e in
          let own = and_parts (has_columns kinds class.partition) (has_keys kinds class.order) (class_there w.classes call.class class a h) in
          let is : class_at w call.class ≡ class = get_or_from_slice_get w.classes call.class class (record { partition = []; order = [] }) h in
          record {
            names = slice_get_within w.classes call.class class h;
            in_partition = ap (λ (x : ClassRule). list_all (λ c. nat_lt c columns) x.partition) is ∙ columns_below class.partition own.0;
            in_order = ap (λ (x : ClassRule). list_all (λ c. nat_lt c columns) (order_columns x)) is ∙ keys_below class.order own.1;
          }

  calls_sound_from : (w : WindowRule) → list_all (has_class kinds) w.classes ≡ true → (calls : List Call) → list_all (is_call kinds w.classes) calls ≡ true → AllByRecursion (IsSound w) calls
  calls_sound_from w a [] e = tt
  calls_sound_from w a (call ∷ calls) e =
      let parts = and_parts (is_call kinds w.classes call) (list_all (is_call kinds w.classes) calls) e in
      (call_sound w a call parts.0, calls_sound_from w a calls parts.1)

  pub calls_sound : (w : WindowRule) → is_window kinds columns w ≡ true → AllByRecursion (IsSound w) w.calls
  calls_sound w e =
      let first = and_parts (is_narrow (columns + length w.calls)) (list_all (has_class kinds) w.classes && list_all (is_call kinds w.classes) w.calls) e in
      let parts = and_parts (list_all (has_class kinds) w.classes) (list_all (is_call kinds w.classes) w.calls) first.1 in
      calls_sound_from w parts.0 w.calls parts.1

-- ---- a Group's rule

-- what is asked of a Group, part by part
pub record GroupParts (kinds : Kinds) (columns : ℕ) (g : GroupRule) : Type 0 where
  pub narrow : is_narrow (g.columns + length g.calls) ≡ true
  pub there : g.columns ≤ columns
  pub named : list_all (list_all (λ c. nat_lt c g.columns)) g.sets ≡ true
  pub each : list_all (λ c. list_any (λ set. has set c) g.sets) (positions g.columns) ≡ true
  pub calls : list_all (is_group_call kinds g.columns) g.calls ≡ true

pub group_parts : (kinds : Kinds) (columns : ℕ) (g : GroupRule) → is_group kinds columns g ≡ true → GroupParts kinds columns g
group_parts kinds columns g e =
    let first = and_parts (is_narrow (g.columns + length g.calls)) (nat_le g.columns columns && (are_sets g.columns g.sets && list_all (is_group_call kinds g.columns) g.calls)) e in
    let second = and_parts (nat_le g.columns columns) (are_sets g.columns g.sets && list_all (is_group_call kinds g.columns) g.calls) first.1 in
    let third = and_parts (are_sets g.columns g.sets) (list_all (is_group_call kinds g.columns) g.calls) second.1 in
    let sets = and_parts (list_all (list_all (λ c. nat_lt c g.columns)) g.sets) (list_all (λ c. list_any (λ set. has set c) g.sets) (positions g.columns)) third.0 in
    record { narrow = first.0; there = leb-true g.columns columns second.0; named = sets.0; each = sets.1; calls = third.1 }

-- ---- a plan that fits is narrow

step_narrow : (step : Step) (kinds : Kinds) (columns : ℕ) → is_step kinds columns step ≡ true → columns ≤ 1024 → step_width step columns ≤ 1024
step_narrow (Map outputs) kinds columns f h = leb-true (length outputs) 1024 (and_parts (is_narrow (length outputs)) (list_all (is_typed kinds) outputs) f).0
step_narrow (Group g) kinds columns f h = leb-true (g.columns + length g.calls) 1024 (group_parts kinds columns g f).narrow
step_narrow (Window w) kinds columns f h = leb-true (columns + length w.calls) 1024 (and_parts (is_narrow (columns + length w.calls)) (list_all (has_class kinds) w.classes && list_all (is_call kinds w.classes) w.calls) f).0
step_narrow step kinds columns f h = h

pub narrow : (tables : List TableRule) (plan : PlanTree) → fits tables plan ≡ true → width plan ≤ 1024
narrow tables (Scan table columns) f = leb-true columns 1024 (and_parts (is_narrow columns) (has_table tables table columns) f).0
narrow tables (Join condition left right) f =
    let own = (and_parts (fits tables left && fits tables right) (is_join (kinds_of tables (Join condition left right)) (width left + width right) condition) f).1 in
    leb-true (width left + width right) 1024 (and_parts (is_narrow (width left + width right)) (may_join (kinds_of tables (Join condition left right)) condition) own).0
narrow tables (Over step input) f =
    let parts = and_parts (fits tables input) (is_step (kinds_of tables input) (width input) step) f in
    step_narrow step (kinds_of tables input) (width input) parts.1 (narrow tables input parts.0)

-- ---- a plan that fits names its classes

named : (kinds : Kinds) (columns : ℕ) (below : (c : ℕ) → is_some (kinds c) ≡ true → c < columns) (w : WindowRule) (calls : List Call) → AllByRecursion (IsSound kinds columns below w) calls → NameBelow (length w.classes) calls
named kinds columns below w [] a = tt
named kinds columns below w (call ∷ calls) a = (a.0.names, named kinds columns below w calls a.1)

-- each GROUPING of a Group that fits has a mask
have_masks : (kinds : Kinds) (columns : ℕ) (calls : List GroupCall) → list_all (is_group_call kinds columns) calls ≡ true → AllByRecursion (λ (call : GroupCall). HasMask call) calls
have_masks kinds columns [] e = tt
have_masks kinds columns (OfRows a ∷ calls) e = (tt, have_masks kinds columns calls (and_parts (is_group_call kinds columns (OfRows a)) (list_all (is_group_call kinds columns) calls) e).1)
have_masks kinds columns (Grouping arguments ∷ calls) e =
    let parts = and_parts (is_group_call kinds columns (Grouping arguments)) (list_all (is_group_call kinds columns) calls) e in
    let own = and_parts (nat_lt 0 (length arguments) && nat_le (length arguments) 31) (list_all (λ c. nat_lt c columns) arguments) parts.0 in
    let long = and_parts (nat_lt 0 (length arguments)) (nat_le (length arguments) 31) own.0 in
    (leb-true (length arguments) 31 long.1, have_masks kinds columns calls parts.1)

step_names : (step : Step) (kinds : Kinds) (columns : ℕ) → ((c : ℕ) → is_some (kinds c) ≡ true → c < columns) → is_step kinds columns step ≡ true → StepNamesClasses step
step_names (Window w) kinds columns below f = named kinds columns below w w.calls (calls_sound kinds columns below w f)
step_names (Group g) kinds columns below f = have_masks kinds g.columns g.calls (group_parts kinds columns g f).calls
step_names step kinds columns below f = tt

pub names_classes : (tables : List TableRule) (plan : PlanTree) → fits tables plan ≡ true → EachNamesClasses plan
names_classes tables (Scan table columns) f = tt
names_classes tables (Join condition left right) f =
    let first = and_parts (fits tables left && fits tables right) (is_join (kinds_of tables (Join condition left right)) (width left + width right) condition) f in
    let sides = and_parts (fits tables left) (fits tables right) first.0 in
    (names_classes tables left sides.0, names_classes tables right sides.1)
names_classes tables (Over step input) f =
    let parts = and_parts (fits tables input) (is_step (kinds_of tables input) (width input) step) f in
    (names_classes tables input parts.0, step_names step (kinds_of tables input) (width input) (kinds_below tables input parts.0) parts.1)
