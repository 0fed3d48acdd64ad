-- The nullable keys of a plan that fits name its columns.
use Rattle.std.proofs.Common.{◌≡◌, ℕ, ◌+◌, ◌<◌, ◌≤◌, Bool, true, false, cond, not, ◌&&◌, List, [], ◌∷◌, map, filter, length, refl, sym, subst, arith, nat_lt, Option, Some, None, slice_get}
use Rattle.std.specs.List.{AllByRecursion, list_all}
use Rattle.std.proofs.lemmas.Bool.{and_parts, lt-ltb, ltb-true}
use Rattle.wd_schema.specs.Tables.{KeyRule, TableRule}
use Rattle.wd_plan.specs.Expressions.{Expression}
use Rattle.wd_plan.specs.Fits.{AreBelow, fits, has_table, is_narrow, is_step, kinds_of, step_width, width}
use Rattle.wd_plan.specs.Plans.{Step, Map, Group, Window, PlanTree, Scan, Join, Over}
use Rattle.wd_plan.proofs.Ranges.{has_the_table, table_columns}
use Rattle.wd_facts.specs.Given.{gives_row, names_columns, null_keys, nullable_keys, step_keys, table_rule}
use Rattle.wd_step_facts.specs.Steps.{both_copied, copied_keys, copies, copy_from, if_copied, is_side, side_of}

-- ---- more columns

pub wider : (a b : ℕ) → a ≤ b → (X : List ℕ) → AreBelow a X → AreBelow b X
wider a b h [] e = refl
wider a b h (c ∷ X) e =
    let parts = and_parts (nat_lt c a) (list_all (λ c. nat_lt c a) X) e in
    let l = ltb-true c a parts.0 in
    λ i. lt-ltb c b (omega arith) i && wider a b h X parts.1 i

pub all_wider : (a b : ℕ) → a ≤ b → (keys : List (List ℕ)) → AllByRecursion (AreBelow a) keys → AllByRecursion (AreBelow b) keys
all_wider a b h [] e = tt
all_wider a b h (X ∷ keys) e = (wider a b h X e.0, all_wider a b h keys e.1)

-- ---- a Scan

module _ (t : TableRule) where
  abbrev test : KeyRule → Bool
  test key = names_columns t key && not (gives_row t key)

  step : (key : KeyRule) (keys : List KeyRule) (b : Bool) → test key ≡ b → AllByRecursion (AreBelow (length t.columns)) (map (λ (k : KeyRule). k.columns) (filter test keys)) → AllByRecursion (AreBelow (length t.columns)) (map (λ (k : KeyRule). k.columns) (filter test (key ∷ keys)))
  step key keys true e rest = rw e ((and_parts (names_columns t key) (not (gives_row t key)) e).0, rest)
  step key keys false e rest = rw e rest

  below : (keys : List KeyRule) → AllByRecursion (AreBelow (length t.columns)) (map (λ (k : KeyRule). k.columns) (filter test keys))
  below [] = tt
  below (key ∷ keys) = step key keys (test key) refl (below keys)

  pub null_keys_below : AllByRecursion (AreBelow (length t.columns)) (null_keys t)
  null_keys_below = below t.keys

-- ---- a Map

some_number : (a b : ℕ) → Some a ≡ Some b → a ≡ b
some_number a b h = cc

copy_by : (b : Bool) (x : Expression) (outputs : List Expression) (j c d : ℕ) → (copy_from (j + 1) outputs c ≡ Some d → d < (j + 1) + length outputs) → cond b (Some j) (copy_from (j + 1) outputs c) ≡ Some d → d < j + length (x ∷ outputs)
copy_by true x outputs j c d later h = let same = some_number j d h in omega arith
copy_by false x outputs j c d later h = let l = later h in omega arith

copy_below : (outputs : List Expression) (j c d : ℕ) → copy_from j outputs c ≡ Some d → d < j + length outputs
copy_below [] j c d e = cc
copy_below (x ∷ outputs) j c d e = copy_by (is_side c (side_of x)) x outputs j c d (copy_below outputs (j + 1) c d) e

module _ (outputs : List Expression) where
  cons : (Y : List ℕ) (a : Option ℕ) (b : Option (List ℕ)) → ((d : ℕ) → a ≡ Some d → d < length outputs) → ((Z : List ℕ) → b ≡ Some Z → AreBelow (length outputs) Z) → both_copied a b ≡ Some Y → AreBelow (length outputs) Y
  cons Y None b f g e = cc
  cons Y (Some d) None f g e = cc
  cons Y (Some d) (Some Z) f g e =
      let is : d ∷ Z ≡ Y = cc in
      subst (AreBelow (length outputs)) is (λ i. lt-ltb d (length outputs) (f d refl) i && g Z refl i)

  none : (Y : List ℕ) → ◌≡◌ {A = Option (List ℕ)} (Some []) (Some Y) → AreBelow (length outputs) Y
  none Y e = let is : [] ≡ Y = cc in subst (AreBelow (length outputs)) is refl

  copies_below : (X Y : List ℕ) → copies outputs X ≡ Some Y → AreBelow (length outputs) Y
  copies_below [] Y e = none Y e
  copies_below (c ∷ X) Y e = cons Y (copy_from 0 outputs c) (copies outputs X) (λ d f. let low = copy_below outputs 0 c d f in omega arith) (λ Z f. copies_below X Z f) e

  if_copied_below : (o : Option (List ℕ)) (X : List ℕ) (rest : List (List ℕ)) → copies outputs X ≡ o → AllByRecursion (AreBelow (length outputs)) rest → AllByRecursion (AreBelow (length outputs)) (if_copied o rest)
  if_copied_below None X rest e h = h
  if_copied_below (Some Y) X rest e h = (copies_below X Y e, h)

  pub copied_keys_below : (keys : List (List ℕ)) → AllByRecursion (AreBelow (length outputs)) (copied_keys outputs keys)
  copied_keys_below [] = tt
  copied_keys_below (X ∷ keys) = if_copied_below (copies outputs X) X (copied_keys outputs keys) refl (copied_keys_below keys)

-- ---- a plan

rule_is : (tables : List TableRule) (table : ℕ) (t : TableRule) → slice_get tables table ≡ Some t → table_rule tables table ≡ t
rule_is tables table t e = rw e refl

scan_below : (tables : List TableRule) (table columns : ℕ) → has_table tables table columns ≡ true → AllByRecursion (AreBelow columns) (null_keys (table_rule tables table))
scan_below tables table columns has =
    let t = has_the_table tables table columns has in
    let long = table_columns tables table columns t.0 t.1 has in
    subst (λ (x : TableRule). AllByRecursion (AreBelow columns) (null_keys x)) (sym (rule_is tables table t.0 t.1)) (subst (λ n. AllByRecursion (AreBelow n) (null_keys t.0)) (sym long) (null_keys_below t.0))

step_keys_below : (step : Step) (columns : ℕ) (keys : List (List ℕ)) → AllByRecursion (AreBelow columns) keys → AllByRecursion (AreBelow (step_width step columns)) (step_keys step keys)
step_keys_below (Map outputs) columns keys a = copied_keys_below outputs keys
step_keys_below (Group g) columns keys a = tt
step_keys_below (Window w) columns keys a = all_wider columns (columns + length w.calls) (omega arith) keys a
step_keys_below step columns keys a = a

pub nullable_keys_below : (tables : List TableRule) (plan : PlanTree) → fits tables plan ≡ true → AllByRecursion (AreBelow (width plan)) (nullable_keys tables plan)
nullable_keys_below tables (Scan table columns) f = let has = (and_parts (is_narrow columns) (has_table tables table columns) f).1 in scan_below tables table columns has
nullable_keys_below tables (Join condition left right) f = tt
nullable_keys_below tables (Over step input) f = step_keys_below step (width input) (nullable_keys tables input) (nullable_keys_below tables input (and_parts (fits tables input) (is_step (kinds_of tables input) (width input) step) f).0)

-- keys of so many columns are keys of more
pub keys_within : (a b : ℕ) → a ≤ b → (keys : List (List ℕ)) → AllByRecursion (AreBelow a) keys → list_all (list_all (λ c. nat_lt c b)) keys ≡ true
keys_within a b h [] e = refl
keys_within a b h (X ∷ keys) e = λ i. wider a b h X e.0 i && keys_within a b h keys e.1 i
