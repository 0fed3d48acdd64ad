-- How fixings fill the slots of columns, one after another.
use Rattle.std.proofs.Common.{◌≡◌, ℕ, ◌<◌, Bool, true, false, cond, ◌&&◌, List, [], ◌∷◌, ◌++◌, map, length, get_or, set, take, drop, refl, sym, ◌∙◌, ap, subst, arith, nat_eq, Option, Some, None, option_map, slice_get, ◌⊎◌, inl, inr}
use Rattle.std.specs.Prelude.{zero, suc, find}
use Rattle.std.specs.Option.{option_or}
use Rattle.std.proofs.lemmas.Bool.{and_parts, and_right, cases_eq, false≢true, eqb-true, eq-eqb, cases_Bool}
use Rattle.std.proofs.lemmas.List.{get_or-set_same, get_or-set_other, get_or-map, length-set, length-map, map-set, take-append-le, take_all}
use Rattle.std.proofs.lemmas.List.Folds.{find-append}
use Rattle.std.proofs.lemmas.Option.{slice_get_within}
use Rattle.wd_value.specs.declared.value.Value.{Value}
use Rattle.wd_schema.specs.declared.table.Column.{Column as TableColumnOf}
use Rattle.wd_schema.specs.Tables.{TableRule}
use Rattle.wd_facts.specs.Given.{table_rule}
use Rattle.wd_candidates.specs.declared.fixed.Fixing.{Fixing}
use Rattle.wd_candidates.specs.Fixed.{fixes}
use Rattle.wd_candidates.specs.Filled.{AreFilled, HasSlots, empty_slots, first_value, slot_in}

-- what a fixing fixes a column to
abbrev pub own_value : List TableColumnOf → ℕ → ℕ → Fixing → Option Value
own_value columns table c f = cond (fixes columns table c f) (Some f.value) None

one_more : (columns : List TableColumnOf) (fs : List Fixing) (f : Fixing) (table c : ℕ) → first_value columns (fs ++ f ∷ []) table c ≡ option_or (first_value columns fs table c) (own_value columns table c f)
one_more columns fs f table c = ap (option_map (λ (g : Fixing). g.value)) (find-append (fixes columns table c) fs (f ∷ [])) ∙ by (find (fixes columns table c) fs)
  where
    last : (b : Bool) → option_map (λ (g : Fixing). g.value) (cond b (Some f) None) ≡ cond b (Some f.value) None
    last true = refl
    last false = refl

    by : (o : Option Fixing) → option_map (λ (g : Fixing). g.value) (option_or o (cond (fixes columns table c f) (Some f) None)) ≡ option_or (option_map (λ (g : Fixing). g.value) o) (own_value columns table c f)
    by None = last (fixes columns table c f)
    by (Some g) = refl

-- ---- what a fixing says

record IsOwn (columns : List TableColumnOf) (table c : ℕ) (f : Fixing) : Type 0 where
  in_table : f.table ≡ table
  at_column : f.column ≡ c
  within : c < length columns

own : (columns : List TableColumnOf) (table c : ℕ) (f : Fixing) → fixes columns table c f ≡ true → IsOwn columns table c f
own columns table c f e =
    let parts = and_parts (nat_eq f.table table && nat_eq f.column c) _ e in
    let places = and_parts (nat_eq f.table table) (nat_eq f.column c) parts.0 in
    record {
      in_table = eqb-true f.table table places.0;
      at_column = eqb-true f.column c places.1;
      within = by (slice_get columns c) refl;
    }
  where
    by : (o : Option TableColumnOf) → slice_get columns c ≡ o → c < length columns
    by None h = absurd (let g : ((nat_eq f.table table && nat_eq f.column c) && false) ≡ true = rw h at e in false≢true (sym (and_right (nat_eq f.table table && nat_eq f.column c) false refl) ∙ g))
    by (Some column) h = slice_get_within columns c column h

pub same_number : (n : ℕ) → nat_eq n n ≡ true
same_number n = eq-eqb n n refl

table_within : (tables : List TableRule) (table c : ℕ) → c < length (table_rule tables table).columns → table < length tables
table_within tables table c below = by (slice_get tables table) refl
  where
    by : (o : Option TableRule) → slice_get tables table ≡ o → table < length tables
    by None h = absurd (let none : c < 0 = rw h at below in omega arith)
    by (Some t) h = slice_get_within tables table t h

-- ---- a slot that is set

slot_set_same : (slots : List (List (Option Value))) (table c : ℕ) (v : Option Value) → table < length slots → c < length (get_or slots table []) → slot_in (set slots table (set (get_or slots table []) c v)) table c ≡ v
slot_set_same slots table c v in_slots in_row = ap (λ (row : List (Option Value)). get_or row c None) (get_or-set_same slots table (set (get_or slots table []) c v) [] in_slots) ∙ get_or-set_same (get_or slots table []) c v None in_row

slot_set_other : (slots : List (List (Option Value))) (table c : ℕ) (v : Option Value) → table < length slots → (t d : ℕ) → (t ≡ table → d ≡ c → ⊥) → slot_in (set slots table (set (get_or slots table []) c v)) t d ≡ slot_in slots t d
slot_set_other slots table c v in_slots t d apart = by (cases_eq t table)
  where
    row : List (Option Value)
    row = set (get_or slots table []) c v

    by : (t ≡ table) ⊎ (t ≡ table → ⊥) → slot_in (set slots table row) t d ≡ slot_in slots t d
    by (inl is) = subst (λ n. slot_in (set slots table row) n d ≡ slot_in slots n d) (sym is) (ap (λ (r : List (Option Value)). get_or r d None) (get_or-set_same slots table row [] in_slots) ∙ get_or-set_other (get_or slots table []) c d v None (apart is))
    by (inr other) = ap (λ (r : List (Option Value)). get_or r d None) (get_or-set_other slots table t row [] other)

slots_set : (tables : List TableRule) (slots : List (List (Option Value))) (table c : ℕ) (v : Option Value) → table < length slots → HasSlots tables slots → HasSlots tables (set slots table (set (get_or slots table []) c v))
slots_set tables slots table c v in_slots h = record {
  rows = length-set slots table row ∙ h.rows;
  columns = λ t below. by t (cases_eq t table) ∙ h.columns t below;
}
  where
    row : List (Option Value)
    row = set (get_or slots table []) c v

    by : (t : ℕ) → (t ≡ table) ⊎ (t ≡ table → ⊥) → length (get_or (set slots table row) t []) ≡ length (get_or slots t [])
    by t (inl is) = subst (λ n. length (get_or (set slots table row) n []) ≡ length (get_or slots n [])) (sym is) (ap length (get_or-set_same slots table row [] in_slots) ∙ length-set (get_or slots table []) c v)
    by t (inr other) = ap length (get_or-set_other slots table t row [] other)

-- ---- one fixing more

or_none : (o : Option Value) → option_or o None ≡ o
or_none None = refl
or_none (Some v) = refl

-- the slots after a fixing, by what it does to each
next : (tables : List TableRule) (slots after : List (List (Option Value))) (f : Fixing) → HasSlots tables after → ((table c : ℕ) → table < length tables → c < length (table_rule tables table).columns → slot_in after table c ≡ option_or (slot_in slots table c) (own_value (table_rule tables table).columns table c f)) → (fs : List Fixing) → AreFilled tables fs slots → AreFilled tables (fs ++ f ∷ []) after
next tables slots after f shape does fs h = record {
  shape = shape;
  values = λ table c in_tables in_columns. does table c in_tables in_columns ∙ ap (λ o. option_or o (own_value (table_rule tables table).columns table c f)) (h.values table c in_tables in_columns) ∙ sym (one_more (table_rule tables table).columns fs f table c);
}

-- a fixing of another column, or to a value that is none of its column's, does nothing
other_value : (tables : List TableRule) (f : Fixing) (table c : ℕ) → (f.table ≡ table → f.column ≡ c → fixes (table_rule tables f.table).columns f.table f.column f ≡ true → ⊥) → own_value (table_rule tables table).columns table c f ≡ None
other_value tables f table c apart = by (cases_Bool (fixes (table_rule tables table).columns table c f))
  where
    by : (fixes (table_rule tables table).columns table c f ≡ true) ⊎ (fixes (table_rule tables table).columns table c f ≡ false) → own_value (table_rule tables table).columns table c f ≡ None
    by (inl e) =
        let o = own (table_rule tables table).columns table c f e in
        absurd (apart o.in_table o.at_column (ap (λ n. fixes (table_rule tables n).columns n f.column f) o.in_table ∙ ap (λ n. fixes (table_rule tables table).columns table n f) o.at_column ∙ e))
    by (inr e) = ap (λ b. cond b (Some f.value) None) e

-- a fixing to a value that is none of its column's
pub not_filled : (tables : List TableRule) (slots : List (List (Option Value))) (f : Fixing) → fixes (table_rule tables f.table).columns f.table f.column f ≡ false → (fs : List Fixing) → AreFilled tables fs slots → AreFilled tables (fs ++ f ∷ []) slots
not_filled tables slots f e fs h = next tables slots slots f h.shape (λ table c in_tables in_columns. sym (ap (option_or (slot_in slots table c)) (other_value tables f table c (λ _ _ t. false≢true (sym e ∙ t))) ∙ or_none (slot_in slots table c))) fs h

pub filled : (tables : List TableRule) (slots : List (List (Option Value))) (f : Fixing) → fixes (table_rule tables f.table).columns f.table f.column f ≡ true → (fs : List Fixing) → AreFilled tables fs slots → AreFilled tables (fs ++ f ∷ []) (set slots f.table (set (get_or slots f.table []) f.column (option_or (slot_in slots f.table f.column) (Some f.value))))
filled tables slots f e fs h = next tables slots after f (slots_set tables slots f.table f.column v in_slots h.shape) (λ table c in_tables in_columns. by table c (cases_eq table f.table) (cases_eq c f.column)) fs h
  where
    v : Option Value
    v = option_or (slot_in slots f.table f.column) (Some f.value)

    after : List (List (Option Value))
    after = set slots f.table (set (get_or slots f.table []) f.column v)

    in_columns : f.column < length (table_rule tables f.table).columns
    in_columns = (own (table_rule tables f.table).columns f.table f.column f e).within

    in_tables : f.table < length tables
    in_tables = table_within tables f.table f.column in_columns

    in_slots : f.table < length slots
    in_slots = omega (arith, h.shape.rows, in_tables)

    in_row : f.column < length (get_or slots f.table [])
    in_row = omega (arith, h.shape.columns f.table in_tables, in_columns)

    elsewhere : (table c : ℕ) → (table ≡ f.table → c ≡ f.column → ⊥) → slot_in after table c ≡ option_or (slot_in slots table c) (own_value (table_rule tables table).columns table c f)
    elsewhere table c apart = slot_set_other slots f.table f.column v in_slots table c apart ∙ sym (ap (option_or (slot_in slots table c)) (other_value tables f table c (λ a b _. apart (sym a) (sym b))) ∙ or_none (slot_in slots table c))

    here : slot_in after f.table f.column ≡ option_or (slot_in slots f.table f.column) (own_value (table_rule tables f.table).columns f.table f.column f)
    here = slot_set_same slots f.table f.column v in_slots in_row ∙ ap (λ b. option_or (slot_in slots f.table f.column) (cond b (Some f.value) None)) (sym e)

    by : (table c : ℕ) → (table ≡ f.table) ⊎ (table ≡ f.table → ⊥) → (c ≡ f.column) ⊎ (c ≡ f.column → ⊥) → slot_in after table c ≡ option_or (slot_in slots table c) (own_value (table_rule tables table).columns table c f)
    by table c (inl a) (inl b) = subst (λ n. slot_in after n c ≡ option_or (slot_in slots n c) (own_value (table_rule tables n).columns n c f)) (sym a) (subst (λ n. slot_in after f.table n ≡ option_or (slot_in slots f.table n) (own_value (table_rule tables f.table).columns f.table n f)) (sym b) here)
    by table c (inl a) (inr b) = elsewhere table c (λ _ same. b same)
    by table c (inr a) side = elsewhere table c (λ same _. a same)

-- the place of a fixing whose value is one for its column
pub record IsWithin (slots : List (List (Option Value))) (f : Fixing) : Type 0 where
  pub in_slots : f.table < length slots
  pub in_row : f.column < length (get_or slots f.table [])

pub within : (tables : List TableRule) (slots : List (List (Option Value))) (f : Fixing) → HasSlots tables slots → fixes (table_rule tables f.table).columns f.table f.column f ≡ true → IsWithin slots f
within tables slots f h e =
    let in_columns = (own (table_rule tables f.table).columns f.table f.column f e).within in
    let in_tables = table_within tables f.table f.column in_columns in
    record { in_slots = omega (arith, h.rows, in_tables); in_row = omega (arith, h.columns f.table in_tables, in_columns) }

-- ---- empty slots

abbrev no_value : TableColumnOf → Option Value
no_value column = None

empty_row : (columns : List TableColumnOf) (c : ℕ) → get_or (map no_value columns) c None ≡ None
empty_row [] c = refl
empty_row (column ∷ columns) zero = refl
empty_row (column ∷ columns) (suc c) = empty_row columns c

empty_value : (tables : List TableRule) (table c : ℕ) → slot_in (empty_slots tables) table c ≡ None
empty_value [] table c = refl
empty_value (t ∷ tables) zero c = empty_row t.columns c
empty_value (t ∷ tables) (suc table) c = empty_value tables table c

empty_long : (tables : List TableRule) (table : ℕ) → length (get_or (empty_slots tables) table []) ≡ length (table_rule tables table).columns
empty_long [] table = refl
empty_long (t ∷ tables) zero = length-map t.columns no_value
empty_long (t ∷ tables) (suc table) = empty_long tables table

pub none_filled : (tables : List TableRule) → AreFilled tables [] (empty_slots tables)
none_filled tables = record {
  shape = record { rows = length-map tables (λ (t : TableRule). map no_value t.columns); columns = λ table _. empty_long tables table };
  values = λ table c _ _. empty_value tables table c;
}

-- ---- a slice that is written back to its vector

pub refilled : {X : Type 0} → (n : ℕ) (old new : List X) → n ≡ length old → length new ≡ length old → take n (new ++ drop (length new) old) ≡ new
refilled n old new a b = take-append-le n new (drop (length new) old) (omega (arith, a, b)) ∙ take_all n new (omega (arith, a, b))

-- a row that is written, in the vectors that hold the rows
pub rows_written : {A : Type 0} → (v : A → List (Option Value)) (slots : List A) (table c : ℕ) (d old new : A) (w : Option Value) → table < length slots → old ≡ get_or slots table d → v new ≡ set (v old) c (option_or (get_or (v old) c None) w) → map v (set slots table new) ≡ set (map v slots) table (set (get_or (map v slots) table []) c (option_or (slot_in (map v slots) table c) w))
rows_written v slots table c d old new w in_slots is e =
    map-set v slots table new ∙ ap (λ (r : List (Option Value)). set (map v slots) table r) (e ∙ ap (λ (r : List (Option Value)). set r c (option_or (get_or r c None) w)) (ap v is ∙ sym (get_or-map v slots table d [] in_slots)))
