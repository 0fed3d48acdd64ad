-- The two-row table meets the schema, and its rows tie by the window's columns alone.
use Rattle.std.proofs.Common.{◌≡◌, ◌⊎◌, inl, inr, ℕ, zero, suc, ◌+◌, ◌<◌, ◌≤◌, Bool, true, false, cond, ◌&&◌, All, List, [], ◌∷◌, get_or, length, map, nat_eq, nat_lt, refl, sym, ◌∙◌, ap, subst, arith, true≢false, Option, None, Some, option_map, slice_get, is_some}
use Rattle.std.specs.List.{Contains, list_all}
use Rattle.std.proofs.lemmas.Bool.{and_parts, eq-eqb, eqb-true, lt-ltb, ltb-true, ltb-false}
use Rattle.std.proofs.lemmas.List.{length-map}
use Rattle.std.proofs.lemmas.List.Elements.{All-cons, All-nil}
use Rattle.std.proofs.lemmas.List.FromFn.{get_or-map-range_with_len, length-range_with_len}
use Rattle.std.proofs.lemmas.Option.{slice_get_within}
use Rattle.wd_value.specs.Bags.{positions}
use Rattle.wd_value.specs.declared.value.Value.TheVariants.{Null}
use Rattle.wd_value.specs.declared.value.ColumnType.TheVariants as type
use Rattle.wd_value.specs.Rows.{Row, column_of, columns_of, table_at}
use Rattle.wd_value.specs.Values.{same}
use Rattle.wd_schema.specs.Meets.{KeepsKey, Meets, MeetsTable, fits_columns, violates}
use Rattle.wd_schema.specs.Tables.{KeyRule, TableRule}
use Rattle.wd_schema.specs.WellFormed.{IsKeyOf, IsWellFormedTable}
use Rattle.wd_schema.specs.declared.table.Column.{Column as TableColumn}
use Rattle.wd_plan.specs.Expressions.{Column}
use Rattle.wd_plan.specs.Fits.{are_outputs, fits, has_table, is_narrow, is_typed, is_window, kind_of_type, kinds_of, table_kind, width}
use Rattle.wd_plan.specs.Plans.{PlanTree, Over, Window, is_scanned}
use Rattle.wd_close.specs.Closure.{Follows}
use Rattle.wd_seek.proofs.Building.{rule_at}
use Rattle.wd_seek.proofs.Meeting.{rule_of}
use Rattle.wd_plan.specs.Sorting.{class_columns}
use Rattle.wd_step_facts.specs.declared.facts.Member.TheVariants as member
use Rattle.wd_facts.specs.Given.{table_rule}
use Rattle.wd_candidates.specs.Candidates.{candidate_rows}
use Rattle.wd_candidates.specs.declared.shape.Style.TheVariants.{TiedNull}
use Rattle.wd_candidates.specs.Fixed.{fixed_value}
use Rattle.wd_candidates.specs.Tied.{is_tied}
use Rattle.wd_complete.specs.Laws.{IsPlainOver, two_rows}
use Rattle.wd_complete.specs.Plain.{PlainPlan, input_of, plan_by, window_rule}
use Rattle.wd_complete.proofs.Lists.{Among, among_from, among_get}
use Rattle.wd_complete.proofs.Gives.{has_own, has_row}
use Rattle.wd_complete.proofs.Reached.{IsOrderedKey, one_place, row_reached, rule, scan, window_facts}
use Rattle.wd_complete.proofs.Opened.{IsLacking}
use Rattle.wd_complete.proofs.Evaluated.{Tie}
use Rattle.wd_complete.proofs.Candidate.{first_fits, key_kept, ordered, ordered_tied, passes_at, row_of, second_fits, tied, tied_ordered, tied_same, untied_differ}

no_column : TableColumn
no_column = record { name = []; kind = type.Text; not_null = false }

-- ---- what fits

-- tables that have so many columns at a number
record HasTable (tables : List TableRule) (table columns : ℕ) : Type 0 where
  within : table < length tables
  are : columns ≡ length (table_rule tables table).columns
  found : slice_get tables table ≡ Some (table_rule tables table)

has_table_is : (tables : List TableRule) (table columns : ℕ) → has_table tables table columns ≡ true → HasTable tables table columns
has_table_is tables table columns e = by (slice_get tables table) refl
  where
    by : (o : Option TableRule) → slice_get tables table ≡ o → HasTable tables table columns
    by None f = absurd (let h = rw f at e in true≢false (sym h))
    by (Some t) f =
        let is : table_rule tables table ≡ t = rw f refl in
        let h = rw f at e in
        record { within = slice_get_within tables table t f; are = eqb-true columns (length t.columns) h ∙ ap (λ (x : TableRule). length x.columns) (sym is); found = f ∙ ap Some (sym is) }

some_within : {X Y : Type 0} (f : X → Y) (xs : List X) (k : ℕ) → is_some (option_map f (slice_get xs k)) ≡ true → k < length xs
some_within {X = X} f xs k e = by (slice_get xs k) refl e
  where
    by : (o : Option X) → slice_get xs k ≡ o → is_some (option_map f o) ≡ true → k < length xs
    by None g h = absurd (true≢false (sym h))
    by (Some x) g h = slice_get_within xs k x g

module _ (tables : List TableRule) (p : PlainPlan) (over : IsPlainOver tables p) where
  abbrev t : TableRule
  t = rule tables p

  abbrev windowed : PlanTree
  windowed = Over (Window (window_rule p)) (input_of p)

  window_fits : fits tables windowed ≡ true
  window_fits = (and_parts (fits tables windowed) (are_outputs (kinds_of tables windowed) (map Column p.shown)) over.fitting).0

  map_fits : fits tables (input_of p) ≡ true
  map_fits = (and_parts (fits tables (input_of p)) (is_window (kinds_of tables (input_of p)) (width (input_of p)) (window_rule p)) window_fits).0

  parts : (fits tables (scan tables p) ≡ true) × (are_outputs (kinds_of tables (scan tables p)) (map Column p.read) ≡ true)
  parts = and_parts (fits tables (scan tables p)) (are_outputs (kinds_of tables (scan tables p)) (map Column p.read)) map_fits

  has : HasTable tables p.table p.columns
  has = has_table_is tables p.table p.columns (and_parts (is_narrow p.columns) (has_table tables p.table p.columns) parts.0).1

  typed_low : (read : List ℕ) → list_all (is_typed (table_kind tables p.table)) (map Column read) ≡ true → (k : ℕ) → k < length read → get_or read k 0 < length t.columns
  typed_low [] e k h = absurd (omega (arith, h))
  typed_low (c ∷ read) e zero h =
      let q = (and_parts (is_some (table_kind tables p.table c)) (list_all (is_typed (table_kind tables p.table)) (map Column read)) e).0 in
      some_within (λ (column : TableColumn). kind_of_type column.kind) t.columns c (rw has.found at q)
  typed_low (c ∷ read) e (suc k) h = typed_low read (and_parts (is_some (table_kind tables p.table c)) (list_all (is_typed (table_kind tables p.table)) (map Column read)) e).1 k (omega (arith, h))

  -- the columns that are read are columns of the table
  read_low : (k : ℕ) → k < length p.read → get_or p.read k 0 < length t.columns
  read_low = typed_low p.read (and_parts (is_narrow (length (map Column p.read))) (list_all (is_typed (table_kind tables p.table)) (map Column p.read)) parts.1).1

  well : IsWellFormedTable t
  well = subst IsWellFormedTable (rule_at tables p.table t has.within) (over.tables_are.each p.table t has.within)

  -- ---- keys

  module _ (lacking : IsLacking tables p) where
    -- no key gives the row and ties
    not_reached : (key : KeyRule) → IsOrderedKey tables p key → ⊥
    not_reached key k =
        let follows = row_reached tables p has.are well.few_keys key k over.plain.once lacking.at_scan lacking.at_map 1 lacking.scan_is lacking.map_is in
        let row = has_row (window_facts tables p lacking.at_map) lacking.closing lacking.is (subst (λ X. Follows (window_facts tables p lacking.at_map) X member.Row) (sym lacking.from) follows) in
        true≢false (sym row ∙ lacking.row)

    names_all : (columns : List ℕ) → ((c : ℕ) → Among c columns → c < length t.columns) → list_all (λ c. nat_lt c (length t.columns)) columns ≡ true
    names_all [] h = refl
    names_all (c ∷ columns) h = λ i. lt-ltb c (length t.columns) (h c (inl refl)) i && names_all columns (λ d at. h d (inr at)) i

    all_among : (n : ℕ) (columns : List ℕ) → All (λ number. number < n) columns → (c : ℕ) → Among c columns → c < n
    all_among n [] all c at = absurd at
    all_among n (x ∷ columns) all c (inl e) = subst (λ y. y < n) e (all 0 0 (omega arith))
    all_among n (x ∷ columns) all c (inr at) = all_among n columns (λ k d h. all (suc k) d (omega (arith, h))) c at

    kept : (key : KeyRule) → Among key t.keys → IsKeyOf t.columns key → violates key (row_of t (tied tables p) 0) (row_of t (tied tables p) 1) ≡ false
    kept key at is =
        let named = names_all key.columns (all_among (length t.columns) key.columns is.within) in
        key_kept t (tied tables p) no_column key named
        (λ gives all. not_reached key (record { at = at; named = named; gives = gives; ordered = λ c a. tied_ordered tables p c (passes_at (tied tables p) key.columns c all a) }))

    -- ---- the rows meet the table

    abbrev pub first : Row
    first = row_of t (tied tables p) 0

    abbrev pub second : Row
    second = row_of t (tied tables p) 1

    pair_kept : (key : KeyRule) → violates key first second ≡ false → KeepsKey (first ∷ second ∷ []) key
    pair_kept key e zero zero d lt within = absurd (omega (arith, lt))
    pair_kept key e zero (suc zero) d lt within = e
    pair_kept key e zero (suc (suc j)) d lt within = absurd (omega (arith, within))
    pair_kept key e (suc i) zero d lt within = absurd (omega (arith, lt))
    pair_kept key e (suc i) (suc zero) d lt within = absurd (omega (arith, lt))
    pair_kept key e (suc i) (suc (suc j)) d lt within = absurd (omega (arith, within))

    two_meet : MeetsTable t (first ∷ second ∷ [])
    two_meet = record {
      values = All-cons (λ row. fits_columns t.columns row ≡ true) first (second ∷ []) (first_fits t (tied tables p)) (All-cons (λ row. fits_columns t.columns row ≡ true) second [] (second_fits t (tied tables p)) (All-nil (λ row. fits_columns t.columns row ≡ true)));
      keys = λ i d within. pair_kept (get_or t.keys i d) (kept (get_or t.keys i d) (among_get i t.keys d within) (well.keys i d within));
    }

    none_meet : (table : TableRule) → MeetsTable table []
    none_meet table = record { values = All-nil (λ row. fits_columns table.columns row ≡ true); keys = λ i d within j k e lt low. absurd (omega (arith, low)) }

    -- ---- the instance

    abbrev rows_at : ℕ → List Row
    rows_at n = candidate_rows (is_scanned (plan_by p) n) (table_rule tables n) (fixed_value (table_rule tables n).columns (plan_by p) n) (is_tied (ordered tables p) n) (record { rows = 2; style = TiedNull })

    at_table : (n : ℕ) → n < length tables → table_at (two_rows tables p) n ≡ rows_at n
    at_table n within = get_or-map-range_with_len rows_at 0 (length tables) n n [] within (omega arith)

    scanned_is : (n : ℕ) → n ≡ p.table → rows_at n ≡ first ∷ second ∷ []
    scanned_is n e = subst (λ m. rows_at m ≡ first ∷ second ∷ []) (sym e) own
      where
        self : nat_eq p.table p.table ≡ true
        self = eq-eqb p.table p.table refl

        own : rows_at p.table ≡ first ∷ second ∷ []
        own = λ i. cond (self i) (first ∷ second ∷ []) []

    other_is : (n : ℕ) → nat_eq p.table n ≡ false → rows_at n ≡ []
    other_is n e = rw e refl

    pub rows_are : table_at (two_rows tables p) p.table ≡ first ∷ second ∷ []
    rows_are = at_table p.table has.within ∙ scanned_is p.table refl

    pub meets : Meets tables (two_rows tables p)
    meets = record {
      lists = length-map (positions (length tables)) rows_at ∙ length-range_with_len 0 (length tables);
      tables = each;
    }
      where
        at_number : (n : ℕ) → n < length tables → (b : Bool) → nat_eq p.table n ≡ b → MeetsTable (table_rule tables n) (table_at (two_rows tables p) n)
        at_number n within true e =
            let same = eqb-true p.table n e in
            subst (λ m. MeetsTable (table_rule tables m) (table_at (two_rows tables p) m)) same (subst (MeetsTable t) (sym rows_are) two_meet)
        at_number n within false e = subst (MeetsTable (table_rule tables n)) (sym (at_table n within ∙ other_is n e)) (none_meet (table_rule tables n))

        each : (n : ℕ) (table : TableRule) → slice_get tables n ≡ Some table → MeetsTable table (table_at (two_rows tables p) n)
        each n table found = subst (λ r. MeetsTable r (table_at (two_rows tables p) n)) (rule_of tables n table found) (at_number n (slice_get_within tables n table found) (nat_eq p.table n) refl)

    -- ---- which columns agree

    columns_at : (read : List ℕ) (row : Row) (x : ℕ) → x < length read → column_of (columns_of read row) x ≡ column_of row (get_or read x 0)
    columns_at [] row x h = absurd (omega (arith, h))
    columns_at (c ∷ read) row zero h = refl
    columns_at (c ∷ read) row (suc x) h = columns_at read row x (omega (arith, h))

    columns_past : (read : List ℕ) (row : Row) (x : ℕ) → length read ≤ x → column_of (columns_of read row) x ≡ Null
    columns_past [] row x h = refl
    columns_past (c ∷ read) row zero h = absurd (omega (arith, h))
    columns_past (c ∷ read) row (suc x) h = columns_past read row x (omega (arith, h))

    -- the rows below the Window agree on the window's columns
    pub tie : Tie (class_columns p.class) (columns_of p.read first) (columns_of p.read second)
    tie x at = by (nat_lt x (length p.read)) refl
      where
        by : (b : Bool) → nat_lt x (length p.read) ≡ b → column_of (columns_of p.read first) x ≡ column_of (columns_of p.read second) x
        by true e =
            let within = ltb-true x (length p.read) e in
            let low = read_low x within in
            let is_tied = ordered_tied tables p x within (subst (λ n. get_or p.read x 0 < n) (sym has.are) low) at in
            columns_at p.read first x within ∙ tied_same t (tied tables p) (get_or p.read x 0) no_column low is_tied ∙ sym (columns_at p.read second x within)
        by false e = let past = ltb-false x (length p.read) e in columns_past p.read first x past ∙ sym (columns_past p.read second x past)

    -- and differ in the column that is lacking, which is shown
    abbrev missing : ℕ
    missing = lacking.column

    pub missing_within : missing < length p.read
    missing_within = subst (λ n. missing < n) (length-map p.read Column) lacking.within

    not_ordered : Among missing (class_columns p.class) → ⊥
    not_ordered at =
        let low : missing < length (map Column p.read) + 1 = (let w = lacking.within in omega (arith, w)) in
        let h = has_own (window_facts tables p lacking.at_map) lacking.closing lacking.is missing low (subst (Among missing) (sym lacking.from) at) in
        true≢false (sym h ∙ lacking.missing)

    pub missing_shown : Among missing p.shown
    missing_shown = by (over.plain.asked missing missing_within)
      where
        by : Contains (class_columns p.class) missing ⊎ Contains p.shown missing → Among missing p.shown
        by (inl at) = absurd (not_ordered (among_from missing (class_columns p.class) at))
        by (inr at) = among_from missing p.shown at

    untied : tied tables p (get_or p.read missing 0) ≡ false
    untied = by (tied tables p (get_or p.read missing 0)) refl
      where
        by : (b : Bool) → tied tables p (get_or p.read missing 0) ≡ b → tied tables p (get_or p.read missing 0) ≡ false
        by false e = e
        by true e =
            let o = tied_ordered tables p (get_or p.read missing 0) e in
            absurd (not_ordered (subst (λ n. Among n (class_columns p.class)) (one_place p.read over.plain.once o.number missing o.copy.within missing_within o.copy.is) o.at))

    pub differ : same (column_of (columns_of p.read first) missing) (column_of (columns_of p.read second) missing) ≡ false
    differ = (λ i. same (columns_at p.read first missing missing_within i) (columns_at p.read second missing missing_within i)) ∙ untied_differ t (tied tables p) (get_or p.read missing 0) no_column (read_low missing missing_within) untied
