-- A witness that names the scanned tables of an instance with few rows is over that instance, and a candidate is one.
use Rattle.std.proofs.Common.{◌≡◌, ℕ, zero, suc, ◌+◌, ◌<◌, ◌≤◌, Bool, true, false, All, Any, List, [], ◌∷◌, map, length, get_or, find, Option, Some, None, refl, sym, ◌∙◌, ap, subst, arith, ltb}
use Rattle.std.proofs.lemmas.Bool.{false≢true, ltb-true, ltb-false}
use Rattle.std.proofs.lemmas.List.{length-map}
use Rattle.std.proofs.lemmas.List.FromFn.{get_or-map-range_with_len, length-range_with_len}
use Rattle.std.proofs.lemmas.List.Elements.{All-weaker}
use Rattle.std.proofs.lemmas.Slice.Eq.{bytes_eq-Decides}
use Rattle.std.specs.List.{range_with_len}
use Rattle.std.specs.Str.{bytes_eq}
use Rattle.wd_value.specs.Bags.{positions}
use Rattle.wd_value.specs.Rows.{Instance, Row, table_at}
use Rattle.wd_schema.specs.Meets.{Meets, fits_columns}
use Rattle.wd_schema.specs.Schemas.{table_named}
use Rattle.wd_schema.specs.Tables.{TableRule}
use Rattle.wd_plan.specs.Plans.{PlanTree, is_scanned}
use Rattle.wd_facts.specs.Given.{table_rule}
use Rattle.wd_witness_text.specs.Witnesses.{Fits64, IsTableOf, TableRows, rows_in, rows_named}
use Rattle.wd_candidates.specs.Candidates.{candidate, candidate_row, candidate_rows}
use Rattle.wd_candidates.specs.Fixed.{fixed_value}
use Rattle.wd_candidates.specs.Outlines.{IsOutline, scanned_in}
use Rattle.wd_candidates.specs.Tied.{NodeColumns, is_tied}
use Rattle.wd_candidates.specs.declared.outline.Outline.{Outline}
use Rattle.wd_candidates.specs.declared.shape.Shape.{Shape}
use Rattle.wd_seek.specs.Witnesses.{HasFewRows, HasScannedRows, IsNameOf, IsScannedTable, NamesDiffer}
use Rattle.wd_seek.proofs.Building.{found_in, other_name, rule_at}
use Rattle.wd_seek.proofs.Meeting.{row_fits, row_length, table_met}

-- ---- lists

map_over : {X : Type 0} (f : ℕ → X) (g : TableRule → X) (tables : List TableRule) (a : ℕ) → ((k : ℕ) → k < length tables → g (table_rule tables k) ≡ f (a + k)) → map g tables ≡ map f (range_with_len a (length tables))
map_over f g [] a h = refl
map_over f g (t ∷ tables) a h =
    let head : g t ≡ f a = h 0 (omega arith) ∙ ap f (omega arith) in
    let tail = map_over f g tables (a + 1) (λ k l. h (suc k) (omega arith) ∙ ap f (omega arith)) in
    λ i. head i ∷ tail i

some_same : (a b : TableRows) → Some a ≡ Some b → a ≡ b
some_same a b h = cc

-- what is found stands in the list and passes
any_found : (p : TableRows → Bool) (ts : List TableRows) (t : TableRows) → find p ts ≡ Some t → Any (λ u. u ≡ t) ts
any_found p [] t e = absurd cc
any_found p (u ∷ ts) t e = by (p u) refl (any_found p ts t)
  where
    by : (b : Bool) → p u ≡ b → (find p ts ≡ Some t → Any (λ u. u ≡ t) ts) → Any (λ u. u ≡ t) (u ∷ ts)
    by true h later = let same : u ≡ t = some_same u t (rw h at e) in (0, u, omega arith, refl, same)
    by false h later = let r = later (rw h at e) in (suc r.0, r.1, (let w = r.2 in omega arith), r.3, r.4)

passes : (p : TableRows → Bool) (ts : List TableRows) (t : TableRows) → find p ts ≡ Some t → p t ≡ true
passes p [] t e = absurd cc
passes p (u ∷ ts) t e = by (p u) refl (passes p ts t)
  where
    by : (b : Bool) → p u ≡ b → (find p ts ≡ Some t → p t ≡ true) → p t ≡ true
    by true h later = subst (λ x. p x ≡ true) (some_same u t (rw h at e)) h
    by false h later = later (rw h at e)

-- ---- tables by their names

first_named : (tables : List TableRule) (j : ℕ) → NamesDiffer tables → j < length tables → table_named (table_rule tables j).name tables ≡ Some (table_rule tables j)
first_named [] j differ h = absurd (omega (arith, h))
first_named (t ∷ tables) zero differ h = rw ((bytes_eq-Decides t.name t.name).1 refl) refl
first_named (t ∷ tables) (suc j) differ h =
    let d = table_rule tables j in
    let below : j < length tables = omega (arith, h) in
    let apart = λ (e : t.name ≡ d.name). differ 0 (suc j) d (omega arith) h (e ∙ sym (ap (λ (r : TableRule). r.name) (rule_at tables j d below))) in
    rw (other_name t.name d.name apart) (first_named tables j (λ i k d l w. differ (suc i) (suc k) d (omega (arith, l)) (omega (arith, w))) below)

same_place : (tables : List TableRule) → NamesDiffer tables → (i j : ℕ) → i < length tables → j < length tables → (table_rule tables i).name ≡ (table_rule tables j).name → i ≡ j
same_place tables differ i j v w e = by (ltb i j) refl (ltb j i) refl
  where
    d : TableRule
    d = table_rule tables i

    named : (k : ℕ) → k < length tables → (get_or tables k d).name ≡ (table_rule tables k).name
    named k l = ap (λ (r : TableRule). r.name) (rule_at tables k d l)

    by : (b : Bool) → ltb i j ≡ b → (c : Bool) → ltb j i ≡ c → i ≡ j
    by true h c g = absurd (differ i j d (ltb-true i j h) w (named i v ∙ e ∙ sym (named j w)))
    by false h true g = absurd (differ j i d (ltb-true j i g) v (named j w ∙ sym e ∙ sym (named i v)))
    by false h false g = let a = ltb-false i j h in let b = ltb-false j i g in omega arith

-- ---- a candidate's tables

module _ (tables : List TableRule) (plan : PlanTree) (o : NodeColumns) (shape : Shape) where
  abbrev rows_of_table : ℕ → List Row
  rows_of_table t = candidate_rows (is_scanned plan t) (table_rule tables t) (fixed_value (table_rule tables t).columns plan t) (is_tied o t) shape

  rows_are : (t : ℕ) → t < length tables → table_at (candidate tables plan o shape) t ≡ rows_of_table t
  rows_are t within = get_or-map-range_with_len rows_of_table 0 (length tables) t t [] within (omega arith)

  few_of : (b : Bool) (t : ℕ) → shape.rows ≤ 64 → length (candidate_rows b (table_rule tables t) (fixed_value (table_rule tables t).columns plan t) (is_tied o t) shape) ≤ 64
  few_of true t small = let n = length-map (positions shape.rows) (candidate_row (table_rule tables t) (fixed_value (table_rule tables t).columns plan t) (is_tied o t) shape.style) in let m = length-range_with_len 0 shape.rows in omega (arith, n, m, small)
  few_of false t small = omega arith

  none_of : (t : ℕ) → is_scanned plan t ≡ false → rows_of_table t ≡ []
  none_of t e = rw e refl

  pub few_rows : shape.rows ≤ 64 → HasFewRows tables plan (candidate tables plan o shape)
  few_rows small = record {
    few = λ t within. subst (λ rows. length rows ≤ 64) (sym (rows_are t within)) (few_of (is_scanned plan t) t small);
    none = λ t within e. rows_are t within ∙ none_of t e;
  }

-- ---- an instance with few rows

each_table : (f : ℕ → List Row) (instance : Instance) (a : ℕ) → ((k : ℕ) → k < length instance → f (a + k) ≡ table_at instance k) → map f (range_with_len a (length instance)) ≡ instance
each_table f [] a h = refl
each_table f (rows ∷ instance) a h =
    let head : f a ≡ rows = ap f (omega arith) ∙ h 0 (omega arith) in
    let tail = each_table f instance (a + 1) (λ k l. ap f (omega arith) ∙ h (suc k) (omega arith)) in
    λ i. head i ∷ tail i

all_tables_of : (instance : Instance) (n : ℕ) → length instance ≡ n → map (table_at instance) (range_with_len 0 n) ≡ instance
all_tables_of instance n e = ap (λ m. map (table_at instance) (range_with_len 0 m)) (sym e) ∙ each_table (table_at instance) instance 0 (λ k l. ap (table_at instance) (omega arith))

module _ (tables : List TableRule) (plan : PlanTree) (outline : Outline) (instance : Instance) (named : List TableRows)
    (differ : NamesDiffer tables) (is_outline : IsOutline tables plan outline) (small : HasFewRows tables plan instance)
    (meets : Meets tables instance) (h : HasScannedRows tables outline instance named) where
  abbrev IsHere : TableRows → Type 0
  IsHere = IsScannedTable tables outline instance

  table_is : (t : TableRows) → IsHere t → IsTableOf tables t
  table_is t s = record {
    table = table_rule tables s.table;
    known = subst (λ n. table_named n tables ≡ Some (table_rule tables s.table)) s.name.is (first_named tables s.table differ s.name.within);
    few = subst (λ rows. length rows ≤ 64) (sym s.rows) (small.few s.table s.name.within);
    values = subst (All (λ row. length row ≡ length (table_rule tables s.table).columns)) (sym s.rows)
        (All-weaker (λ row. fits_columns (table_rule tables s.table).columns row ≡ true) (λ row. length row ≡ length (table_rule tables s.table).columns) (row_length (table_rule tables s.table).columns)
        (table_at instance s.table) (table_met tables instance meets s.table s.name.within).values);
  }

  values_fit : (t : TableRows) → IsHere t → All (All Fits64) t.rows
  values_fit t s = subst (All (All Fits64)) (sym s.rows)
      (All-weaker (λ row. fits_columns (table_rule tables s.table).columns row ≡ true) (All Fits64) (row_fits (table_rule tables s.table).columns)
      (table_at instance s.table) (table_met tables instance meets s.table s.name.within).values)

  pub all_tables : All (IsTableOf tables) named
  all_tables = All-weaker IsHere (IsTableOf tables) table_is named h.each

  pub all_fit : All (λ (t : TableRows). All (All Fits64) t.rows) named
  all_fit = All-weaker IsHere (λ t. All (All Fits64) t.rows) values_fit named h.each

  here : (t : TableRows) → Any (λ u. u ≡ t) named → IsHere t
  here t r = subst IsHere (r.3 ∙ r.4) (h.each r.0 r.1 r.2)

  pub is_name : (name : List ℕ) → Any (λ (t : TableRows). t.name ≡ name) named → IsNameOf tables plan name
  is_name name r =
      let s = subst IsHere r.3 (h.each r.0 r.1 r.2) in
      record { table = s.table; within = s.name.within; scanned = sym (is_outline.scanned s.table s.name.within) ∙ s.name.scanned; is = s.name.is ∙ r.4 }

  pub has_name : (name : List ℕ) → IsNameOf tables plan name → Any (λ (t : TableRows). t.name ≡ name) named
  has_name name n =
      let r = any_found (λ t. bytes_eq (table_rule tables n.table).name t.name) named _ (h.found n.table n.within (is_outline.scanned n.table n.within ∙ n.scanned)) in
      (r.0, r.1, r.2, r.3, ap (λ (t : TableRows). t.name) r.4 ∙ n.is)

  not_found : (t : ℕ) → t < length tables → is_scanned plan t ≡ false → (found : Option TableRows) → found_in (table_rule tables t).name named ≡ found → rows_in found ≡ []
  not_found t within other None e = refl
  not_found t within other (Some u) e =
      let s = here u (any_found (λ v. bytes_eq (table_rule tables t).name v.name) named u e) in
      let same = (bytes_eq-Decides (table_rule tables t).name u.name).0 (passes (λ v. bytes_eq (table_rule tables t).name v.name) named u e) in
      let place = same_place tables differ s.table t s.name.within within (s.name.is ∙ sym same) in
      absurd (false≢true (sym other ∙ sym (is_outline.scanned t within) ∙ subst (λ n. scanned_in outline n ≡ true) place s.name.scanned))

  rows_named_are : (t : ℕ) → t < length tables → (b : Bool) → is_scanned plan t ≡ b → rows_named (table_rule tables t).name named ≡ table_at instance t
  rows_named_are t within true e = ap rows_in (h.found t within (is_outline.scanned t within ∙ e))
  rows_named_are t within false e = not_found t within e (found_in (table_rule tables t).name named) refl ∙ sym (small.none t within e)

  pub is_over : map (λ (table : TableRule). rows_named table.name named) tables ≡ instance
  is_over = map_over (table_at instance) (λ table. rows_named table.name named) tables 0 (λ k l. rows_named_are k l (is_scanned plan k) refl ∙ ap (table_at instance) (omega arith)) ∙ all_tables_of instance (length tables) meets.lists
