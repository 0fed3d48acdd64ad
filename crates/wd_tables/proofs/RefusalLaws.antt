-- A text has at most one refusal, and none where it holds rows that meet the table.
use Rattle.std.proofs.Common.{◌≡◌, ◌≢◌, ◌⊎◌, ◌∙◌, ℕ, zero, suc, ◌+◌, ◌<◌, ◌≤◌, Bool, true, false, List, [], ◌∷◌, get_or, length, map, Some, None, refl, sym, ap, arith, inl, inr, bytes_eq}
use Rattle.std.specs.Prelude.{All, AllPairs, count_by}
use Rattle.std.specs.List.{position_or_len}
use Rattle.std.proofs.lemmas.Bool.{cases_lt, true≢false}
use Rattle.std.proofs.lemmas.List.{get_or-drop, get_or-map, get_or_default, length-drop, length-map}
use Rattle.std.proofs.lemmas.List.Sums.{passes_at_first}
use Rattle.std.proofs.lemmas.Slice.Eq.{bytes_eq-Decides}
use Rattle.wd_value.specs.Rows.{Row, row_at}
use Rattle.wd_value.specs.declared.value.Value.{Value}
use Rattle.wd_value.specs.declared.value.Value.TheVariants.{Null}
use Rattle.wd_schema.specs.declared.table.Column.{Column}
use Rattle.wd_schema.specs.Meets.{MeetsTable, fits_columns}
use Rattle.wd_schema.specs.Tables.{TableRule}
use Rattle.wd_schema.specs.WellFormed.{IsWellFormedTable}
use Rattle.wd_tables.specs.Causes.{AreAccepted, HasCause, IsAccepted, IsFirstRefused, IsFirstRepeat, IsWellFormed, RefusesAt, Repeats}
use Rattle.wd_tables.specs.Data.{HoldsRows, NamesEachOnce, data_of, header_of, most_records, field_place, record_at, records_of, value_in, values_in}
use Rattle.wd_tables.specs.Laws.{HasOneRefusal, HasRowsOrRefusal}
use Rattle.wd_tables.specs.Refusals.{HasNull, IsFirstIn, IsRefusedIn, LacksValue}
use Rattle.wd_tables.specs.declared.error.DataError.{DataError}
use Rattle.wd_tables.specs.declared.error.DataError.TheVariants.{Header, Value as NoValue, Null as NullValue, Key, Malformed, TooManyRecords, OutOfMemory}
use Rattle.wd_tables.proofs.LoadFacts.{fits_record}

-- ---- the columns of refused fields

some_passes : (p : List ℕ → Bool) (xs : List (List ℕ)) → 0 < count_by p xs → position_or_len p xs < length xs
some_passes p [] h = absurd (omega arith)
some_passes p (x ∷ xs) h = by (p x) refl (some_passes p xs)
  where
    by : (b : Bool) → p x ≡ b → (0 < count_by p xs → position_or_len p xs < length xs) → position_or_len p (x ∷ xs) < length (x ∷ xs)
    by true e later = rw e (omega arith)
    by false e later =
        let counted : count_by p (x ∷ xs) ≡ count_by p xs = rw e refl in
        let rest = later (omega arith) in
        rw e (omega arith)

-- columns that stand at one place have one name
one_name : (columns : List Column) (header : List (List ℕ)) (i j : ℕ) (c d : Column) → NamesEachOnce columns header → i < length columns → get_or columns i c ≡ c → j < length columns → get_or columns j d ≡ d
    → field_place header c.name ≡ field_place header d.name → c.name ≡ d.name
one_name columns header i j c d names in_i is_c in_j is_d same =
    let once_c = rw is_c at (names.each i c in_i) in
    let once_d = rw is_d at (names.each j d in_j) in
    let at_c = (bytes_eq-Decides c.name (get_or header (field_place header c.name) [])).0 (passes_at_first (bytes_eq c.name) header [] (some_passes (bytes_eq c.name) header (omega arith))) in
    let at_d = (bytes_eq-Decides d.name (get_or header (field_place header d.name) [])).0 (passes_at_first (bytes_eq d.name) header [] (some_passes (bytes_eq d.name) header (omega arith))) in
    at_c ∙ ap (λ k. get_or header k []) same ∙ sym at_d

-- columns of one name are one
one_column : (columns : List Column) (i j : ℕ) (c d : Column) → AllPairs (λ a b. a.name ≢ b.name) columns → i < length columns → get_or columns i c ≡ c → j < length columns → get_or columns j d ≡ d → c.name ≡ d.name → c ≡ d
one_column columns i j c d differ in_i is_c in_j is_d same =
    let c_there : get_or columns i d ≡ c = get_or_default columns i d c in_i ∙ is_c in
    elim (cases_lt i j) [
      | inl before ↦ absurd (differ i j d before in_j (ap (λ k. k.name) c_there ∙ same ∙ sym (ap (λ k. k.name) is_d)))
      | inr after ↦
          elim (cases_lt j i) [
            | inl below ↦ absurd (differ j i d below in_i (ap (λ k. k.name) is_d ∙ sym same ∙ sym (ap (λ k. k.name) c_there)))
            | inr above ↦ let at : i ≡ j = omega arith in sym c_there ∙ ap (λ k. get_or columns k d) at ∙ is_d
          ]
    ]

module _ (table : TableRule) (text : List ℕ) (n : ℕ) where
  -- the column is refused in the record so, and no other before it
  record IsFirstWrong (e : DataError) : Type 0 where
    index : ℕ
    column : Column
    inside : index < length table.columns
    is : get_or table.columns index column ≡ column
    first : IsFirstIn table.columns (header_of text) (record_at text n) column
    why : ((e ≡ NoValue n) × LacksValue (header_of text) (record_at text n) column) ⊎ ((e ≡ NullValue n) × HasNull (header_of text) (record_at text n) column)

  refused_of : (e : DataError) (w : IsFirstWrong e) → IsRefusedIn (header_of text) (record_at text n) w.column
  refused_of e w = elim w.why [ inl lacks ↦ inl lacks.1 | inr null ↦ inr null.1 ]

  one_wrong : (a b : DataError) (v : IsFirstWrong a) (w : IsFirstWrong b) → v.column ≡ w.column → a ≡ b
  one_wrong a b v w same = by v.why w.why
    where
      by : ((a ≡ NoValue n) × LacksValue (header_of text) (record_at text n) v.column) ⊎ ((a ≡ NullValue n) × HasNull (header_of text) (record_at text n) v.column)
          → ((b ≡ NoValue n) × LacksValue (header_of text) (record_at text n) w.column) ⊎ ((b ≡ NullValue n) × HasNull (header_of text) (record_at text n) w.column) → a ≡ b
      by (inl x) (inl y) = x.0 ∙ sym y.0
      by (inr x) (inr y) = x.0 ∙ sym y.0
      by (inl x) (inr y) = let null : value_in (header_of text) (record_at text n) v.column ≡ Some Null = rw same y.1.1 in absurd (cc (sym x.1 ∙ null))
      by (inr x) (inl y) = let none : value_in (header_of text) (record_at text n) v.column ≡ None = rw same y.1 in absurd (cc (sym none ∙ x.1.1))

  earlier : (a b : DataError) (v : IsFirstWrong a) (w : IsFirstWrong b) → ¬ (field_place (header_of text) v.column.name < field_place (header_of text) w.column.name)
  earlier a b v w less = rw v.is at (w.first v.index v.column v.inside (rw v.is less)) (refused_of a v)

  first_wrong : (a b : DataError) → IsWellFormedTable table → NamesEachOnce table.columns (header_of text) → IsFirstWrong a → IsFirstWrong b → a ≡ b
  first_wrong a b formed names v w =
      elim (cases_lt (field_place (header_of text) v.column.name) (field_place (header_of text) w.column.name)) [
        | inl less ↦ absurd (earlier a b v w less)
        | inr more ↦
            elim (cases_lt (field_place (header_of text) w.column.name) (field_place (header_of text) v.column.name)) [
              | inl less ↦ absurd (earlier b a w v less)
              | inr equal ↦
                  let same = one_name table.columns (header_of text) v.index w.index v.column w.column names v.inside v.is w.inside w.is (omega arith) in
                  one_wrong a b v w (one_column table.columns v.index w.index v.column w.column formed.names v.inside v.is w.inside w.is same)
            ]
      ]

  -- ---- the refusal of one record

  abbrev Here : DataError → Type 0
  Here e = ((e ≡ Header) × (n ≡ 0)) ⊎ (((e ≡ TooManyRecords) × (n ≡ most_records + 1)) ⊎ ((0 < n) × (n ≤ most_records) × IsFirstWrong e))

  sorted : (e : DataError) → RefusesAt table text n e → ((e ≡ Malformed) × ¬ (IsWellFormed text n)) ⊎ (IsWellFormed text n × Here e)
  sorted Malformed h = inl (refl, h)
  sorted Header h = inr (h.0, inl (refl, h.1))
  sorted TooManyRecords h = inr (h.0, inr (inl (refl, h.1)))
  sorted (NoValue m) (formed, some, few, (same, (k, column, inside, is, (lacks, first)))) = inr (formed, inr (inr (some, few, record { index = k; column = column; inside = inside; is = is; first = first; why = inl (ap NoValue same, lacks) })))
  sorted (NullValue m) (formed, some, few, (same, (k, column, inside, is, (null, first)))) = inr (formed, inr (inr (some, few, record { index = k; column = column; inside = inside; is = is; first = first; why = inr (ap NullValue same, null) })))
  sorted (Key m) h = absurd h
  sorted OutOfMemory h = absurd h

  same_here : (a b : DataError) → IsWellFormedTable table → (0 < n → NamesEachOnce table.columns (header_of text)) → Here a → Here b → a ≡ b
  same_here a b formed names (inl p) (inl q) = p.0 ∙ sym q.0
  same_here a b formed names (inr (inl p)) (inr (inl q)) = p.0 ∙ sym q.0
  same_here a b formed names (inr (inr p)) (inr (inr q)) = first_wrong a b formed (names p.0) p.2 q.2
  same_here a b formed names (inl p) (inr (inl q)) = absurd (apart p.1 q.1)
    where
      apart : n ≡ 0 → n ≡ most_records + 1 → ⊥
      apart x y = omega arith
  same_here a b formed names (inr (inl p)) (inl q) = absurd (apart q.1 p.1)
    where
      apart : n ≡ 0 → n ≡ most_records + 1 → ⊥
      apart x y = omega arith
  same_here a b formed names (inl p) (inr (inr q)) = absurd (apart p.1 q.0)
    where
      apart : n ≡ 0 → 0 < n → ⊥
      apart x y = omega arith
  same_here a b formed names (inr (inr p)) (inl q) = absurd (apart q.1 p.0)
    where
      apart : n ≡ 0 → 0 < n → ⊥
      apart x y = omega arith
  same_here a b formed names (inr (inl p)) (inr (inr q)) = absurd (apart p.1 q.1)
    where
      apart : n ≡ most_records + 1 → n ≤ most_records → ⊥
      apart x y = omega arith
  same_here a b formed names (inr (inr p)) (inr (inl q)) = absurd (apart q.1 p.1)
    where
      apart : n ≡ most_records + 1 → n ≤ most_records → ⊥
      apart x y = omega arith

  same_at : (a b : DataError) → IsWellFormedTable table → (0 < n → NamesEachOnce table.columns (header_of text)) → RefusesAt table text n a → RefusesAt table text n b → a ≡ b
  same_at a b formed names p q = by (sorted a p) (sorted b q)
    where
      by : ((a ≡ Malformed) × ¬ (IsWellFormed text n)) ⊎ (IsWellFormed text n × Here a) → ((b ≡ Malformed) × ¬ (IsWellFormed text n)) ⊎ (IsWellFormed text n × Here b) → a ≡ b
      by (inl x) (inl y) = x.0 ∙ sym y.0
      by (inl x) (inr y) = absurd (x.1 y.0)
      by (inr x) (inl y) = absurd (y.1 x.0)
      by (inr x) (inr y) = same_here a b formed names x.1 y.1

-- ---- the first record that is refused

not_accepted : (table : TableRule) (text : List ℕ) (n : ℕ) (e : DataError) → RefusesAt table text n e → ¬ (IsAccepted table text n)
not_accepted table text zero Malformed h a = h a.0
not_accepted table text (suc n) Malformed h a = h a.0
not_accepted table text zero Header h a = h.2 a.1
not_accepted table text (suc n) Header h a = absurd (cc (h.1))
not_accepted table text zero TooManyRecords h a = absurd (cc (h.1))
not_accepted table text (suc n) TooManyRecords h a = beyond h.1 a.1
  where
    beyond : suc n ≡ most_records + 1 → suc n ≤ most_records → ⊥
    beyond x y = omega arith
not_accepted table text zero (NoValue m) h a = none h.1
  where
    none : 0 < 0 → ⊥
    none x = omega arith
not_accepted table text (suc n) (NoValue m) (formed, some, few, (same, (k, column, inside, is, (lacks, first)))) a = a.2 k column inside (rw is (inl lacks))
not_accepted table text zero (NullValue m) h a = none h.1
  where
    none : 0 < 0 → ⊥
    none x = omega arith
not_accepted table text (suc n) (NullValue m) (formed, some, few, (same, (k, column, inside, is, (null, first)))) a = a.2 k column inside (rw is (inr null))
not_accepted table text n (Key m) h a = h
not_accepted table text n OutOfMemory h a = h

named_before : (table : TableRule) (text : List ℕ) (n : ℕ) → AreAccepted table text n → 0 < n → NamesEachOnce table.columns (header_of text)
named_before table text n before some = (before 0 some).1

one_first : (table : TableRule) (text : List ℕ) (a b : DataError) → IsWellFormedTable table → IsFirstRefused table text a → IsFirstRefused table text b → a ≡ b
one_first table text a b formed f g =
    elim (cases_lt f.number g.number) [
      | inl before ↦ absurd (not_accepted table text f.number a f.why (g.before f.number before))
      | inr after ↦
          elim (cases_lt g.number f.number) [
            | inl below ↦ absurd (not_accepted table text g.number b g.why (f.before g.number below))
            | inr equal ↦
                let same : g.number ≡ f.number = omega arith in
                same_at table text f.number a b formed (named_before table text f.number f.before) f.why (rw (← same) g.why)
          ]
    ]

-- ---- the rows of a text

-- a text holds no other rows
one_row : (a b : List Value) → map (λ v. Some v) a ≡ map (λ v. Some v) b → a ≡ b
one_row [] [] e = refl
one_row [] (v ∷ vs) e = absurd (cc e)
one_row (v ∷ vs) [] e = absurd (cc e)
one_row (v ∷ vs) (w ∷ ws) e = let rest = one_row vs ws (cc e) in let first : v ≡ w = cc e in cc

rows_alike : (a b : List Row) → map (map (λ v. Some v)) a ≡ map (map (λ v. Some v)) b → a ≡ b
rows_alike [] [] e = refl
rows_alike [] (v ∷ vs) e = absurd (cc e)
rows_alike (v ∷ vs) [] e = absurd (cc e)
rows_alike (v ∷ vs) (w ∷ ws) e = let rest = rows_alike vs ws (cc e) in let first = one_row v w (cc e) in cc

-- rows that fit are of records that are accepted
all_accepted : (table : TableRule) (text : List ℕ) (rows : List Row) → HoldsRows table text rows → All (λ row. fits_columns table.columns row ≡ true) rows → AreAccepted table text (length (records_of text))
all_accepted table text rows h fits zero lt = ((h.encoded 0 [] lt, h.lengths 0 [] lt), h.names)
all_accepted table text rows h fits (suc k) lt =
    let few = h.few in
    let counted = length-drop 1 (records_of text) in
    let in_data : k < length (data_of text) = omega arith in
    let as_many = ap length h.values in
    let left = length-map (data_of text) (values_in table.columns (header_of text)) in
    let right = length-map rows (map (λ (v : Value). Some v)) in
    let next : 1 + k ≡ suc k = omega arith in
    let at : get_or (data_of text) k [] ≡ record_at text (suc k) = get_or-drop 1 (records_of text) k [] ∙ ap (record_at text) next in
    let values = sym (get_or-map (values_in table.columns (header_of text)) (data_of text) k [] [] in_data) ∙ ap (λ vs. get_or vs k []) h.values ∙ get_or-map (map (λ (v : Value). Some v)) rows k [] [] (omega arith) in (
      (h.encoded (suc k) [] lt, h.lengths (suc k) [] lt),
      omega arith,
      fits_record table.columns (header_of text) (record_at text (suc k)) (row_at rows k) (rw at at values) (fits k [] (omega arith)),
    )

not_first : (table : TableRule) (text : List ℕ) (rows : List Row) (e : DataError) → HoldsRows table text rows → All (λ row. fits_columns table.columns row ≡ true) rows → ¬ (IsFirstRefused table text e)
not_first table text rows e h fits f = not_accepted table text f.number e f.why (all_accepted table text rows h fits f.number f.within)

one_repeat : (table : TableRule) (text : List ℕ) (m n : ℕ) → IsFirstRepeat table text m → IsFirstRepeat table text n → m ≡ n
one_repeat table text m n (rows, h, fits, p, at, least) (others, g, fit, q, is, first) =
    let same = rows_alike rows others (sym h.values ∙ g.values) in
    elim (cases_lt p q) [
      | inl before ↦ absurd (first.1 p before (rw (← same) least.0))
      | inr after ↦
          elim (cases_lt q p) [
            | inl below ↦ absurd (least.1 q below (rw same first.0))
            | inr equal ↦ omega arith
          ]
    ]

-- ---- the laws

abbrev Cause : TableRule → List ℕ → DataError → Type 0
Cause table text e = ((e ≡ Header) × (records_of text ≡ [])) ⊎ (IsFirstRefused table text e ⊎ ((n : ℕ) × (e ≡ Key n) × IsFirstRepeat table text n))

cause_of : (table : TableRule) (text : List ℕ) (e : DataError) → HasCause table text e → ¬ (e ≡ OutOfMemory) → Cause table text e
cause_of table text Header (inl none) is = inl (refl, none)
cause_of table text Header (inr first) is = inr (inl first)
cause_of table text (NoValue n) h is = inr (inl h)
cause_of table text (NullValue n) h is = inr (inl h)
cause_of table text Malformed h is = inr (inl h)
cause_of table text TooManyRecords h is = inr (inl h)
cause_of table text (Key n) h is = inr (inr (n, refl, h))
cause_of table text OutOfMemory h is = absurd (is refl)

no_first : (table : TableRule) (text : List ℕ) (e : DataError) → records_of text ≡ [] → ¬ (IsFirstRefused table text e)
no_first table text e none f = let few = ap length none in let within = f.within in omega arith

no_rows : (table : TableRule) (text : List ℕ) (rows : List Row) → records_of text ≡ [] → ¬ (HoldsRows table text rows)
no_rows table text rows none h = let few = ap length none in let headed = h.headed in omega arith

joined : (table : TableRule) (text : List ℕ) (a b : DataError) → IsWellFormedTable table → Cause table text a → Cause table text b → a ≡ b
joined table text a b formed (inl p) (inl q) = p.0 ∙ sym q.0
joined table text a b formed (inl p) (inr (inl q)) = absurd (no_first table text b p.1 q)
joined table text a b formed (inl p) (inr (inr (n, is, (rows, h, fits, at, at_is, least)))) = absurd (no_rows table text rows p.1 h)
joined table text a b formed (inr (inl p)) (inl q) = absurd (no_first table text a q.1 p)
joined table text a b formed (inr (inl p)) (inr (inl q)) = one_first table text a b formed p q
joined table text a b formed (inr (inl p)) (inr (inr (n, is, (rows, h, fits, at, at_is, least)))) = absurd (not_first table text rows a h fits p)
joined table text a b formed (inr (inr (n, is, (rows, h, fits, at, at_is, least)))) (inl q) = absurd (no_rows table text rows q.1 h)
joined table text a b formed (inr (inr (n, is, (rows, h, fits, at, at_is, least)))) (inr (inl q)) = absurd (not_first table text rows b h fits q)
joined table text a b formed (inr (inr (m, is, p))) (inr (inr (n, at, q))) = is ∙ ap Key (one_repeat table text m n p q) ∙ sym at

pub one_refusal : HasOneRefusal
one_refusal table text first second formed p q some other = joined table text first second formed (cause_of table text first p some) (cause_of table text second q other)

no_repeat : (table : TableRule) (rows : List Row) (q : ℕ) → MeetsTable table rows → ¬ (Repeats table.keys rows q)
no_repeat table rows q h (k, key, inside, is, (within, p, before, repeats)) =
    let kept = rw is at (h.keys k key inside) in
    true≢false (sym repeats ∙ kept p q [] before within)

pub rows_or_refusal : HasRowsOrRefusal
rows_or_refusal table text rows Header h meets (inl none) = absurd (no_rows table text rows none h)
rows_or_refusal table text rows Header h meets (inr first) = absurd (not_first table text rows Header h meets.values first)
rows_or_refusal table text rows (NoValue n) h meets first = absurd (not_first table text rows (NoValue n) h meets.values first)
rows_or_refusal table text rows (NullValue n) h meets first = absurd (not_first table text rows (NullValue n) h meets.values first)
rows_or_refusal table text rows Malformed h meets first = absurd (not_first table text rows Malformed h meets.values first)
rows_or_refusal table text rows TooManyRecords h meets first = absurd (not_first table text rows TooManyRecords h meets.values first)
rows_or_refusal table text rows (Key n) h meets (others, g, fits, q, at, least) = absurd (no_repeat table rows q meets (rw (rows_alike others rows (sym g.values ∙ h.values)) at least.0))
rows_or_refusal table text rows OutOfMemory h meets c = refl
