-- Filters, Maps and Limits over rows with NULL in the columns that are not read.
use Rattle.std.proofs.Common.{◌≡◌, ℕ, zero, suc, Bool, true, false, cond, List, [], ◌∷◌, ◌++◌, map, flat_map, filter, take_while, drop, length, refl, sym, ◌∙◌, ap, is_eq, Option, None, Some, Result, Ok}
use Rattle.std.specs.List.{AllByRecursion}
use Rattle.std.proofs.lemmas.List.{drop-map, map-append}
use Rattle.std.proofs.lemmas.List.Sums.{take_while-cons}
use Rattle.wd_value.specs.declared.order.SortColumn.{SortColumn}
use Rattle.wd_value.specs.declared.value.Fault.{Fault}
use Rattle.wd_value.specs.declared.value.Value.{Value}
use Rattle.wd_value.specs.declared.value.Value.TheVariants.{Null}
use Rattle.wd_value.specs.Keys.{key_columns}
use Rattle.wd_value.specs.Rows.{Row, column_of, rows_at}
use Rattle.wd_facts.proofs.Outputs.{value_same}
use Rattle.wd_plan.specs.Expressions.{Expression, Column, Literal, Negate, Arithmetic, Compare, Not, And, Or, IsNull, IsNotNull, Case, value_of}
use Rattle.wd_plan.specs.Facts.{HasWidth}
use Rattle.wd_plan.specs.Faults.{all_ok, least_fault, unless}
use Rattle.wd_plan.specs.Outcomes.{RowsOrFault, limited_rows, filter_outcome, first_rows, join_outcome, map_outcome, pairs, passes, peers}
use Rattle.wd_plan.specs.Plans.{LimitRule, has}
use Rattle.wd_step_facts.specs.Steps.{used}
use Rattle.wd_simpler.proofs.Alike.{AreAlikeOn, AreSameOn, all_weaken, also_read, has_also, has_each, has_own}
use Rattle.wd_simpler.proofs.Masks.{mask, mask_append, mask_long, mask_more, mask_read}
use Rattle.wd_simpler.proofs.Results.{all_before, before, over, over_all, over_before}
use Rattle.wd_simpler.proofs.Values.{AreRead, filter_map, keys_read, map_of_map, rows_read}
use Rattle.wd_simpler.specs.Simpler.{Read, after, and_also, condition_reads, next, plain_limit, read_limit, read_output, read_outputs}

-- ---- expressions

pub expression_read : (read : Read) (e : Expression) → AreRead read (used e) → (row : Row) → value_of e (mask read row) ≡ value_of e row
expression_read read e h row = value_same (mask read row) row e (all_weaken (λ c. read c ≡ true) (λ c. column_of (mask read row) c ≡ column_of row c) (mask_read read row) (used e) h)

-- ---- a step that reads no more than these, over rows of which more is read

over_unless : {X Y : Type 0} (g : X → Y) (o : Option Fault) (x : X) → over g (unless o x) ≡ unless o (g x)
over_unless g None x = refl
over_unless g (Some fault) x = refl

module _ (read more : Read) (among : (c : ℕ) → read c ≡ true → more c ≡ true) where
  pub masked_more : (rows : List Row) → map (mask read) (map (mask more) rows) ≡ map (mask read) rows
  masked_more rows = map_of_map (mask more) (mask read) (mask read) (mask_more read more among) rows

  -- a step that gives the same of the rows as of what is read of them
  pub read_step : (f : List Row → RowsOrFault) → ((rows : List Row) → AreAlikeOn read (f (map (mask more) rows)) (f rows)) → (rows others : List Row) → AreSameOn more rows others → AreAlikeOn read (f rows) (f others)
  read_step f h rows others e = sym (h rows) ∙ ap (λ x. over (map (mask read)) (f x)) e ∙ h others

-- ---- Filters

module _ (read : Read) (condition : Expression) where
  condition_read : (row : Row) → value_of condition (mask (and_also read (used condition)) row) ≡ value_of condition row
  condition_read = expression_read (and_also read (used condition)) condition (all_weaken (λ c. has (used condition) c ≡ true) (λ c. and_also read (used condition) c ≡ true) (has_also read (used condition)) (used condition) (has_own (used condition)))

  filter_read : (rows : List Row) → AreAlikeOn read (filter_outcome condition (map (mask (and_also read (used condition))) rows)) (filter_outcome condition rows)
  filter_read rows =
      let m = mask (and_also read (used condition)) in
      let kept = λ (row : Row). passes (value_of condition row) in
      let values : map (value_of condition) (map m rows) ≡ map (value_of condition) rows = map_of_map m (value_of condition) (value_of condition) condition_read rows in
      let fault = least_fault (map (value_of condition) rows) in
      let passed : filter kept (map m rows) ≡ map m (filter kept rows) = filter_map m kept kept (λ row. ap passes (condition_read row)) rows in
      (λ i. over (map (mask read)) (unless (least_fault (values i)) (passed i)))
      ∙ over_unless (map (mask read)) fault (map m (filter kept rows))
      ∙ ap (unless fault) (masked_more read (and_also read (used condition)) (also_read read (used condition)) (filter kept rows))
      ∙ sym (over_unless (map (mask read)) fault (filter kept rows))

  pub filter_alike : (rows others : List Row) → AreSameOn (and_also read (used condition)) rows others → AreAlikeOn read (filter_outcome condition rows) (filter_outcome condition others)
  filter_alike = read_step read (and_also read (used condition)) (also_read read (used condition)) (filter_outcome condition) filter_read

-- ---- Joins

module _ (n : ℕ) (more : Read) where
  beside_masked : (l : Row) → length l ≡ n → (right : List Row) → map (mask more) (map (λ r. l ++ r) right) ≡ map (λ r. mask more l ++ r) (map (mask (after n more)) right)
  beside_masked l long [] = refl
  beside_masked l long (r ∷ right) = λ i. (mask_append more l r ∙ ap (λ k. mask more l ++ mask (after k more) r) long) i ∷ beside_masked l long right i

  pairs_masked : (left right : List Row) → HasWidth n left → map (mask more) (pairs left right) ≡ pairs (map (mask more) left) (map (mask (after n more)) right)
  pairs_masked [] right wide = refl
  pairs_masked (l ∷ left) right wide =
      map-append (mask more) (map (λ r. l ++ r) right) (pairs left right)
      ∙ (λ i. beside_masked l wide.0 right i ++ pairs_masked left right wide.1 i)

  -- rows that are the same in what is read have one width
  wide_alike : (rows others : List Row) → AreSameOn more rows others → HasWidth n rows → HasWidth n others
  wide_alike [] [] e wide = tt
  wide_alike [] (o ∷ others) e wide = absurd cc
  wide_alike (r ∷ rows) [] e wide = absurd cc
  wide_alike (r ∷ rows) (o ∷ others) e wide =
      let head : mask more r ≡ mask more o = cc in
      let rest : AreSameOn more rows others = cc in
      (sym (mask_long more o) ∙ ap length (sym head) ∙ mask_long more r ∙ wide.0, wide_alike rows others rest wide.1)

  pub pairs_alike : (left others right rest : List Row) → HasWidth n left → AreSameOn more left others → AreSameOn (after n more) right rest → AreSameOn more (pairs left right) (pairs others rest)
  pairs_alike left others right rest wide e f =
      pairs_masked left right wide
      ∙ (λ i. pairs (e i) (f i))
      ∙ sym (pairs_masked others rest (wide_alike left others e wide))

pub join_alike : (read : Read) (condition : Option Expression) (rows others : List Row) → AreSameOn (and_also read (condition_reads condition)) rows others → AreAlikeOn read (join_outcome condition rows) (join_outcome condition others)
join_alike read None rows others e = ap (λ x. Ok x) (sym (masked_more read (and_also read []) (also_read read []) rows) ∙ ap (map (mask read)) e ∙ masked_more read (and_also read []) (also_read read []) others)
join_alike read (Some condition) rows others e = filter_alike read condition rows others e

-- ---- Maps

abbrev pub shown_of : Bool → Value → Value
shown_of is_read v = cond is_read v Null

output_swapped : (is_read : Bool) (e : Expression) (row : Row) → over (shown_of is_read) (value_of e row) ≡ over (shown_of is_read) (value_of (read_output is_read e) row)
output_swapped true e row = refl
output_swapped false (Column c) row = refl
output_swapped false (Literal v kind) row = refl
output_swapped false (Negate a) row = refl
output_swapped false (Arithmetic o a b) row = refl
output_swapped false (Compare o a b) row = refl
output_swapped false (Not a) row = refl
output_swapped false (And a b) row = refl
output_swapped false (Or a b) row = refl
output_swapped false (IsNull a) row = refl
output_swapped false (IsNotNull a) row = refl
output_swapped false (Case k a b c) row = refl

-- what is read of a result and of those after it
pub masked_before : (read : Read) (r : Result Value Fault) (rs : List (Result Value Fault)) → over (mask read) (all_ok (r ∷ rs)) ≡ before (over (shown_of (read 0)) r) (over (mask (next read)) (all_ok rs))
masked_before read r rs = ap (over (mask read)) (all_before r rs) ∙ over_before (shown_of (read 0)) (mask (next read)) (mask read) (λ x xs. refl) r (all_ok rs)

outputs_swapped : (read : Read) (outputs : List Expression) (row : Row) → over (mask read) (all_ok (map (λ output. value_of output row) outputs)) ≡ over (mask read) (all_ok (map (λ output. value_of output row) (read_outputs read outputs)))
outputs_swapped read [] row = refl
outputs_swapped read (e ∷ outputs) row =
    masked_before read (value_of e row) (map (λ output. value_of output row) outputs)
    ∙ (λ i. before (output_swapped (read 0) e row i) (outputs_swapped (next read) outputs row i))
    ∙ sym (masked_before read (value_of (read_output (read 0) e) row) (map (λ output. value_of output row) (read_outputs (next read) outputs)))

module _ (read : Read) (outputs : List Expression) where
  map_swapped : (rows : List Row) → AreAlikeOn read (map_outcome outputs rows) (map_outcome (read_outputs read outputs) rows)
  map_swapped rows =
      let f = λ (row : Row). all_ok (map (λ output. value_of output row) outputs) in
      let g = λ (row : Row). all_ok (map (λ output. value_of output row) (read_outputs read outputs)) in
      over_all (mask read) (map f rows)
      ∙ ap all_ok (map_of_map f (over (mask read)) (λ row. over (mask read) (g row)) (outputs_swapped read outputs) rows ∙ sym (map_of_map g (over (mask read)) (λ row. over (mask read) (g row)) (λ row. refl) rows))
      ∙ sym (over_all (mask read) (map g rows))

values_same : (more : Read) (outputs : List Expression) → AllByRecursion (λ e. AreRead more (used e)) outputs → (row : Row) → map (λ output. value_of output (mask more row)) outputs ≡ map (λ output. value_of output row) outputs
values_same more [] a row = refl
values_same more (e ∷ outputs) a row = λ i. expression_read more e a.0 row i ∷ values_same more outputs a.1 row i

map_read : (own : List Expression) (rows : List Row) → map_outcome own (map (mask (has (flat_map used own))) rows) ≡ map_outcome own rows
map_read own rows =
    let m = mask (has (flat_map used own)) in
    let f = λ (row : Row). all_ok (map (λ output. value_of output row) own) in
    ap all_ok (map_of_map m f f (λ row. ap all_ok (values_same (has (flat_map used own)) own (has_each used own) row)) rows)

pub map_alike : (read : Read) (outputs : List Expression) (rows others : List Row) → AreSameOn (has (flat_map used (read_outputs read outputs))) rows others → AreAlikeOn read (map_outcome outputs rows) (map_outcome (read_outputs read outputs) others)
map_alike read outputs rows others e =
    let own = read_outputs read outputs in
    map_swapped read outputs rows
    ∙ ap (over (map (mask read))) (sym (map_read own rows) ∙ ap (map_outcome own) e ∙ map_read own others)

-- ---- Limits

while_step : (f : Row → Row) (t u : Row → Bool) (r : Row) (rows : List Row) (b : Bool) → t (f r) ≡ b → u r ≡ b → take_while t (map f rows) ≡ map f (take_while u rows) → take_while t (map f (r ∷ rows)) ≡ map f (take_while u (r ∷ rows))
while_step f t u r rows true e g h = rw (take_while-cons t (f r) (map f rows), take_while-cons u r rows, e, g) (ap (λ l. f r ∷ l) h)
while_step f t u r rows false e g h = rw (take_while-cons t (f r) (map f rows), take_while-cons u r rows, e, g) refl

while_map : (f : Row → Row) (t u : Row → Bool) → ((r : Row) → t (f r) ≡ u r) → (rows : List Row) → take_while t (map f rows) ≡ map f (take_while u rows)
while_map f t u e [] = refl
while_map f t u e (r ∷ rows) = while_step f t u r rows (u r) (e r) refl (while_map f t u e rows)

module _ (read : Read) (keys : List SortColumn) (is_read : AreRead read (key_columns keys)) where
  tied_read : (ties : Bool) (r : Row) (rows : List Row) → cond ties (take_while (peers keys (mask read r)) (map (mask read) rows)) [] ≡ map (mask read) (cond ties (take_while (peers keys r) rows) [])
  tied_read true r rows = while_map (mask read) (peers keys (mask read r)) (peers keys r) (λ q. ap is_eq (keys_read read keys is_read r q)) rows
  tied_read false r rows = refl

  first_read : (ties : Bool) (n : ℕ) (rows : List Row) → first_rows keys ties n (map (mask read) rows) ≡ map (mask read) (first_rows keys ties n rows)
  first_read ties zero rows = refl
  first_read ties (suc n) [] = refl
  first_read ties (suc zero) (r ∷ rows) = ap (λ l. mask read r ∷ l) (tied_read ties r rows)
  first_read ties (suc (suc n)) (r ∷ rows) = ap (λ l. mask read r ∷ l) (first_read ties (suc n) rows)

cut_read : (read : Read) (limit : LimitRule) → AreRead read (key_columns limit.keys) → (rows : List Row) → limited_rows limit (map (mask read) rows) ≡ map (mask read) (limited_rows limit rows)
cut_read read limit h rows = by limit.count
  where
    by : (count : Option ℕ) → limited_rows (record limit { count = count }) (map (mask read) rows) ≡ map (mask read) (limited_rows (record limit { count = count }) rows)
    by None = drop-map (mask read) limit.offset rows
    by (Some n) = ap (first_rows limit.keys limit.ties n) (drop-map (mask read) limit.offset rows) ∙ first_read read limit.keys h limit.ties n (drop limit.offset rows)

pub limit_reads : (read : Read) (limit : LimitRule) → AreRead (and_also read (key_columns limit.keys)) (key_columns limit.keys)
limit_reads read limit = all_weaken (λ c. has (key_columns limit.keys) c ≡ true) (λ c. and_also read (key_columns limit.keys) c ≡ true) (has_also read (key_columns limit.keys)) (key_columns limit.keys) (has_own (key_columns limit.keys))

-- the same rows are kept of any rows
pub plain_cut : (limit : LimitRule) (rows : List Row) → limited_rows limit rows ≡ limited_rows (plain_limit limit) rows
plain_cut limit rows = by limit.count refl
  where
    by : (count : Option ℕ) → limit.count ≡ count → limited_rows limit rows ≡ limited_rows (plain_limit limit) rows
    by None e = rw e refl
    by (Some zero) e = rw e refl
    by (Some (suc n)) e = rw e refl

pub plain_keys : (limit : LimitRule) → (plain_limit limit).keys ≡ limit.keys
plain_keys limit = by limit.count refl
  where
    by : (count : Option ℕ) → limit.count ≡ count → (plain_limit limit).keys ≡ limit.keys
    by None e = rw e refl
    by (Some zero) e = rw e refl
    by (Some (suc n)) e = rw e refl

pub read_keys : (none : Bool) (limit : LimitRule) → (read_limit none limit).keys ≡ limit.keys
read_keys true limit = refl
read_keys false limit = plain_keys limit

cut_alike : (read : Read) (limit : LimitRule) (ordering : List ℕ) (rows others : List Row) → AreSameOn (and_also read (key_columns limit.keys)) rows others → AreAlikeOn read (Ok (limited_rows limit (rows_at rows ordering))) (Ok (limited_rows limit (rows_at others ordering)))
cut_alike read limit ordering =
    let more = and_also read (key_columns limit.keys) in
    read_step read more (also_read read (key_columns limit.keys)) (λ rows. Ok (limited_rows limit (rows_at rows ordering)))
    (λ rows. ap (λ x. Ok x) (
    ap (λ x. map (mask read) (limited_rows limit x)) (rows_read more rows ordering)
    ∙ ap (map (mask read)) (cut_read more limit (limit_reads read limit) (rows_at rows ordering))
    ∙ masked_more read more (also_read read (key_columns limit.keys)) (limited_rows limit (rows_at rows ordering))))

pub limit_alike : (read : Read) (limit : LimitRule) (ordering : List ℕ) (rows others : List Row) → AreSameOn (and_also read (key_columns limit.keys)) rows others → AreAlikeOn read (Ok (limited_rows limit (rows_at rows ordering))) (Ok (limited_rows (plain_limit limit) (rows_at others ordering)))
limit_alike read limit ordering rows others e = cut_alike read limit ordering rows others e ∙ ap (λ x. Ok (map (mask read) x)) (plain_cut limit (rows_at others ordering))
