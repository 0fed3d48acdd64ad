-- Groups over rows with NULL in the columns that are not read.
use Rattle.std.proofs.Common.{◌≡◌, ℕ, Bool, true, false, cond, List, [], ◌∷◌, ◌++◌, map, flat_map, length, refl, sym, ◌∙◌, ap, subst, option_to_list, Ok}
use Rattle.std.specs.List.{AllByRecursion}
use Rattle.std.proofs.lemmas.List.{map-append}
use Rattle.std.proofs.lemmas.List.FromFn.{length-map-range_with_len}
use Rattle.wd_value.specs.Bags.{positions}
use Rattle.wd_value.specs.declared.value.Value.TheVariants.{Null}
use Rattle.wd_value.specs.Rows.{Row, column_of, same_row}
use Rattle.wd_laws.proofs.Widths.{all_distinct}
use Rattle.wd_plan.specs.Calls.{aggregate_value}
use Rattle.wd_plan.specs.Faults.{all_ok, and_then}
use Rattle.wd_plan.specs.Outcomes.{distinct, group_outcome, group_row, group_value, groups, rows_of_group, set_rows, shown}
use Rattle.wd_plan.specs.Plans.{GroupCall, OfRows, Grouping, GroupRule, has}
use Rattle.wd_plan.specs.declared.function.Aggregate.TheVariants.{CountRows, Count, Sum, Min, Max}
use Rattle.wd_simpler.proofs.Alike.{AreAlikeOn, AreSameOn, all_weaken, has_each, has_left, has_own, has_right}
use Rattle.wd_simpler.proofs.Masks.{mask, mask_read}
use Rattle.wd_simpler.proofs.Results.{before, over, over_all}
use Rattle.wd_simpler.proofs.Steps.{masked_before, shown_of}
use Rattle.wd_simpler.proofs.Values.{AreRead, aggregate_read, filter_map, map_of_map}
use Rattle.wd_simpler.proofs.Rows.{map_same}
use Rattle.wd_simpler.proofs.Windows.{after_row}
use Rattle.wd_simpler.specs.Simpler.{Read, after, group_argument, group_reads, next, read_group, read_group_call, read_group_calls}

-- ---- groups by what is read of the rows

module _ (read : Read) (columns : ℕ) (grouping : AreRead read (positions columns)) where
  shown_read : (set : List ℕ) (row : Row) → shown columns set (mask read row) ≡ shown columns set row
  shown_read set row =
      map_same (λ c. read c ≡ true) (λ c. cond (has set c) (column_of (mask read row) c) Null) (λ c. cond (has set c) (column_of row c) Null)
      (λ c h. ap (λ v. cond (has set c) v Null) (mask_read read row c h)) (positions columns) grouping

  groups_read : (set : List ℕ) (rows : List Row) → groups columns set (map (mask read) rows) ≡ groups columns set rows
  groups_read [] rows = refl
  groups_read (c ∷ set) rows = ap distinct (map_of_map (mask read) (shown columns (c ∷ set)) (shown columns (c ∷ set)) (shown_read (c ∷ set)) rows)

  members_read : (set : List ℕ) (rows : List Row) (group : Row) → rows_of_group columns set (map (mask read) rows) group ≡ map (mask read) (rows_of_group columns set rows group)
  members_read set rows group =
      let test = λ (row : Row). same_row group (shown columns set row) in
      filter_map (mask read) test test (λ row. ap (same_row group) (shown_read set row)) rows

  abbrev ArgumentIsRead : GroupCall → Type 0
  ArgumentIsRead call = AreRead read (option_to_list (group_argument call))

  value_read : (set : List ℕ) (rows : List Row) (group : Row) (call : GroupCall) → ArgumentIsRead call → group_value set (rows_of_group columns set (map (mask read) rows) group) call ≡ group_value set (rows_of_group columns set rows group) call
  value_read set rows group (OfRows a) h = ap (aggregate_value a) (members_read set rows group) ∙ aggregate_read read a h (rows_of_group columns set rows group)
  value_read set rows group (Grouping arguments) h = refl

module _ (read : Read) (rule : GroupRule) (grouping : AreRead read (positions rule.columns)) (arguments : AllByRecursion (ArgumentIsRead read rule.columns grouping) rule.calls) where
  row_read : (rows : List Row) (set : List ℕ) (group : Row) → group_row rule (map (mask read) rows) set group ≡ group_row rule rows set group
  row_read rows set group =
      ap (λ values. and_then (all_ok values) (λ vs. Ok (group ++ vs)))
      (map_same (ArgumentIsRead read rule.columns grouping) (group_value set (rows_of_group rule.columns set (map (mask read) rows) group)) (group_value set (rows_of_group rule.columns set rows group))
      (value_read read rule.columns grouping set rows group) rule.calls arguments)

  set_read : (rows : List Row) (set : List ℕ) → set_rows rule (map (mask read) rows) set ≡ set_rows rule rows set
  set_read rows set = λ i. map (λ group. row_read rows set group i) (groups_read read rule.columns grouping set rows i)

  outcome_read : (rows : List Row) → group_outcome rule (map (mask read) rows) ≡ group_outcome rule rows
  outcome_read rows = λ i. all_ok (flat_map (λ set. set_read rows set i) rule.sets)

module _ (rule : GroupRule) where
  abbrev arguments_of : List ℕ
  arguments_of = flat_map (λ call. option_to_list (group_argument call)) rule.calls

  grouping_reads : AreRead (has (group_reads rule)) (positions rule.columns)
  grouping_reads = all_weaken (λ c. has (positions rule.columns) c ≡ true) (λ c. has (group_reads rule) c ≡ true) (has_left (positions rule.columns) arguments_of) (positions rule.columns) (has_own (positions rule.columns))

  argument_reads : AllByRecursion (ArgumentIsRead (has (group_reads rule)) rule.columns grouping_reads) rule.calls
  argument_reads = all_weaken (λ (call : GroupCall). AllByRecursion (λ c. has arguments_of c ≡ true) (option_to_list (group_argument call))) (ArgumentIsRead (has (group_reads rule)) rule.columns grouping_reads)
      (λ call a. all_weaken (λ c. has arguments_of c ≡ true) (λ c. has (group_reads rule) c ≡ true) (has_right (positions rule.columns) arguments_of) (option_to_list (group_argument call)) a)
      rule.calls (has_each (λ (call : GroupCall). option_to_list (group_argument call)) rule.calls)

  -- a Group gives the same of what it reads
  group_read : (rows : List Row) → group_outcome rule (map (mask (has (group_reads rule))) rows) ≡ group_outcome rule rows
  group_read = outcome_read (has (group_reads rule)) rule grouping_reads argument_reads

-- ---- calls that are not read

call_swapped : (set : List ℕ) (rows : List Row) (is_read : Bool) (call : GroupCall) → over (shown_of is_read) (group_value set rows call) ≡ over (shown_of is_read) (group_value set rows (read_group_call is_read call))
call_swapped set rows true (OfRows a) = refl
call_swapped set rows false (OfRows CountRows) = refl
call_swapped set rows false (OfRows (Count c)) = refl
call_swapped set rows false (OfRows (Sum c)) = refl
call_swapped set rows false (OfRows (Min c)) = refl
call_swapped set rows false (OfRows (Max c)) = refl
call_swapped set rows is_read (Grouping arguments) = refl

calls_swapped : (set : List ℕ) (rows : List Row) (read : Read) (calls : List GroupCall) → over (mask read) (all_ok (map (group_value set rows) calls)) ≡ over (mask read) (all_ok (map (group_value set rows) (read_group_calls read calls)))
calls_swapped set rows read [] = refl
calls_swapped set rows read (call ∷ calls) =
    masked_before read (group_value set rows call) (map (group_value set rows) calls)
    ∙ (λ i. before (call_swapped set rows (read 0) call i) (calls_swapped set rows (next read) calls i))
    ∙ sym (masked_before read (group_value set rows (read_group_call (read 0) call)) (map (group_value set rows) (read_group_calls (next read) calls)))

-- what is shown of a group has a value for each grouping column
module _ (columns : ℕ) where
  abbrev IsLong : Row → Type 0
  IsLong group = length group ≡ columns

  shown_long : (set : List ℕ) (row : Row) → IsLong (shown columns set row)
  shown_long set row = length-map-range_with_len (λ c. cond (has set c) (column_of row c) Null) 0 columns

  all_shown : (set : List ℕ) (rows : List Row) → AllByRecursion IsLong (map (shown columns set) rows)
  all_shown set [] = tt
  all_shown set (row ∷ rows) = (shown_long set row, all_shown set rows)

  groups_long : (set : List ℕ) (rows : List Row) → AllByRecursion IsLong (groups columns set rows)
  groups_long [] rows = (shown_long [] [], tt)
  groups_long (c ∷ set) rows = all_distinct IsLong (map (shown columns (c ∷ set)) rows) (all_shown (c ∷ set) rows)

module _ (read : Read) (rule : GroupRule) (rows : List Row) where
  abbrev own : GroupRule
  own = read_group (after rule.columns read) rule

  row_swapped : (set : List ℕ) (group : Row) → IsLong rule.columns group → over (mask read) (group_row rule rows set group) ≡ over (mask read) (group_row own rows set group)
  row_swapped set group long =
      let value = group_value set (rows_of_group rule.columns set rows group) in
      let calls : over (mask (after (length group) read)) (all_ok (map value rule.calls)) ≡ over (mask (after (length group) read)) (all_ok (map value own.calls)) =
      subst (λ n. over (mask (after n read)) (all_ok (map value rule.calls)) ≡ over (mask (after n read)) (all_ok (map value own.calls))) (sym long) (calls_swapped set (rows_of_group rule.columns set rows group) (after rule.columns read) rule.calls) in
      after_row read group (all_ok (map value rule.calls))
      ∙ ap (over (λ values. mask read group ++ values)) calls
      ∙ sym (after_row read group (all_ok (map value own.calls)))

  set_swapped : (set : List ℕ) → map (over (mask read)) (set_rows rule rows set) ≡ map (over (mask read)) (set_rows own rows set)
  set_swapped set =
      let old = group_row rule rows set in
      let new = group_row own rows set in
      let all = groups rule.columns set rows in
      map_of_map old (over (mask read)) (λ group. over (mask read) (old group)) (λ group. refl) all
      ∙ map_same (IsLong rule.columns) (λ group. over (mask read) (old group)) (λ group. over (mask read) (new group)) (row_swapped set) all (groups_long rule.columns set rows)
      ∙ sym (map_of_map new (over (mask read)) (λ group. over (mask read) (new group)) (λ group. refl) all)

  sets_swapped : (sets : List (List ℕ)) → map (over (mask read)) (flat_map (set_rows rule rows) sets) ≡ map (over (mask read)) (flat_map (set_rows own rows) sets)
  sets_swapped [] = refl
  sets_swapped (set ∷ sets) =
      map-append (over (mask read)) (set_rows rule rows set) (flat_map (set_rows rule rows) sets)
      ∙ (λ i. set_swapped set i ++ sets_swapped sets i)
      ∙ sym (map-append (over (mask read)) (set_rows own rows set) (flat_map (set_rows own rows) sets))

  group_swapped : AreAlikeOn read (group_outcome rule rows) (group_outcome own rows)
  group_swapped =
      over_all (mask read) (flat_map (set_rows rule rows) rule.sets)
      ∙ ap all_ok (sets_swapped rule.sets)
      ∙ sym (over_all (mask read) (flat_map (set_rows own rows) rule.sets))

pub group_alike : (read : Read) (rule : GroupRule) (rows others : List Row) → AreSameOn (has (group_reads (read_group (after rule.columns read) rule))) rows others → AreAlikeOn read (group_outcome rule rows) (group_outcome (read_group (after rule.columns read) rule) others)
group_alike read rule rows others e =
    let own = read_group (after rule.columns read) rule in
    group_swapped read rule rows
    ∙ ap (over (map (mask read))) (sym (group_read own rows) ∙ ap (group_outcome own) e ∙ group_read own others)
