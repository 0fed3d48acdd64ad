-- Windows and orderings over rows with NULL in the columns that are not read.
use Rattle.std.proofs.Common.{◌≡◌, ℕ, zero, suc, ◌<◌, Bool, true, false, cond, not, ◌||◌, List, [], ◌∷◌, ◌++◌, map, flat_map, length, refl, sym, ◌∙◌, ap, subst, arith, is_gt, option_to_list, Result, Ok, Err}
use Rattle.std.specs.List.{AllByRecursion}
use Rattle.std.proofs.lemmas.List.{length-map}
use Rattle.wd_value.specs.Bags.{EachOnce, positions}
use Rattle.wd_value.specs.declared.value.Fault.{Fault}
use Rattle.wd_value.specs.declared.value.Value.{Value}
use Rattle.wd_value.specs.Keys.{compare_keys}
use Rattle.wd_value.specs.Rows.{Row, row_at, rows_at}
use Rattle.wd_facts.proofs.Lists.{all_left, all_right}
use Rattle.wd_laws.proofs.Parts.{below_all}
use Rattle.wd_laws.proofs.ValueKinds.{all_map, at_any}
use Rattle.wd_plan.specs.Calls.{value_at}
use Rattle.wd_plan.specs.Choices.{AreOrderings}
use Rattle.wd_plan.specs.Facts.{HasWidth}
use Rattle.wd_plan.specs.Faults.{all_ok, and_then}
use Rattle.wd_plan.specs.Functions.{argument_of}
use Rattle.wd_plan.specs.Outcomes.{call_at, class_at, extended, ordering_at, window_outcome}
use Rattle.wd_plan.specs.Plans.{ClassRule, WindowRule, has}
use Rattle.wd_plan.specs.Sorting.{IsInOrder, IsOrdering, class_columns, order_columns, same_partition}
use Rattle.wd_plan.specs.declared.function.Aggregate.TheVariants.{CountRows, Count, Sum, Min, Max}
use Rattle.wd_plan.specs.declared.function.FrameFunction.TheVariants.{ValueAt, Aggregate}
use Rattle.wd_plan.specs.declared.function.Function.{Function}
use Rattle.wd_plan.specs.declared.function.Function.TheVariants.{Ranking as Ranked, Shift as Shifted, OfFrame}
use Rattle.wd_plan.specs.declared.window.Call.{Call}
use Rattle.wd_plan.specs.declared.window.Frame.{Frame}
use Rattle.wd_simpler.proofs.Alike.{AreAlikeOn, AreSameOn, all_weaken, also_read, has_also, has_each, has_left, has_right}
use Rattle.wd_simpler.proofs.Masks.{mask, mask_append, mask_long, mask_more}
use Rattle.wd_simpler.proofs.Results.{before, over, over_all}
use Rattle.wd_simpler.proofs.OwnPlaces.{value_by_peers}
use Rattle.wd_simpler.proofs.Rows.{map_same}
use Rattle.wd_simpler.proofs.Steps.{masked_before, shown_of}
use Rattle.wd_simpler.proofs.Values.{AreRead, keys_read, map_of_map, partition_read, row_read, rows_read, value_read}
use Rattle.wd_simpler.specs.Simpler.{Read, after, and_also, count_of, never_faults, next, peer_call, read_call, read_calls, read_window, window_reads}

-- ---- lawful orderings

module _ (read : Read) (class : ClassRule) (partition : AreRead read class.partition) (keys : AreRead read (order_columns class)) where
  abbrev IsAfter : Row → Row → Type 0
  IsAfter r q = same_partition class r q ≡ true → is_gt (compare_keys class.order r q) ≡ false

  after_to : (r q : Row) → IsAfter r q → IsAfter (mask read r) (mask read q)
  after_to r q h e = ap is_gt (keys_read read class.order keys r q) ∙ h (sym (partition_read read class partition r q) ∙ e)

  after_from : (r q : Row) → IsAfter (mask read r) (mask read q) → IsAfter r q
  after_from r q h e = sym (ap is_gt (keys_read read class.order keys r q)) ∙ h (partition_read read class partition r q ∙ e)

  all_from : (P Q : Row → Type 0) → ((q : Row) → Q (mask read q) → P q) → (rows : List Row) → AllByRecursion Q (map (mask read) rows) → AllByRecursion P rows
  all_from P Q h [] a = tt
  all_from P Q h (q ∷ rows) a = (h q a.0, all_from P Q h rows a.1)

  order_to : (rows : List Row) → IsInOrder class rows → IsInOrder class (map (mask read) rows)
  order_to [] a = tt
  order_to (r ∷ rows) a = (all_map (IsAfter r) (IsAfter (mask read r)) (mask read) (after_to r) rows a.0, order_to rows a.1)

  order_from : (rows : List Row) → IsInOrder class (map (mask read) rows) → IsInOrder class rows
  order_from [] a = tt
  order_from (r ∷ rows) a = (all_from (IsAfter r) (IsAfter (mask read r)) (after_from r) rows a.0, order_from rows a.1)

  ordering_to : (rows : List Row) (ordering : List ℕ) → IsOrdering class rows ordering → IsOrdering class (map (mask read) rows) ordering
  ordering_to rows ordering o = record {
    once = subst (λ n. EachOnce n ordering) (sym (length-map rows (mask read))) o.once;
    in_order = subst (IsInOrder class) (sym (rows_read read rows ordering)) (order_to (rows_at rows ordering) o.in_order);
  }

  ordering_from : (rows : List Row) (ordering : List ℕ) → IsOrdering class (map (mask read) rows) ordering → IsOrdering class rows ordering
  ordering_from rows ordering o = record {
    once = subst (λ n. EachOnce n ordering) (length-map rows (mask read)) o.once;
    in_order = order_from (rows_at rows ordering) (subst (IsInOrder class) (rows_read read rows ordering) o.in_order);
  }

  -- a lawful ordering of rows is one of rows that are the same in what is read
  pub ordering_alike : (rows others : List Row) → AreSameOn read rows others → (ordering : List ℕ) → IsOrdering class rows ordering → IsOrdering class others ordering
  ordering_alike rows others e ordering o = ordering_from others ordering (subst (λ (x : List Row). IsOrdering class x ordering) e (ordering_to rows ordering o))

-- ---- calls that are not read

ok_at : (class : ClassRule) (frame : Frame) (function : Function) (rows : List Row) (ordering : List ℕ) (r : ℕ) → never_faults function ≡ true → (v : Value) × (value_at class frame function rows ordering r ≡ Ok v)
ok_at class frame (Ranked k) rows ordering r h = (_, refl)
ok_at class frame (Shifted s) rows ordering r h = (_, refl)
ok_at class frame (OfFrame (ValueAt row c)) rows ordering r h = (_, refl)
ok_at class frame (OfFrame (Aggregate CountRows)) rows ordering r h = (_, refl)
ok_at class frame (OfFrame (Aggregate (Count c))) rows ordering r h = (_, refl)
ok_at class frame (OfFrame (Aggregate (Sum c))) rows ordering r h = absurd cc
ok_at class frame (OfFrame (Aggregate (Min c))) rows ordering r h = (_, refl)
ok_at class frame (OfFrame (Aggregate (Max c))) rows ordering r h = (_, refl)

module _ (w : WindowRule) (rows : List Row) (orderings : List (List ℕ)) (r : ℕ) where
  call_swapped : (is_read quiet : Bool) (call : Call) → never_faults call.function ≡ quiet → over (shown_of is_read) (call_at w rows orderings r call) ≡ over (shown_of is_read) (call_at w rows orderings r (cond (is_read || not quiet) (peer_call call) (count_of call)))
  call_swapped true quiet call e = ap (over (shown_of true)) (value_by_peers (class_at w call.class) call.frame call.function rows (ordering_at orderings call.class) r)
  call_swapped false false call e = ap (over (shown_of false)) (value_by_peers (class_at w call.class) call.frame call.function rows (ordering_at orderings call.class) r)
  call_swapped false true call e = ap (over (shown_of false)) (ok_at (class_at w call.class) call.frame call.function rows (ordering_at orderings call.class) r e).1

  calls_swapped : (read : Read) (calls : List Call) → over (mask read) (all_ok (map (call_at w rows orderings r) calls)) ≡ over (mask read) (all_ok (map (call_at w rows orderings r) (read_calls read calls)))
  calls_swapped read [] = refl
  calls_swapped read (call ∷ calls) =
      masked_before read (call_at w rows orderings r call) (map (call_at w rows orderings r) calls)
      ∙ (λ i. before (call_swapped (read 0) (never_faults call.function) call refl i) (calls_swapped (next read) calls i))
      ∙ sym (masked_before read (call_at w rows orderings r (read_call (read 0) call)) (map (call_at w rows orderings r) (read_calls (next read) calls)))

-- ---- rows with the values of their calls

-- what is read of a row and of values after it
pub after_row : (read : Read) (row : Row) (s : Result Row Fault) → over (mask read) (and_then s (λ values. Ok (row ++ values))) ≡ over (λ values. mask read row ++ values) (over (mask (after (length row) read)) s)
after_row read row (Ok values) = ap (λ x. Ok x) (mask_append read row values)
after_row read row (Err fault) = refl

wide_at : (n : ℕ) (rows : List Row) (r : ℕ) → HasWidth n rows → r < length rows → length (row_at rows r) ≡ n
wide_at n [] r wide h = absurd (omega arith)
wide_at n (row ∷ rows) zero wide h = wide.0
wide_at n (row ∷ rows) (suc r) wide h = wide_at n rows r wide.1 (omega arith)

-- all rows, by what is read of each
over_rows : (read : Read) (f : ℕ → Result Row Fault) (ps : List ℕ) → over (map (mask read)) (all_ok (map f ps)) ≡ all_ok (map (λ p. over (mask read) (f p)) ps)
over_rows read f ps = over_all (mask read) (map f ps) ∙ ap all_ok (map_of_map f (over (mask read)) (λ p. over (mask read) (f p)) (λ p. refl) ps)

module _ (read : Read) (n : ℕ) (w : WindowRule) (orderings : List (List ℕ)) where
  row_swapped : (rows : List Row) (r : ℕ) → length (row_at rows r) ≡ n → over (mask read) (extended w rows orderings r) ≡ over (mask read) (extended (read_window false (after n read) w) rows orderings r)
  row_swapped rows r long =
      let row = row_at rows r in
      let calls : over (mask (after (length row) read)) (all_ok (map (call_at w rows orderings r) w.calls)) ≡ over (mask (after (length row) read)) (all_ok (map (call_at w rows orderings r) (read_calls (after n read) w.calls))) =
      subst (λ k. over (mask (after k read)) (all_ok (map (call_at w rows orderings r) w.calls)) ≡ over (mask (after k read)) (all_ok (map (call_at w rows orderings r) (read_calls (after n read) w.calls)))) (sym long) (calls_swapped w rows orderings r (after n read) w.calls) in
      after_row read row (all_ok (map (call_at w rows orderings r) w.calls))
      ∙ ap (over (λ values. mask read row ++ values)) calls
      ∙ sym (after_row read row (all_ok (map (call_at w rows orderings r) (read_calls (after n read) w.calls))))

  window_swapped : (rows : List Row) → HasWidth n rows → AreAlikeOn read (window_outcome w rows orderings) (window_outcome (read_window false (after n read) w) rows orderings)
  window_swapped rows wide =
      over_rows read (extended w rows orderings) (positions (length rows))
      ∙ ap all_ok (map_same (λ p. p < length rows) (λ p. over (mask read) (extended w rows orderings p)) (λ p. over (mask read) (extended (read_window false (after n read) w) rows orderings p)) (λ p h. row_swapped rows p (wide_at n rows p wide h)) (positions (length rows)) (below_all 0 (length rows) (length rows) (omega arith)))
      ∙ sym (over_rows read (extended (read_window false (after n read) w) rows orderings) (positions (length rows)))

-- ---- what a Window reads

module _ (read : Read) (w : WindowRule) where
  class_reads : AllByRecursion (λ (class : ClassRule). AreRead (and_also read (window_reads w)) (class_columns class)) w.classes
  class_reads = all_weaken (λ (class : ClassRule). AllByRecursion (λ c. has (flat_map class_columns w.classes) c ≡ true) (class_columns class)) (λ (class : ClassRule). AreRead (and_also read (window_reads w)) (class_columns class))
      (λ class a. all_weaken (λ c. has (flat_map class_columns w.classes) c ≡ true) (λ c. and_also read (window_reads w) c ≡ true) (λ c h. has_also read (window_reads w) c (has_left (flat_map class_columns w.classes) (flat_map (λ (call : Call). option_to_list (argument_of call.function)) w.calls) c h)) (class_columns class) a)
      w.classes (has_each class_columns w.classes)

  -- also a class that is not there, which has no columns
  pub class_read : (n : ℕ) → AreRead (and_also read (window_reads w)) (class_columns (class_at w n))
  class_read n = at_any (λ (class : ClassRule). AreRead (and_also read (window_reads w)) (class_columns class)) w.classes n (record { partition = []; order = [] }) class_reads tt

  pub partition_reads : (n : ℕ) → AreRead (and_also read (window_reads w)) (class_at w n).partition
  partition_reads n = all_left (λ c. and_also read (window_reads w) c ≡ true) (class_at w n).partition (order_columns (class_at w n)) (class_read n)

  pub order_reads : (n : ℕ) → AreRead (and_also read (window_reads w)) (order_columns (class_at w n))
  order_reads n = all_right (λ c. and_also read (window_reads w) c ≡ true) (class_at w n).partition (order_columns (class_at w n)) (class_read n)

  abbrev ArgumentIsRead : Call → Type 0
  ArgumentIsRead call = AreRead (and_also read (window_reads w)) (option_to_list (argument_of call.function))

  argument_reads : AllByRecursion ArgumentIsRead w.calls
  argument_reads = all_weaken (λ (call : Call). AllByRecursion (λ c. has (flat_map (λ (call : Call). option_to_list (argument_of call.function)) w.calls) c ≡ true) (option_to_list (argument_of call.function))) ArgumentIsRead
      (λ call a. all_weaken (λ c. has (flat_map (λ (call : Call). option_to_list (argument_of call.function)) w.calls) c ≡ true) (λ c. and_also read (window_reads w) c ≡ true) (λ c h. has_also read (window_reads w) c (has_right (flat_map class_columns w.classes) (flat_map (λ (call : Call). option_to_list (argument_of call.function)) w.calls) c h)) (option_to_list (argument_of call.function)) a)
      w.calls (has_each (λ (call : Call). option_to_list (argument_of call.function)) w.calls)

  -- ---- its outcome

  module _ (orderings : List (List ℕ)) where
    call_same : (rows : List Row) (r : ℕ) (call : Call) → ArgumentIsRead call → call_at w (map (mask (and_also read (window_reads w))) rows) orderings r call ≡ call_at w rows orderings r call
    call_same rows r call h = value_read (and_also read (window_reads w)) (class_at w call.class) call.frame call.function (partition_reads call.class) (order_reads call.class) h rows (ordering_at orderings call.class) r

    row_same : (rows : List Row) (r : ℕ) → over (mask read) (extended w (map (mask (and_also read (window_reads w))) rows) orderings r) ≡ over (mask read) (extended w rows orderings r)
    row_same rows r =
        let more = and_also read (window_reads w) in
        let m = mask more in
        let row = row_at rows r in
        let calls : all_ok (map (call_at w (map m rows) orderings r) w.calls) ≡ all_ok (map (call_at w rows orderings r) w.calls) =
        ap all_ok (map_same ArgumentIsRead (call_at w (map m rows) orderings r) (call_at w rows orderings r) (call_same rows r) w.calls argument_reads) in
        let values = all_ok (map (call_at w rows orderings r) w.calls) in
        (λ i. over (mask read) (and_then (calls i) (λ vs. Ok (row_read more rows r i ++ vs))))
        ∙ after_row read (m row) values
        ∙ (λ i. over (λ vs. mask_more read more (also_read read (window_reads w)) row i ++ vs) (over (mask (after (mask_long more row i) read)) values))
        ∙ sym (after_row read row values)

    window_read : (rows : List Row) → AreAlikeOn read (window_outcome w (map (mask (and_also read (window_reads w))) rows) orderings) (window_outcome w rows orderings)
    window_read rows =
        let m = mask (and_also read (window_reads w)) in
        over_rows read (extended w (map m rows) orderings) (positions (length (map m rows)))
        ∙ (λ i. all_ok (map (λ p. row_same rows p i) (positions (length-map rows m i))))
        ∙ sym (over_rows read (extended w rows orderings) (positions (length rows)))

pub window_alike : (read : Read) (n : ℕ) (w : WindowRule) (orderings : List (List ℕ)) (rows others : List Row) → HasWidth n rows → AreSameOn (and_also read (window_reads (read_window false (after n read) w))) rows others → AreAlikeOn read (window_outcome w rows orderings) (window_outcome (read_window false (after n read) w) others orderings)
window_alike read n w orderings rows others wide e =
    let own = read_window false (after n read) w in
    window_swapped read n w orderings rows wide
    ∙ sym (window_read read own orderings rows)
    ∙ ap (λ x. over (map (mask read)) (window_outcome own x orderings)) e
    ∙ window_read read own orderings others

-- lawful orderings of a Window's classes
pub orderings_alike : (read : Read) (w : WindowRule) (orderings : List (List ℕ)) (rows others : List Row) → AreSameOn (and_also read (window_reads w)) rows others → AreOrderings w.classes rows orderings → AreOrderings w.classes others orderings
orderings_alike read w orderings rows others e o = record {
  number = o.number;
  each = λ n h. ordering_alike (and_also read (window_reads w)) (class_at w n) (partition_reads read w n) (order_reads read w n) rows others e (ordering_at orderings n) (o.each n h);
}
