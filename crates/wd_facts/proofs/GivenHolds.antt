-- What plan and schema say of a node's rows is true of them, by induction on the plan; and the given facts of a node hold
-- where its children's kept facts do.
use Rattle.std.proofs.Common.{◌≡◌, ℕ, ◌+◌, ◌-◌, ◌≤◌, Bool, true, false, cond, ◌&&◌, List, [], ◌∷◌, ◌++◌, length, drop, refl, sym, ◌∙◌, ap, subst, arith, nat_lt, Ok, Err, slice_get}
use Rattle.std.specs.List.{AllByRecursion, list_all}
use Rattle.std.proofs.lemmas.Bool.{and_parts, ltb-true, ltb-false, lt-ltb}
use Rattle.wd_value.specs.Rows.{Row as RowValues, Instance, rows_at, table_at}
use Rattle.wd_schema.specs.Meets.{EachMeets}
use Rattle.wd_schema.specs.Tables.{TableRule}
use Rattle.wd_plan.specs.Choices.{AreLawful, AreOrderings, AreOrderingsOver, AtRows}
use Rattle.wd_plan.specs.Facts.{HasWidth, IsNotNullIn}
use Rattle.wd_plan.specs.Faults.{and_then}
use Rattle.wd_plan.specs.Fits.{AreBelow, fits, has_table, is_join, is_narrow, is_step, kinds_of, width}
use Rattle.wd_plan.specs.Outcomes.{RowsOrFault, limited_rows, distinct, group_outcome, join_outcome, ordering_at, outcome, pairs, step_outcome}
use Rattle.wd_plan.specs.Plans.{ClassRule, GroupRule, WindowRule, Step, Filter, Map, Group, Window, Distinct, Limit, PlanTree, Scan, Join, Over, has, step_classes, ordering_count, own_orderings}
use Rattle.wd_plan.specs.declared.window.Call.{Call}
use Rattle.wd_plan.proofs.Ranges.{IsSound, calls_sound, group_parts, has_the_table, kinds_below, table_columns}
use Rattle.wd_step_facts.specs.declared.facts.Member.TheVariants as member
use Rattle.wd_step_facts.specs.Facts.{Fact, Holds, unpaired}
use Rattle.wd_facts.specs.Given.{is_not_null, nullable_keys}
use Rattle.wd_step_facts.specs.Steps.{calls_facts, facts_of_group, group_key_facts, is_call_not_null, is_group_call_not_null}
use Rattle.wd_facts.specs.Laws.{AreKept, ChildrenKeep, GivenFactsHold, GivenHold, InPairs, InRows, Known, KnownHolds, rows_described}
use Rattle.wd_facts.proofs.Embeds.{Embeds-cut, Embeds-distinct, hold_moved, same_facts}
use Rattle.wd_facts.proofs.Groupings.{group_call_not_null, group_kept_hold, group_key_holds, group_not_null, group_wide}
use Rattle.wd_facts.proofs.Lists.{all_append}
use Rattle.wd_facts.proofs.Nodes.{given_among, given_distinct, given_filter, given_join, given_map, given_scan, join_paired, joined, known_distinct, known_filter, known_join, known_limit, known_map, known_scan, pairing}
use Rattle.wd_facts.proofs.Windows.{IsWell, call_not_null, calls_hold, input_keys, input_not_null, out_is, shown_carries, shown_rows, shown_wide}

-- ---- outcomes of a step

at_end : (o : RowsOrFault) (Q : List RowValues → Type 0) → ((ys : List RowValues) → o ≡ Ok ys → Q ys) → AtRows o Q (Unit {0})
at_end (Ok ys) Q h = h ys refl
at_end (Err f) Q h = tt

at_step : (a : RowsOrFault) (f : List RowValues → RowsOrFault) (P Q : List RowValues → Type 0) → AtRows a P (Unit {0}) → ((xs ys : List RowValues) → a ≡ Ok xs → P xs → f xs ≡ Ok ys → Q ys) → AtRows (and_then a f) Q (Unit {0})
at_step (Ok xs) f P Q h g = at_end (f xs) Q (λ ys e. g xs ys refl h e)
at_step (Err d) f P Q h g = tt

at_rows : (o : RowsOrFault) (rows : List RowValues) (P : List RowValues → Type 0) (Q : Type 0) → o ≡ Ok rows → AtRows o P Q → P rows
at_rows o rows P Q e h = let family : RowsOrFault → Type 0 = λ v. AtRows v P Q in subst family e h

at_map : (o : RowsOrFault) (P Q : List RowValues → Type 0) → AtRows o P (Unit {0}) → ((rows : List RowValues) → o ≡ Ok rows → P rows → Q rows) → AtRows o Q (Unit {0})
at_map (Ok rows) P Q h g = g rows refl h
at_map (Err f) P Q h g = tt

rows_are : (xs ys : List RowValues) → ◌≡◌ {A = RowsOrFault} (Ok xs) (Ok ys) → xs ≡ ys
rows_are xs ys e = cc

-- ---- Windows

wider : (a b : ℕ) → a ≤ b → (X : List ℕ) → AreBelow a X → AreBelow b X
wider a b h [] e = refl
wider a b h (c ∷ X) e =
    let parts = and_parts (nat_lt c a) (list_all (λ c. nat_lt c a) X) e in
    let l = ltb-true c a parts.0 in
    λ i. lt-ltb c b (omega arith) i && wider a b h X parts.1 i

all_wider : (a b : ℕ) → a ≤ b → (keys : List (List ℕ)) → AllByRecursion (AreBelow a) keys → AllByRecursion (AreBelow b) keys
all_wider a b h [] e = tt
all_wider a b h (X ∷ keys) e = (wider a b h X e.0, all_wider a b h keys e.1)

module _ (tables : List TableRule) (w : WindowRule) (input : PlanTree) (rows : List RowValues) (os : List (List ℕ)) (known : Known tables input rows) where
  shown_not_null : (c : ℕ) (b : Bool) → nat_lt c (width input) ≡ b → cond b (is_not_null tables input c) (is_call_not_null (slice_get w.calls (c - width input))) ≡ true → IsNotNullIn (shown_rows w rows os) c
  shown_not_null c true h e = input_not_null w rows os (width input) known.wide c (ltb-true c (width input) h) (known.not_null c e)
  shown_not_null c false h e =
      let f = ltb-false c (width input) h in
      let d : width input + (c - width input) ≡ c = omega arith in
      subst (IsNotNullIn (shown_rows w rows os)) d (call_not_null w rows os (width input) known.wide (c - width input) e)

  known_window : Known tables (Over (Window w) input) (shown_rows w rows os)
  known_window = record {
    wide = shown_wide w rows os (width input) known.wide;
    not_null = λ c e. shown_not_null c (nat_lt c (width input)) refl e;
    keys = input_keys w rows os (width input) known.wide (nullable_keys tables input) known.range known.keys;
    range = all_wider (width input) (width input + length w.calls) (omega arith) (nullable_keys tables input) known.range;
  }

  given_window : (kept : List Fact) → AreKept (width input) kept rows → AreOrderings w.classes rows os → AllByRecursion (IsWell w rows os (width input) known.wide) w.calls → AllByRecursion (Holds (unpaired (shown_rows w rows os))) (kept ++ calls_facts w (width input) w.calls)
  given_window kept k valid well =
      all_append (Holds (unpaired (shown_rows w rows os))) kept (calls_facts w (width input) w.calls)
      (subst (AllByRecursion (Holds (unpaired (shown_rows w rows os)))) (same_facts kept) (hold_moved rows (unpaired (shown_rows w rows os)) (λ c. c) member.Row (width input) (shown_carries w rows os (width input) known.wide) kept k.named k.hold))
      (calls_hold w rows os (width input) known.wide valid well)

all_well : (tables : List TableRule) (input : PlanTree) (f : fits tables input ≡ true) (w : WindowRule) (rows : List RowValues) (os : List (List ℕ)) (wide : HasWidth (width input) rows) (calls : List Call) → AllByRecursion (IsSound (kinds_of tables input) (width input) (kinds_below tables input f) w) calls → AllByRecursion (IsWell w rows os (width input) wide) calls
all_well tables input f w rows os wide [] a = tt
all_well tables input f w rows os wide (call ∷ calls) a = (record { names = a.0.names; in_partition = a.0.in_partition; in_order = a.0.in_order }, all_well tables input f w rows os wide calls a.1)

-- ---- Groups

module _ (tables : List TableRule) (g : GroupRule) (input : PlanTree) (xs ys : List RowValues) (known : Known tables input xs) (is : group_outcome g xs ≡ Ok ys) where
  grouped_not_null : (c : ℕ) (b : Bool) → nat_lt c g.columns ≡ b → cond b (is_not_null tables input c && list_all (λ set. has set c) g.sets) (is_group_call_not_null (slice_get g.calls (c - g.columns))) ≡ true → IsNotNullIn ys c
  grouped_not_null c true h e =
      let parts = and_parts (is_not_null tables input c) (list_all (λ set. has set c) g.sets) e in
      group_not_null g xs ys is c (ltb-true c g.columns h) (known.not_null c parts.0) parts.1
  grouped_not_null c false h e =
      let f = ltb-false c g.columns h in
      let d : g.columns + (c - g.columns) ≡ c = omega arith in
      subst (IsNotNullIn ys) d (group_call_not_null g xs ys is (c - g.columns) e)

  known_group : Known tables (Over (Group g) input) ys
  known_group = record { wide = group_wide g xs ys is; not_null = λ c e. grouped_not_null c (nat_lt c g.columns) refl e; keys = tt; range = tt }

-- ---- what plan and schema say

module _ (tables : List TableRule) where
  -- of a step's rows, from what they say of its input's
  known_step : (step : Step) (input : PlanTree) (os : List (List ℕ)) (xs ys : List RowValues) → AreOrderings (step_classes step) xs os → Known tables input xs → step_outcome step os xs ≡ Ok ys → Known tables (Over step input) ys
  known_step (Filter condition) input os xs ys v k is = known_filter tables condition input xs ys k is
  known_step (Map outputs) input os xs ys v k is = known_map tables outputs input xs ys k is
  known_step (Group g) input os xs ys v k is = known_group tables g input xs ys k is
  known_step (Window w) input os xs ys v k is = subst (Known tables (Over (Window w) input)) (sym (out_is w xs os ys is)) (known_window tables w input xs os k)
  known_step Distinct input os xs ys v k is = subst (Known tables (Over Distinct input)) (rows_are (distinct xs) ys is) (known_distinct tables input xs (distinct xs) (Embeds-distinct xs) k)
  known_step (Limit limit) input os xs ys v k is =
      let ordering = ordering_at os 0 in
      subst (Known tables (Over (Limit limit) input)) (rows_are (limited_rows limit (rows_at xs ordering)) ys is) (known_limit tables input xs (limited_rows limit (rows_at xs ordering)) (Embeds-cut limit xs ordering (v.each 0 (omega arith)).once) k limit)

  -- the orderings of a step over rows
  orderings_at : (o : RowsOrFault) (rows : List RowValues) (classes : List ClassRule) (os : List (List ℕ)) → o ≡ Ok rows → AreOrderingsOver classes o os → AreOrderings classes rows os
  orderings_at o rows classes os e v = at_rows o rows (λ rows. AreOrderings classes rows os) (AllByRecursion (λ o. o ≡ []) os) e v

  known : (plan : PlanTree) (instance : Instance) (choice : List (List ℕ)) → fits tables plan ≡ true → AreLawful plan instance choice → EachMeets tables instance → AtRows (outcome plan instance choice) (Known tables plan) (Unit {0})
  known (Scan table columns) instance choice f l m =
      let parts = and_parts (is_narrow columns) (has_table tables table columns) f in
      let t = has_the_table tables table columns parts.1 in
      known_scan tables table columns t.0 t.1 (table_columns tables table columns t.0 t.1 parts.1) (table_at instance table) (m table t.0 t.1)
  known (Join condition left right) instance choice f l m =
      let plan = Join condition left right in
      let c2 = drop (ordering_count left) choice in
      let fitting = and_parts (fits tables left) (fits tables right) (and_parts (fits tables left && fits tables right) (is_join (kinds_of tables plan) (width left + width right) condition) f).0 in
      at_step (outcome left instance choice) (λ ls. and_then (outcome right instance c2) (λ rs. join_outcome condition (pairs ls rs))) (Known tables left) (Known tables plan)
      (known left instance choice fitting.0 l.0 m)
      (λ ls ys e k is. at_rows (and_then (outcome right instance c2) (λ rs. join_outcome condition (pairs ls rs))) ys (Known tables plan) (Unit {0}) is
      (at_step (outcome right instance c2) (λ rs. join_outcome condition (pairs ls rs)) (Known tables right) (Known tables plan)
      (known right instance c2 fitting.1 l.1 m)
      (λ rs zs e' k' is'. known_join tables condition left right ls rs zs k k' (joined condition ls rs zs is'))))
  known (Over step input) instance choice f l m =
      let os = own_orderings step input choice in
      at_step (outcome input instance choice) (step_outcome step os) (Known tables input) (Known tables (Over step input))
      (known input instance choice (and_parts (fits tables input) (is_step (kinds_of tables input) (width input) step) f).0 l.0 m)
      (λ xs ys e k is. known_step step input os xs ys (orderings_at (outcome input instance choice) xs (step_classes step) os e l.1) k is)

  -- ---- the given facts

  -- of a step, in the rows that they are about
  given_step : (step : Step) (input : PlanTree) (f : fits tables input ≡ true) (os : List (List ℕ)) (kept more : List Fact) (xs ys : List RowValues) → is_step (kinds_of tables input) (width input) step ≡ true → AreOrderings (step_classes step) xs os → Known tables input xs → AreKept (width input) kept xs → step_outcome step os xs ≡ Ok ys
      → InRows tables (Over step input) kept more (rows_described step ys xs)
  given_step (Filter condition) input f os kept more xs ys g v known k is = given_filter tables condition input xs ys known is kept more k
  given_step (Map outputs) input f os kept more xs ys g v known k is = given_map tables outputs input xs ys known is kept more k
  given_step (Group rule) input f os kept more xs ys g v known k is =
      all_append (Holds (unpaired ys)) (group_key_facts rule) (facts_of_group rule kept) (group_key_holds rule xs ys is)
      (group_kept_hold rule xs ys is (group_parts (kinds_of tables input) (width input) rule g).each kept k.hold)
  given_step (Window w) input f os kept more xs ys g v known k is =
      let calls = calls_sound (kinds_of tables input) (width input) (kinds_below tables input f) w g in
      subst (InRows tables (Over (Window w) input) kept more) (sym (out_is w xs os ys is)) (given_window tables w input xs os known kept k v (all_well tables input f w xs os known.wide w.calls calls))
  given_step Distinct input f os kept more xs ys g v known k is = subst (InRows tables (Over Distinct input) kept more) (rows_are (distinct xs) ys is) (given_distinct tables input xs kept more known k)
  given_step (Limit limit) input f os kept more xs ys g v known k is =
      let ordering = ordering_at os 0 in
      let among = Embeds-cut limit xs ordering (v.each 0 (omega arith)).once in
      subst (InRows tables (Over (Limit limit) input) kept more) (rows_are (limited_rows limit (rows_at xs ordering)) ys is) (given_among tables input xs (limited_rows limit (rows_at xs ordering)) among known kept k)

  -- what is known of an input's rows, with what it keeps
  abbrev Both : PlanTree → List Fact → List RowValues → Type 0
  Both input kept rows = Known tables input rows × AreKept (width input) kept rows

  both : (input : PlanTree) (instance : Instance) (choice : List (List ℕ)) (kept : List Fact) → fits tables input ≡ true → AreLawful input instance choice → EachMeets tables instance → AtRows (outcome input instance choice) (AreKept (width input) kept) (Unit {0}) → AtRows (outcome input instance choice) (Both input kept) (Unit {0})
  both input instance choice kept f l m a = at_map (outcome input instance choice) (AreKept (width input) kept) (Both input kept) a (λ rows e k. (at_rows (outcome input instance choice) rows (Known tables input) (Unit {0}) e (known input instance choice f l m), k))

  given_hold : (plan : PlanTree) (instance : Instance) (choice : List (List ℕ)) (kept more : List Fact) → fits tables plan ≡ true → AreLawful plan instance choice → EachMeets tables instance → ChildrenKeep plan instance choice kept more → GivenHold tables plan instance choice kept more
  given_hold (Scan table columns) instance choice kept more f l m a =
      let parts = and_parts (is_narrow columns) (has_table tables table columns) f in
      let t = has_the_table tables table columns parts.1 in
      given_scan tables table columns t.0 t.1 (table_columns tables table columns t.0 t.1 parts.1) (table_at instance table) (m table t.0 t.1)
  given_hold (Over step input) instance choice kept more f l m a =
      let plan = Over step input in
      let os = own_orderings step input choice in
      let fitting = and_parts (fits tables input) (is_step (kinds_of tables input) (width input) step) f in
      at_map (outcome input instance choice) (Both input kept) (λ ins. AtRows (outcome plan instance choice) (λ outs. InRows tables plan kept more (rows_described step outs ins)) (Unit {0}))
      (both input instance choice kept fitting.0 l.0 m a)
      (λ xs e k. at_end (outcome plan instance choice) (λ outs. InRows tables plan kept more (rows_described step outs xs)) (λ ys is.
      given_step step input fitting.0 os kept more xs ys fitting.1 (orderings_at (outcome input instance choice) xs (step_classes step) os e l.1) k.0 k.1 (ap (λ o. and_then o (step_outcome step os)) (sym e) ∙ is)))
  given_hold (Join condition left right) instance choice kept more f l m a =
      let plan = Join condition left right in
      let c2 = drop (ordering_count left) choice in
      let fitting = and_parts (fits tables left) (fits tables right) (and_parts (fits tables left && fits tables right) (is_join (kinds_of tables plan) (width left + width right) condition) f).0 in
      at_map (outcome left instance choice) (Both left kept) (λ ls. AtRows (outcome right instance c2) (λ rs. AtRows (outcome plan instance choice) (InPairs tables plan kept more ls rs) (Unit {0})) (Unit {0}))
      (both left instance choice kept fitting.0 l.0 m a.0) (λ ls e k.
      at_map (outcome right instance c2) (Both right more) (λ rs. AtRows (outcome plan instance choice) (InPairs tables plan kept more ls rs) (Unit {0}))
      (both right instance c2 more fitting.1 l.1 m a.1) (λ rs e' k'.
      at_end (outcome plan instance choice) (InPairs tables plan kept more ls rs) (λ ys is.
      (let here : join_outcome condition (pairs ls rs) ≡ Ok ys = (λ i. and_then (sym e i) (λ ls'. and_then (sym e' i) (λ rs'. join_outcome condition (pairs ls' rs')))) ∙ is in
      let join = joined condition ls rs ys here in
      let pairs_here = pairing tables condition left right ls rs ys k.0 k'.0 join in (
        join_paired tables condition left right ls rs ys k.0 k'.0 join,
        refl,
        record { left_within = pairs_here.left_within; right_within = pairs_here.right_within; is = pairs_here.is; apart = pairs_here.apart },
        given_join tables condition left right ls rs ys k.0 k'.0 join kept more k.1 k'.1,
      )))))

pub known_holds : KnownHolds
known_holds tables plan instance choice f m l = known tables plan instance choice f l m.tables

pub given_facts_hold : GivenFactsHold
given_facts_hold tables plan instance choice kept more f m l a = given_hold tables plan instance choice kept more f l m.tables a
