-- A plan of whose columns some are read beside the narrowed one: the same choices are lawful, and what is read is the same.
use Rattle.std.proofs.Common.{◌≡◌, ℕ, zero, suc, ◌+◌, ◌<◌, Bool, true, List, [], ◌∷◌, flat_map, map, length, take, drop, refl, sym, ◌∙◌, ap, subst, arith, Ok, Err}
use Rattle.std.specs.List.{AllByRecursion}
use Rattle.std.proofs.lemmas.Bool.{and_parts}
use Rattle.wd_value.specs.declared.order.SortColumn.{SortColumn}
use Rattle.wd_value.specs.Keys.{key_columns}
use Rattle.wd_value.specs.Rows.{Instance, Row, rows_at}
use Rattle.wd_schema.specs.Meets.{Meets}
use Rattle.wd_schema.specs.Tables.{TableRule}
use Rattle.wd_laws.proofs.Widths.{has_widths}
use Rattle.wd_plan.specs.Choices.{AreLawful, AreOrderings, AreOrderingsOver, AtRows}
use Rattle.wd_plan.specs.Facts.{HasWidth}
use Rattle.wd_plan.specs.Faults.{and_then}
use Rattle.wd_plan.specs.Fits.{fits, width}
use Rattle.wd_plan.specs.Outcomes.{RowsOrFault, class_among, limited_rows, distinct, filter_outcome, group_outcome, join_outcome, map_outcome, ordering_at, outcome, pairs, step_outcome, window_outcome}
use Rattle.wd_plan.specs.Plans.{ClassRule, WindowRule, Step, PlanTree, Scan, Join, Over, Filter, Map, Group, Window, Distinct, Limit, has, ordering_count, own_orderings, step_classes}
use Rattle.wd_plan.specs.Sorting.{IsOrdering, limit_class}
use Rattle.wd_simpler.proofs.Alike.{AreAlikeOn, AreSameOn, alike_every, always, at_alike, every_step, step_alike}
use Rattle.wd_simpler.proofs.Empty.{AreNone, HasNone, no_rows}
use Rattle.wd_simpler.proofs.GivenBack.{GivesBack, all_give}
use Rattle.wd_simpler.proofs.Groups.{group_alike}
use Rattle.wd_simpler.proofs.SortKeys.{classes_stay, cut_keyed, ordering_keyed, ordering_unkeyed, orderings_keyed, orderings_unkeyed, window_keyed}
use Rattle.wd_simpler.specs.Keyed.{keyed_limit, keyed_window}
use Rattle.wd_simpler.proofs.Kept.{AreNoneIn, condition_alike, limit_kept, none_in, window_kept}
use Rattle.wd_simpler.proofs.Known.{all_among}
use Rattle.wd_simpler.proofs.Masks.{mask}
use Rattle.wd_simpler.proofs.Results.{over}
use Rattle.wd_simpler.proofs.Steps.{join_alike, limit_reads, map_alike, pairs_alike, read_keys}
use Rattle.wd_simpler.proofs.Windows.{ordering_alike, orderings_alike}
use Rattle.wd_simpler.proofs.Conditions.{IsAmong}
use Rattle.wd_simpler.specs.Laws.{SimplerIsAlike}
use Rattle.wd_step_facts.specs.Steps.{used}
use Rattle.wd_simpler.specs.Simpler.{Read, after, and_also, condition_reads, every, group_reads, is_empty, is_unmet, kept_reads, narrowed, read_condition, read_group, read_limit, read_outputs, read_window, takes_none, window_reads}
use Rattle.wd_simpler.specs.Numbers.{numbers_of}

-- the orderings stay
pub count_stays : (tables : List TableRule) (plan : PlanTree) (read : Read) → ordering_count (narrowed tables plan read) ≡ ordering_count plan
count_stays tables (Scan table columns) read = refl
count_stays tables (Join condition left right) read =
    let more = and_also read (condition_reads condition) in
    λ i. count_stays tables left more i + count_stays tables right (after (width left) more) i
count_stays tables (Over (Window w) input) read = λ i. count_stays tables input (and_also read (window_reads (read_window (is_empty tables input) (after (width input) read) (keyed_window input w)))) i + classes_stay input w i
count_stays tables (Over step input) read = ap (λ n. n + length (step_classes step)) (count_stays tables input _)

-- a plan and another one under a choice
pub record Narrows (plan other : PlanTree) (read : Read) (instance : Instance) (choice : List (List ℕ)) : Type 0 where
  pub lawful : AreLawful plan instance choice → AreLawful other instance choice
  pub back : AreLawful other instance choice → AreLawful plan instance choice
  pub alike : AreLawful plan instance choice → AreAlikeOn read (outcome plan instance choice) (outcome other instance choice)

-- a fact of the rows, and that there are none where that is known
both_known : (P : List Row → Type 0) (none : Bool) (r : RowsOrFault) → AtRows r P (Unit {0}) → (none ≡ true → HasNone r) → AtRows r (λ rows. P rows × (none ≡ true → AreNone rows)) (Unit {0})
both_known P none (Ok rows) p h = (p, h)
both_known P none (Err fault) p h = tt

-- what is so of the rows, by a fact of them
pub at_known : (G P P' : List Row → Type 0) (Q : Type 0) → ((rows : List Row) → G rows → P rows → P' rows) → (r : RowsOrFault) → AtRows r G (Unit {0}) → AtRows r P Q → AtRows r P' Q
at_known G P P' Q h (Ok rows) g p = h rows g p
at_known G P P' Q h (Err fault) g p = p

-- two steps that give the same of rows of which a fact is known
same_then : (read : Read) (G : List Row → Type 0) (f g : List Row → RowsOrFault) → ((rows : List Row) → G rows → f rows ≡ g rows) → (r : RowsOrFault) → AtRows r G (Unit {0}) → AreAlikeOn read (and_then r f) (and_then r g)
same_then read G f g h (Ok rows) known = ap (over (map (mask read))) (h rows known)
same_then read G f g h (Err fault) known = refl

-- over any input no classes have no orderings
none_over : (r : RowsOrFault) → AreOrderingsOver [] r []
none_over (Ok rows) = record { number = refl; each = λ n h. absurd (omega arith) }
none_over (Err fault) = tt

-- the ordering of one class
one_class : (class other : ClassRule) (rows others : List Row) (own : List (List ℕ)) → (IsOrdering class rows (ordering_at own 0) → IsOrdering other others (ordering_at own 0)) → AreOrderings (class ∷ []) rows own → AreOrderings (other ∷ []) others own
one_class class other rows others own h o = record { number = o.number; each = by }
  where
    by : (n : ℕ) → n < 1 → IsOrdering (class_among (other ∷ []) n) others (ordering_at own n)
    by zero k = h (o.each 0 (omega arith))
    by (suc n) k = absurd (omega arith)

-- the class of a Limit with these keys
abbrev by_keys : List SortColumn → ClassRule
by_keys keys = record { partition = []; order = keys }

-- a step and another one, over plans of which one narrows the other
module _ (instance : Instance) (step other : Step) (input below : PlanTree) (more read : Read) (choice : List (List ℕ)) (narrowing : Narrows input below more instance choice) (count : ordering_count below ≡ ordering_count input) (long : length (step_classes other) ≡ length (step_classes step)) where
  abbrev own : List (List ℕ)
  own = own_orderings step input choice

  own_is : own_orderings other below choice ≡ own
  own_is = λ i. take (long i) (drop (count i) choice)

  over_narrows : (AreLawful input instance choice → AreOrderingsOver (step_classes step) (outcome input instance choice) own → AreOrderingsOver (step_classes other) (outcome below instance choice) own)
      → (AreLawful input instance choice → AreOrderingsOver (step_classes other) (outcome below instance choice) own → AreOrderingsOver (step_classes step) (outcome input instance choice) own)
      → (AreLawful input instance choice → AreOrderingsOver (step_classes step) (outcome input instance choice) own → AreAlikeOn read (and_then (outcome input instance choice) (step_outcome step own)) (and_then (outcome below instance choice) (step_outcome other own)))
      → Narrows (Over step input) (Over other below) read instance choice
  over_narrows to from alike = record {
    lawful = λ a. (narrowing.lawful a.0, subst (AreOrderingsOver (step_classes other) (outcome below instance choice)) (sym own_is) (to a.0 a.1));
    back = λ a. let lawful = narrowing.back a.0 in (lawful, from lawful (subst (AreOrderingsOver (step_classes other) (outcome below instance choice)) own_is a.1));
    alike = λ a. alike a.0 a.1 ∙ ap (λ os. over (map (mask read)) (and_then (outcome below instance choice) (step_outcome other os))) (sym own_is);
  }

module _ (tables : List TableRule) (instance : Instance) (meets : Meets tables instance) where
  -- a step that has no orderings
  over_step : (input other : PlanTree) (more : Read) (choice : List (List ℕ)) (below : Narrows input other more instance choice) (read : Read) (f g : List Row → RowsOrFault) → ((rows others : List Row) → AreSameOn more rows others → AreAlikeOn read (f rows) (g others)) → AreLawful input instance choice → AreAlikeOn read (and_then (outcome input instance choice) f) (and_then (outcome other instance choice) g)
  over_step input other more choice below read f g h lawful = step_alike (λ rows. Unit {0}) more read f g (λ rows others q e. h rows others e) (outcome input instance choice) (outcome other instance choice) (always (outcome input instance choice)) (below.alike lawful)

  pub narrows : (plan : PlanTree) (read : Read) (choice : List (List ℕ)) → fits tables plan ≡ true → Narrows plan (narrowed tables plan read) read instance choice
  narrows (Scan table columns) read choice fit = record { lawful = λ a. a; back = λ a. a; alike = λ a. refl }
  narrows (Join condition left right) read choice fit =
      let fit_sides = and_parts (fits tables left) (fits tables right) (and_parts _ _ fit).0 in
      let columns = width left in
      let more = and_also read (condition_reads condition) in
      let rest = drop (ordering_count left) choice in
      let l = narrows left more choice fit_sides.0 in
      let r = narrows right (after columns more) rest fit_sides.1 in
      let other = narrowed tables right (after columns more) in
      let count : ordering_count (narrowed tables left more) ≡ ordering_count left = count_stays tables left more in
      record {
        lawful = λ a. (l.lawful a.0, subst (λ n. AreLawful other instance (drop n choice)) (sym count) (r.lawful a.1));
        back = λ a. (l.back a.0, r.back (subst (λ n. AreLawful other instance (drop n choice)) count a.1));
        alike = λ a.
            step_alike (HasWidth columns) more read (λ ls. and_then (outcome right instance rest) (λ rs. join_outcome condition (pairs ls rs))) (λ ls. and_then (outcome other instance rest) (λ rs. join_outcome condition (pairs ls rs)))
            (λ ls others wide e. step_alike (λ rows. Unit {0}) (after columns more) read (λ rs. join_outcome condition (pairs ls rs)) (λ rs. join_outcome condition (pairs others rs)) (λ rs rows q f. join_alike read condition (pairs ls rs) (pairs others rows) (pairs_alike columns more ls others rs rows wide e f)) (outcome right instance rest) (outcome other instance rest) (always (outcome right instance rest)) (r.alike a.1))
            (outcome left instance choice) (outcome (narrowed tables left more) instance choice) (has_widths tables left instance choice fit_sides.0 meets a.0) (l.alike a.0)
            ∙ ap (λ n. over (map (mask read)) (and_then (outcome (narrowed tables left more) instance choice) (λ ls. and_then (outcome other instance (drop n choice)) (λ rs. join_outcome condition (pairs ls rs))))) (sym count);
      }
  narrows (Over (Filter condition) input) read choice fit =
      let unmet = is_unmet (numbers_of tables input) condition in
      let own = read_condition unmet condition in
      let more = and_also (kept_reads unmet read) (used own) in
      let fits_below = (and_parts _ _ fit).0 in
      let below = narrows input more choice fits_below in
      over_narrows instance (Filter condition) (Filter own) input (narrowed tables input more) more read choice below (count_stays tables input more) refl (λ a o. none_over _) (λ a o. none_over _)
      (λ a o. step_alike (AllByRecursion (IsAmong (numbers_of tables input))) more read (filter_outcome condition) (filter_outcome own)
      (λ rows others from e. condition_alike read (numbers_of tables input) condition unmet refl rows others from e) (outcome input instance choice) (outcome (narrowed tables input more) instance choice)
      (all_among tables instance meets input choice fits_below a) (below.alike a))
  narrows (Over (Map outputs) input) read choice fit =
      let own = read_outputs read outputs in
      let more = has (flat_map used own) in
      let below = narrows input more choice (and_parts _ _ fit).0 in
      over_narrows instance (Map outputs) (Map own) input (narrowed tables input more) more read choice below (count_stays tables input more) refl (λ a o. none_over _) (λ a o. none_over _)
      (λ a o. over_step input _ more choice below read (map_outcome outputs) (map_outcome own) (map_alike read outputs) a)
  narrows (Over (Group rule) input) read choice fit =
      let own = read_group (after rule.columns read) rule in
      let more = has (group_reads own) in
      let below = narrows input more choice (and_parts _ _ fit).0 in
      over_narrows instance (Group rule) (Group own) input (narrowed tables input more) more read choice below (count_stays tables input more) refl (λ a o. none_over _) (λ a o. none_over _)
      (λ a o. over_step input _ more choice below read (group_outcome rule) (group_outcome own) (group_alike read rule) a)
  narrows (Over (Window w) input) read choice fit =
      let columns = width input in
      let none = is_empty tables input in
      let keyed = keyed_window input w in
      let own = read_window none (after columns read) keyed in
      let more = and_also read (window_reads own) in
      let fits_below = (and_parts _ _ fit).0 in
      let below = narrows input more choice fits_below in
      let given = outcome input instance choice in
      let other = outcome (narrowed tables input more) instance choice in
      let here = own_orderings (Window w) input choice in
      let none_served = AllByRecursion (λ (o : List ℕ). o ≡ []) here in
      let Lawful = λ (v : WindowRule) (rows : List Row). AreOrderings v.classes rows here in
      let gives = λ (a : AreLawful input instance choice). all_give tables instance meets input choice fits_below a in
      over_narrows instance (Window w) (Window own) input (narrowed tables input more) more read choice below (count_stays tables input more) (classes_stay input w)
      (λ a o. at_alike (Lawful keyed) (Lawful own) none_served more (λ rows others e o. orderings_alike read own here rows others e o) given other (below.alike a)
      (at_known (AllByRecursion (GivesBack input)) (Lawful w) (Lawful keyed) none_served (λ rows g o. orderings_keyed input w rows g here o) given (gives a) o))
      (λ a o. at_known (AllByRecursion (GivesBack input)) (Lawful keyed) (Lawful w) none_served (λ rows g o. orderings_unkeyed input w rows g here o) given (gives a)
      (at_alike (Lawful own) (Lawful keyed) none_served more (λ rows others e o. orderings_alike read own here rows others e o) other given (sym (below.alike a)) o))
      (λ a o. same_then read (AllByRecursion (GivesBack input)) (λ rows. window_outcome w rows here) (λ rows. window_outcome keyed rows here) (λ rows g. window_keyed input w rows g here) given (gives a)
      ∙ step_alike (λ rows. HasWidth columns rows × (none ≡ true → AreNone rows)) more read (λ rows. window_outcome keyed rows here) (λ rows. window_outcome own rows here) (λ rows others known e. window_kept none read columns keyed here rows others known.0 known.1 e) given other
      (both_known (HasWidth columns) none given (has_widths tables input instance choice fits_below meets a) (no_rows tables instance meets input choice fits_below a)) (below.alike a))
  narrows (Over Distinct input) read choice fit =
      let below = narrows input every choice (and_parts (fits tables input) true fit).0 in
      over_narrows instance Distinct Distinct input (narrowed tables input every) every read choice below (count_stays tables input every) refl (λ a o. none_over _) (λ a o. none_over _)
      (λ a o. every_step read (λ rows. Ok (distinct rows)) _ _ (below.alike a))
  narrows (Over (Limit limit) input) read choice fit =
      let none = is_empty tables input in
      let keyed = keyed_limit input limit in
      let own = read_limit none keyed in
      let kept = kept_reads (takes_none limit.count) read in
      let more = and_also kept (key_columns keyed.keys) in
      let fits_below = (and_parts _ _ fit).0 in
      let below = narrows input more choice fits_below in
      let given = outcome input instance choice in
      let other = outcome (narrowed tables input more) instance choice in
      let orderings = own_orderings (Limit limit) input choice in
      let here = ordering_at orderings 0 in
      let none_served = AllByRecursion (λ (o : List ℕ). o ≡ []) orderings in
      let Lawful = λ (keys : List SortColumn) (rows : List Row). AreOrderings (by_keys keys ∷ []) rows orderings in
      let keys : own.keys ≡ keyed.keys = read_keys none keyed in
      let lawful_too : (rows others : List Row) → AreSameOn more rows others → Lawful keyed.keys rows → Lawful keyed.keys others =
      λ rows others e. one_class (by_keys keyed.keys) (by_keys keyed.keys) rows others orderings (ordering_alike more (limit_class keyed) tt (limit_reads kept keyed) rows others e here) in
      let gives = λ (a : AreLawful input instance choice). all_give tables instance meets input choice fits_below a in
      let to_keyed : AreLawful input instance choice → AreOrderingsOver (by_keys limit.keys ∷ []) given orderings → AreOrderingsOver (by_keys keyed.keys ∷ []) given orderings =
      λ a o. at_known (AllByRecursion (GivesBack input)) (Lawful limit.keys) (Lawful keyed.keys) none_served (λ rows g. one_class (by_keys limit.keys) (by_keys keyed.keys) rows rows orderings (ordering_keyed input rows g [] limit.keys here)) given (gives a) o in
      over_narrows instance (Limit limit) (Limit own) input (narrowed tables input more) more read choice below (count_stays tables input more) refl
      (λ a o. subst (λ ks. AreOrderingsOver (by_keys ks ∷ []) other orderings) (sym keys) (at_alike (Lawful keyed.keys) (Lawful keyed.keys) none_served more lawful_too given other (below.alike a) (to_keyed a o)))
      (λ a o. at_known (AllByRecursion (GivesBack input)) (Lawful keyed.keys) (Lawful limit.keys) none_served (λ rows g. one_class (by_keys keyed.keys) (by_keys limit.keys) rows rows orderings (ordering_unkeyed input rows g [] limit.keys here)) given (gives a)
      (at_alike (Lawful keyed.keys) (Lawful keyed.keys) none_served more lawful_too other given (sym (below.alike a)) (subst (λ ks. AreOrderingsOver (by_keys ks ∷ []) other orderings) keys o)))
      (λ a o. same_then read (AllByRecursion (GivesBack input)) (λ rows. Ok (limited_rows limit (rows_at rows here))) (λ rows. Ok (limited_rows keyed (rows_at rows here))) (λ rows g. ap (λ x. Ok x) (cut_keyed input rows g limit here)) given (gives a)
      ∙ step_alike (λ rows. none ≡ true → AreNoneIn here rows) more read (λ rows. Ok (limited_rows keyed (rows_at rows here))) (λ rows. Ok (limited_rows own (rows_at rows here))) (λ rows others known e. limit_kept none (takes_none limit.count) read keyed refl here rows others known e) given other
      (none_in (limit_class keyed) orderings none given (no_rows tables instance meets input choice fits_below a) (to_keyed a o)) (below.alike a))

pub simpler_is_alike : SimplerIsAlike
simpler_is_alike tables plan instance fit meets =
    let count = count_stays tables plan every in
    record {
      valid = λ choice. let n = narrows tables instance meets plan every choice fit in (
        (λ v. record { number = v.number ∙ sym count; lawful = n.lawful v.lawful }),
        (λ v. record { number = v.number ∙ count; lawful = n.back v.lawful }),
      );
      same = λ choice v. let n = narrows tables instance meets plan every choice fit in alike_every _ _ (n.alike v.lawful);
    }
