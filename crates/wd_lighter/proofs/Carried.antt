-- A plan beside the simpler one: over both the same choices are sorted, and their steps have as many rows.
use Rattle.std.proofs.Common.{◌≡◌, ℕ, zero, suc, ◌+◌, ◌<◌, ◌≤◌, true, ◌||◌, List, [], ◌∷◌, flat_map, length, take, drop, refl, sym, ◌∙◌, ap, subst, arith, length-drop, Option}
use Rattle.std.specs.List.{AllByRecursion}
use Rattle.std.proofs.lemmas.Bool.{and_parts}
use Rattle.std.proofs.lemmas.List.{get_or-drop, get_or-take}
use Rattle.wd_value.specs.Keys.{key_columns}
use Rattle.wd_value.specs.Rows.{Instance}
use Rattle.wd_schema.specs.Meets.{Meets}
use Rattle.wd_schema.specs.Tables.{TableRule}
use Rattle.wd_plan.specs.Choices.{AreLawful}
use Rattle.wd_plan.specs.Fits.{fits, width}
use Rattle.wd_plan.specs.Outcomes.{class_among, class_at, ordering_at, outcome}
use Rattle.wd_plan.specs.Plans.{ClassRule, Step, PlanTree, Scan, Join, Over, Filter, Map, Group, Window, Distinct, Limit, has, limit_class, ordering_count, own_orderings, step_classes}
use Rattle.wd_partition.specs.declared.turn.Turn.{Turn}
use Rattle.wd_eval.specs.Steps.{has_large_step}
use Rattle.wd_eval.specs.Tied.{AreTied, IsSortedOrdering, IsSortedOver, turn_of}
use Rattle.wd_eval.specs.declared.turned.Turned.{Turned}
use Rattle.wd_eval.proofs.Lawful.{tied_lawful}
use Rattle.wd_simpler.proofs.Alike.{AreAlikeOn, alike_every}
use Rattle.wd_simpler.proofs.GivenBack.{GivesBack, all_give}
use Rattle.wd_simpler.proofs.Plans.{at_known, count_stays, narrows}
use Rattle.wd_simpler.proofs.SortKeys.{at_keyed, classes_stay}
use Rattle.wd_simpler.proofs.Steps.{limit_reads, read_keys}
use Rattle.wd_simpler.proofs.Windows.{order_reads, partition_reads}
use Rattle.wd_simpler.specs.Keyed.{keyed_class, keyed_limit, keyed_window}
use Rattle.wd_simpler.specs.Numbers.{numbers_of}
use Rattle.wd_simpler.specs.Simpler.{Read, after, and_also, condition_reads, every, group_reads, is_empty, is_unmet, kept_reads, narrowed, read_condition, read_group, read_limit, read_outputs, read_window, simpler, takes_none, window_reads}
use Rattle.wd_step_facts.specs.Steps.{used}
use Rattle.wd_lighter.specs.Lighter.{IsLighter}
use Rattle.wd_lighter.proofs.Sorts.{over_alike, same_size, sorted_unkeyed}

-- ---- a plan and the narrowed one under a choice

record Carries (plan other : PlanTree) (instance : Instance) (choice : List (List ℕ)) : Type 0 where
  tied : (turned : Option Turned) (first : ℕ) → AreTied other instance turned first choice → AreTied plan instance turned first choice
  large : has_large_step plan instance choice ≡ has_large_step other instance choice

-- a step and another one, over plans of which one carries what the other does
module _ (instance : Instance) (choice : List (List ℕ)) (step other : Step) (input below : PlanTree) (read : Read) (carried : Carries input below instance choice) (count : ordering_count below ≡ ordering_count input) (long : length (step_classes other) ≡ length (step_classes step)) where
  abbrev IsSortedHere : ClassRule → PlanTree → Turn → List ℕ → Type 0
  IsSortedHere class plan turn ordering = IsSortedOver class turn (outcome plan instance choice) ordering

  step_carries : ((n : ℕ) (turn : Turn) (ordering : List ℕ) → n < length (step_classes step) → IsSortedHere (class_among (step_classes other) n) below turn ordering → IsSortedHere (class_among (step_classes step) n) input turn ordering)
      → AreAlikeOn read (outcome (Over step input) instance choice) (outcome (Over other below) instance choice) → Carries (Over step input) (Over other below) instance choice
  step_carries back alike = record {
    tied = λ turned first s. (
      carried.tied turned first s.0,
      λ n h. back n (turn_of turned (first + ordering_count input + n)) (ordering_at choice (ordering_count input + n)) h
          (subst (λ k. IsSortedHere (class_among (step_classes other) n) below (turn_of turned (first + k + n)) (ordering_at choice (k + n))) count (s.1 n (subst (λ k. n < k) (sym long) h))),
    );
    large = λ i. carried.large i || same_size read (outcome (Over step input) instance choice) (outcome (Over other below) instance choice) alike i;
  }

module _ (tables : List TableRule) (instance : Instance) (meets : Meets tables instance) where
  carries : (plan : PlanTree) (read : Read) (choice : List (List ℕ)) → fits tables plan ≡ true → AreLawful plan instance choice → Carries plan (narrowed tables plan read) instance choice
  carries (Scan table columns) read choice fit a = record { tied = λ turned first s. s; large = refl }
  carries (Join condition left right) read choice fit a =
      let fit_sides = and_parts (fits tables left) (fits tables right) (and_parts _ _ fit).0 in
      let columns = width left in
      let more = and_also read (condition_reads condition) in
      let n = ordering_count left in
      let other = narrowed tables right (after columns more) in
      let l = carries left more choice fit_sides.0 a.0 in
      let r = carries right (after columns more) (drop n choice) fit_sides.1 a.1 in
      let count : ordering_count (narrowed tables left more) ≡ n = count_stays tables left more in
      let later : has_large_step right instance (drop n choice) ≡ has_large_step other instance (drop (ordering_count (narrowed tables left more)) choice) = r.large ∙ ap (λ k. has_large_step other instance (drop k choice)) (sym count) in
      let alike = (narrows tables instance meets (Join condition left right) read choice fit).alike a in
      record {
        tied = λ turned first s. (l.tied turned first s.0, r.tied turned (first + n) (subst (λ k. AreTied other instance turned (first + k) (drop k choice)) count s.1));
        large = λ i. (l.large i || later i) || same_size read (outcome (Join condition left right) instance choice) (outcome (narrowed tables (Join condition left right) read) instance choice) alike i;
      }
  carries (Over (Filter condition) input) read choice fit a =
      let unmet = is_unmet (numbers_of tables input) condition in
      let own = read_condition unmet condition in
      let more = and_also (kept_reads unmet read) (used own) in
      step_carries instance choice (Filter condition) (Filter own) input (narrowed tables input more) read (carries input more choice (and_parts _ _ fit).0 a.0) (count_stays tables input more) refl (λ n turn ordering h s. absurd (omega arith))
      ((narrows tables instance meets (Over (Filter condition) input) read choice fit).alike a)
  carries (Over (Map outputs) input) read choice fit a =
      let own = read_outputs read outputs in
      let more = has (flat_map used own) in
      step_carries instance choice (Map outputs) (Map own) input (narrowed tables input more) read (carries input more choice (and_parts _ _ fit).0 a.0) (count_stays tables input more) refl (λ n turn ordering h s. absurd (omega arith))
      ((narrows tables instance meets (Over (Map outputs) input) read choice fit).alike a)
  carries (Over (Group rule) input) read choice fit a =
      let own = read_group (after rule.columns read) rule in
      let more = has (group_reads own) in
      step_carries instance choice (Group rule) (Group own) input (narrowed tables input more) read (carries input more choice (and_parts _ _ fit).0 a.0) (count_stays tables input more) refl (λ n turn ordering h s. absurd (omega arith))
      ((narrows tables instance meets (Over (Group rule) input) read choice fit).alike a)
  carries (Over (Window w) input) read choice fit a =
      let keyed = keyed_window input w in
      let own = read_window (is_empty tables input) (after (width input) read) keyed in
      let more = and_also read (window_reads own) in
      let fits_below = (and_parts _ _ fit).0 in
      let given = outcome input instance choice in
      let other = outcome (narrowed tables input more) instance choice in
      let alike = (narrows tables instance meets input more choice fits_below).alike a.0 in
      step_carries instance choice (Window w) (Window own) input (narrowed tables input more) read (carries input more choice fits_below a.0) (count_stays tables input more) (classes_stay input w)
      (λ n turn ordering h s. (
      let class = class_at w n in
      at_keyed (λ c. IsSortedOver c turn given ordering) input w n
      (at_known (AllByRecursion (GivesBack input)) (λ rows. IsSortedOrdering (keyed_class input class) turn rows ordering) (λ rows. IsSortedOrdering class turn rows ordering) (ordering ≡ []) (sorted_unkeyed input class turn ordering) given (all_give tables instance meets input choice fits_below a.0))
      (over_alike more (class_at own n) (partition_reads read own n) (order_reads read own n) turn ordering other given (sym alike) s)))
      ((narrows tables instance meets (Over (Window w) input) read choice fit).alike a)
  carries (Over Distinct input) read choice fit a =
      step_carries instance choice Distinct Distinct input (narrowed tables input every) read (carries input every choice (and_parts (fits tables input) true fit).0 a.0) (count_stays tables input every) refl (λ n turn ordering h s. absurd (omega arith))
      ((narrows tables instance meets (Over Distinct input) read choice fit).alike a)
  carries (Over (Limit limit) input) read choice fit a =
      let keyed = keyed_limit input limit in
      let own = read_limit (is_empty tables input) keyed in
      let kept = kept_reads (takes_none limit.count) read in
      let more = and_also kept (key_columns keyed.keys) in
      let fits_below = (and_parts _ _ fit).0 in
      let given = outcome input instance choice in
      let other = outcome (narrowed tables input more) instance choice in
      let alike = (narrows tables instance meets input more choice fits_below).alike a.0 in
      let keys : own.keys ≡ keyed.keys = read_keys (is_empty tables input) keyed in
      step_carries instance choice (Limit limit) (Limit own) input (narrowed tables input more) read (carries input more choice fits_below a.0) (count_stays tables input more) refl
      (λ n turn ordering h s. only n h (λ m. IsSortedOver (class_among (limit_class limit ∷ []) m) turn given ordering)
      (at_known (AllByRecursion (GivesBack input)) (λ rows. IsSortedOrdering (limit_class keyed) turn rows ordering) (λ rows. IsSortedOrdering (limit_class limit) turn rows ordering) (ordering ≡ []) (sorted_unkeyed input (limit_class limit) turn ordering) given (all_give tables instance meets input choice fits_below a.0)
      (over_alike more (limit_class keyed) tt (limit_reads kept keyed) turn ordering other given (sym alike)
      (subst (λ ks. IsSortedOver (record { partition = []; order = ks }) turn other ordering) keys (first n h (λ m. IsSortedOver (class_among (limit_class own ∷ []) m) turn other ordering) s)))))
      ((narrows tables instance meets (Over (Limit limit) input) read choice fit).alike a)
    where
      -- a Limit has one ordering
      only : (n : ℕ) → n < 1 → (P : ℕ → Type 0) → P 0 → P n
      only zero h P p = p
      only (suc n) h P p = absurd (omega arith)

      first : (n : ℕ) → n < 1 → (P : ℕ → Type 0) → P n → P 0
      first zero h P p = p
      first (suc n) h P p = absurd (omega arith)

-- ---- the laws

pub simpler_is_lighter : (tables : List TableRule) (plan : PlanTree) → fits tables plan ≡ true → fits tables (simpler tables plan) ≡ true → IsLighter tables plan (simpler tables plan)
simpler_is_lighter tables plan fit fitting =
    let count = count_stays tables plan every in
    record {
      fitting = fitting;
      orderings = count;
      alike = λ instance meets. (
          let narrow = λ (choice : List (List ℕ)). narrows tables instance meets plan every choice fit in
          record {
            valid = λ turned choice v. (
                let lawful = (narrow choice).back v.valid.lawful in
                let c = carries tables instance meets plan every choice fit lawful in
                record {
                  tied = record { number = v.tied.number ∙ count; tied = c.tied turned 0 v.tied.tied };
                  valid = record { number = v.valid.number ∙ count; lawful = lawful };
                  small = c.large ∙ v.small;
                });
            same = λ turned choice v. alike_every _ _ ((narrow choice).alike ((narrow choice).back v.valid.lawful));
            large = λ turned l. (
                let number = l.tied.number in
                let lawful = (narrow l.choice).back (tied_lawful instance turned (simpler tables plan) 0 l.choice (omega arith) l.tied.tied) in
                let c = carries tables instance meets plan every l.choice fit lawful in
                record { choice = l.choice; tied = record { number = number ∙ count; tied = c.tied turned 0 l.tied.tied }; large = c.large ∙ l.large });
          });
    }

-- a plan is as light as itself
pub itself : (tables : List TableRule) (plan : PlanTree) → fits tables plan ≡ true → IsLighter tables plan plan
itself tables plan fit = record { fitting = fit; orderings = refl; alike = λ instance meets. record { valid = λ turned choice v. v; same = λ turned choice v. refl; large = λ turned l. l } }
