-- An entry that is made of what columns give is not refused where its rules are not.
use Rattle.std.proofs.Common.{◌≡◌, ℕ, zero, suc, ◌+◌, true, ◌&&◌, List, [], ◌∷◌, ◌++◌, map, length, slice_get, refl, sym, ◌∙◌, ap, arith, subst, Option, Some, None}
use Rattle.std.specs.List.{AllByRecursion}
use Rattle.std.proofs.lemmas.Bool.{false≢true}
use Rattle.wd_plan.specs.Fits.{width}
use Rattle.wd_plan.specs.Plans.{LimitRule, PlanTree, Over, WindowRule, Limit, Window}
use Rattle.wd_plan.specs.Sorting.{class_columns, limit_class, order_columns}
use Rattle.wd_plan.specs.declared.window.Call.{Call}
use Rattle.wd_certificate.specs.declared.certificate.Rule.{Rule}
use Rattle.wd_certificate.specs.declared.error.CertError.TheVariants.{UnjustifiedLimit}
use Rattle.wd_step_facts.specs.Facts.{FactList, columns_named}
use Rattle.wd_step_facts.specs.Steps.{all_columns}
use Rattle.wd_facts.proofs.Lists.{all_append}
use Rattle.wd_sets.specs.Sets.{is_in}
use Rattle.wd_rules.specs.Rules.{claims_refusal, entry_refusal, is_whole_or_ties, kept_facts, or_else, refuse_unless, refuse_unless_shown, rules_refusal, shows}
use Rattle.wd_rules.specs.Traces.{Traced}
use Rattle.wd_analyse.specs.Decisions.{all_by, decide_of, decided_calls, missing_of, next_exchange, rules_in}
use Rattle.wd_analyse.specs.declared.decided.Decided.{Decided}
use Rattle.wd_analyse.specs.declared.decided.Decided.TheVariants.{By, Open}
use Rattle.wd_analyse.specs.Entry.{entry_by}
use Rattle.wd_analyse.specs.Evidence.{Closing, IsClosing, trace_by}
use Rattle.wd_analyse.specs.Kept.{kept_fact}
use Rattle.wd_analyse.proofs.Valid.{IsClaim}
use Rattle.wd_analyse.proofs.Keeps.{keep_passes, kept_are}
use Rattle.wd_analyse.proofs.RulesPass.{all_among, evidence, none_missing, window_passes}
use Rattle.wd_analyse.proofs.Traces.{are_traced, each_reached, shown}

pub map_append : {X Y : Type 0} (f : X → Y) (xs ys : List X) → map f (xs ++ ys) ≡ map f xs ++ map f ys
map_append f [] ys = refl
map_append f (x ∷ xs) ys = ap (λ l. f x ∷ l) (map_append f xs ys)

-- an element after a front
get_there : {X Y : Type 0} (f : X → Y) (ys : List X) (i : ℕ) (y : X) → slice_get ys i ≡ Some y → slice_get (map f ys) i ≡ Some (f y)
get_there f [] i y e = cc
get_there f (x ∷ ys) zero y e = let g : x ≡ y = cc in ap (λ t. Some (f t)) g
get_there f (x ∷ ys) (suc i) y e = get_there f ys i y e

get_after : {X Y : Type 0} (f : X → Y) (front ys : List X) (i : ℕ) (y : X) → slice_get ys i ≡ Some y → slice_get (map f (front ++ ys)) (length front + i) ≡ Some (f y)
get_after f [] ys i y e = let s : 0 + i ≡ i = omega arith in ap (slice_get (map f ys)) s ∙ get_there f ys i y e
get_after f (x ∷ front) ys i y e =
    let s : suc (length front) + i ≡ suc (length front + i) = omega arith in
    ap (slice_get (map f (x ∷ (front ++ ys)))) s ∙ get_after f front ys i y e

are_closings : (facts : FactList) (width : ℕ) (cs : List Closing) → AllByRecursion (IsClaim facts width) cs → AllByRecursion (IsClosing facts) cs
are_closings facts width [] a = tt
are_closings facts width (c ∷ cs) a = (a.0.closing, are_closings facts width cs a.1)

module _ (node : ℕ) (facts : FactList) (plan : PlanTree) (kept others : List Closing) (calls : List Rule) (limit : Option ℕ) (claims : AllByRecursion (IsClaim facts (width plan)) kept) (closings : AllByRecursion (IsClosing facts) others) where
  abbrev all : List Traced
  all = map (shown node facts) (kept ++ others)

  pub entry_passes : rules_refusal (evidence node facts all) plan (entry_by (width plan) kept others calls limit) ≡ None → entry_refusal node facts plan (entry_by (width plan) kept others calls limit) ≡ None
  entry_passes rules =
      let entry = entry_by (width plan) kept others calls limit in
      let traced = are_traced node facts (kept ++ others) (all_append (IsClosing facts) kept others (are_closings facts (width plan) kept claims) closings) in
      let keep = keep_passes node facts (width plan) all 0 kept (map (shown node facts) others) claims (map_append (shown node facts) kept others) in
      ap (claims_refusal node facts plan entry) traced ∙ (λ i. or_else (keep i) (rules i))

-- what such an entry keeps
pub entry_keeps : (facts : FactList) (width : ℕ) (kept others : List Closing) (calls : List Rule) (limit : Option ℕ) → kept_facts (entry_by width kept others calls limit) ≡ map (kept_fact width) kept
entry_keeps facts width kept others calls limit = kept_are width (map trace_by (kept ++ others)) 0 kept (map trace_by others) (map_append trace_by kept others)

-- ---- calls

module _ (node : ℕ) (facts : FactList) (w : WindowRule) (input : PlanTree) (kept classes : List Closing) (claims : AllByRecursion (IsClaim facts (width (Over (Window w) input))) kept) (closings : AllByRecursion (IsClosing facts) classes) (froms : map (λ (c : Closing). c.from) classes ≡ map class_columns w.classes) where
  abbrev decided : List Decided
  decided = decided_calls classes (length kept) (width input) None w.calls

  pub window_entry : (all_by decided ≡ true) → entry_refusal node facts (Over (Window w) input) (entry_by (width (Over (Window w) input)) kept classes (rules_in decided) None) ≡ None
  window_entry e =
      entry_passes node facts (Over (Window w) input) kept classes (rules_in decided) None claims closings
      (window_passes node facts (width input) (map (shown node facts) (kept ++ classes)) w classes (length kept) closings froms (λ i c f. get_after (shown node facts) kept classes i c f) e)

pub decided_long : (classes : List Closing) (first columns : ℕ) (exchange : Option ℕ) (calls : List Call) → length (decided_calls classes first columns exchange calls) ≡ length calls
decided_long classes first columns exchange [] = refl
decided_long classes first columns exchange (call ∷ calls) = ap suc (decided_long classes first columns (next_exchange exchange call.class (decide_of (slice_get classes call.class) (first + call.class) columns exchange call)) calls)

pub rules_long : (classes : List Closing) (first columns : ℕ) (exchange : Option ℕ) (calls : List Call) → all_by (decided_calls classes first columns exchange calls) ≡ true → length (rules_in (decided_calls classes first columns exchange calls)) ≡ length calls
rules_long classes first columns exchange calls e = long (decided_calls classes first columns exchange calls) e ∙ decided_long classes first columns exchange calls
  where
    long : (ds : List Decided) → all_by ds ≡ true → length (rules_in ds) ≡ length ds
    long [] e = refl
    long (By r ∷ ds) e = ap suc (long ds e)
    long (Open l ∷ ds) e = absurd (false≢true e)

-- ---- a limit

module _ (node : ℕ) (facts : FactList) (limit : LimitRule) (input : PlanTree) (kept : List Closing) (claims : AllByRecursion (IsClaim facts (width (Over (Limit limit) input))) kept) where
  pub whole_entry : is_whole_or_ties limit ≡ true → entry_refusal node facts (Over (Limit limit) input) (entry_by (width (Over (Limit limit) input)) kept [] [] None) ≡ None
  whole_entry e = entry_passes node facts (Over (Limit limit) input) kept [] [] None claims tt (ap (λ b. refuse_unless b (UnjustifiedLimit node)) e)

  pub keys_entry : (c : Closing) → IsClosing facts c → c.from ≡ order_columns (limit_class limit) → missing_of c.has (all_columns (width input)) ≡ None → entry_refusal node facts (Over (Limit limit) input) (entry_by (width (Over (Limit limit) input)) kept (c ∷ []) [] (Some (length kept))) ≡ None
  keys_entry c is from e =
      let all = map (shown node facts) (kept ++ c ∷ []) in
      let number : length kept + 0 ≡ length kept = omega arith in
      let there : slice_get all (length kept) ≡ Some (shown node facts c) = ap (slice_get all) (sym number) ∙ get_after (shown node facts) kept (c ∷ []) 0 c refl in
      let test : shows facts (is_in (order_columns (limit_class limit))) (columns_named (all_columns (width input))) (shown node facts c) ≡ true =
      subst (λ X. shows facts (is_in X) (columns_named (all_columns (width input))) (shown node facts c) ≡ true) from
      (λ i. all_among c.from i && each_reached node facts c is (columns_named (all_columns (width input))) (none_missing c.has (all_columns (width input)) e) i) in
      entry_passes node facts (Over (Limit limit) input) kept (c ∷ []) [] (Some (length kept)) claims (is, tt)
      (ap (refuse_unless_shown node (UnjustifiedLimit node) (shows facts (is_in (order_columns (limit_class limit))) (columns_named (all_columns (width input))))) there ∙ ap (λ b. refuse_unless b (UnjustifiedLimit node)) test)

pub traces_joined : (kept others : List Closing) → map trace_by (kept ++ others) ≡ map trace_by kept ++ map trace_by others
traces_joined kept others = map_append trace_by kept others
