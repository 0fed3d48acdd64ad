-- What is found at a node, by its kind.
use Rattle.std.proofs.Common.{◌≡◌, ℕ, ◌+◌, ◌<◌, ◌≤◌, true, not, ◌&&◌, ◌||◌, List, [], ◌∷◌, ◌++◌, length, map, refl, sym, ◌∙◌, ap, arith, subst, eq-eqb, nat_lt, Some, None, is_some}
use Rattle.std.specs.List.{list_all}
use Rattle.std.proofs.lemmas.Bool.{and_parts, false≢true, lt-ltb}
use Rattle.wd_schema.specs.Tables.{TableRule}
use Rattle.wd_value.specs.declared.order.SortColumn.{SortColumn}
use Rattle.wd_value.specs.Keys.{key_columns}
use Rattle.wd_plan.specs.Fits.{AreBelow, Kinds, fits, has_class, has_columns, has_keys, is_call, is_limit, is_narrow, is_window, kinds_of, width}
use Rattle.wd_plan.specs.Plans.{ClassRule, LimitRule, PlanTree, WindowRule, Scan, Join, Over, Filter, Map, Group, Window, Distinct, Limit}
use Rattle.wd_plan.specs.Sorting.{class_columns, order_columns}
use Rattle.wd_plan.proofs.Ranges.{kinds_below, narrow}
use Rattle.wd_certificate.specs.Certificates.{NodeRecord}
use Rattle.wd_step_facts.specs.Facts.{FactList}
use Rattle.wd_step_facts.specs.Steps.{all_columns}
use Rattle.wd_facts.proofs.KeyRanges.{wider}
use Rattle.wd_facts.proofs.UsedBelow.{below_append}
use Rattle.wd_rules.specs.Rules.{entry_refusal, is_whole_or_ties, kept_facts}
use Rattle.wd_rules.specs.Validity.{has_its_calls, has_its_limit}
use Rattle.wd_analyse.specs.Decisions.{decided_calls, missing_of, rules_in}
use Rattle.wd_analyse.specs.Entry.{entry_by}
use Rattle.wd_analyse.specs.Evidence.{Closing, IsClosing}
use Rattle.wd_analyse.specs.Findings.{reasons_of}
use Rattle.wd_analyse.specs.Steps.{is_without_rules}
use Rattle.wd_analyse.specs.Sources.{AreClosings, starts}
use Rattle.wd_analyse.proofs.Valid.{AreClaims, IsFound}
use Rattle.wd_analyse.specs.declared.analysis.Reason.{Reason}
use Rattle.wd_analyse.proofs.Entries.{entry_keeps, entry_passes, keys_entry, rules_long, whole_entry, window_entry}
use Rattle.wd_analyse.proofs.Said.{none_before, none_after, none_lacks}

-- ---- columns of classes and of keys

module _ (kinds : Kinds) (n : ℕ) (below : (c : ℕ) → is_some (kinds c) ≡ true → c < n) where
  columns_low : (X : List ℕ) → has_columns kinds X ≡ true → AreBelow n X
  columns_low [] e = refl
  columns_low (c ∷ X) e = let p = and_parts (is_some (kinds c)) (has_columns kinds X) e in λ i. lt-ltb c n (below c p.0) i && columns_low X p.1 i

  keys_low : (keys : List SortColumn) → has_keys kinds keys ≡ true → AreBelow n (key_columns keys)
  keys_low [] e = refl
  keys_low (item ∷ keys) e = let p = and_parts (is_some (kinds item.column)) (has_keys kinds keys) e in λ i. lt-ltb item.column n (below item.column p.0) i && keys_low keys p.1 i

  classes_low : (m : ℕ) → n ≤ m → (classes : List ClassRule) → list_all (has_class kinds) classes ≡ true → list_all (λ class. list_all (λ c. nat_lt c m) (class_columns class)) classes ≡ true
  classes_low m h [] e = refl
  classes_low m h (class ∷ classes) e =
      let p = and_parts (has_class kinds class) (list_all (has_class kinds) classes) e in
      let own = and_parts (has_columns kinds class.partition) (has_keys kinds class.order) p.0 in
      λ i. wider n m h (class_columns class) (below_append n class.partition (order_columns class) (columns_low class.partition own.0) (keys_low class.order own.1)) i && classes_low m h classes p.1 i

module _ (tables : List TableRule) where
  pub window_classes : (plan input : PlanTree) (w : WindowRule) (m : ℕ) → plan ≡ Over (Window w) input → fits tables plan ≡ true → width plan ≤ m → list_all (λ class. list_all (λ c. nat_lt c m) (class_columns class)) w.classes ≡ true
  window_classes plan input w m is f h =
      let g = subst (λ p. fits tables p ≡ true) is f in
      let long : width input + length w.calls ≤ m = subst (λ p. width p ≤ m) is h in
      let p = and_parts (fits tables input) (is_window (kinds_of tables input) (width input) w) g in
      let q = and_parts (is_narrow (width input + length w.calls)) (list_all (has_class (kinds_of tables input)) w.classes && list_all (is_call (kinds_of tables input) w.classes) w.calls) p.1 in
      let r = and_parts (list_all (has_class (kinds_of tables input)) w.classes) (list_all (is_call (kinds_of tables input) w.classes) w.calls) q.1 in
      classes_low (kinds_of tables input) (width input) (kinds_below tables input p.0) m (omega (arith, long)) w.classes r.0

  pub limit_keys_low : (plan input : PlanTree) (limit : LimitRule) (m : ℕ) → plan ≡ Over (Limit limit) input → fits tables plan ≡ true → width plan ≤ m → AreBelow m (key_columns limit.keys)
  limit_keys_low plan input limit m is f h =
      let g = subst (λ p. fits tables p ≡ true) is f in
      let long : width input ≤ m = subst (λ p. width p ≤ m) is h in
      let p = and_parts (fits tables input) (is_limit (kinds_of tables input) limit) g in
      let keys = (and_parts (has_keys (kinds_of tables input) limit.keys) (not limit.ties || nat_lt 0 (length limit.keys)) p.1).0 in
      wider (width input) m long (key_columns limit.keys) (keys_low (kinds_of tables input) (width input) (kinds_below tables input p.0) limit.keys keys)

  pub window_narrow : (plan input : PlanTree) (w : WindowRule) → plan ≡ Over (Window w) input → fits tables plan ≡ true → width input + length w.calls ≤ 1024
  window_narrow plan input w is f = narrow tables (Over (Window w) input) (subst (λ p. fits tables p ≡ true) is f)

  pub limit_narrow : (plan input : PlanTree) (limit : LimitRule) → plan ≡ Over (Limit limit) input → fits tables plan ≡ true → width input ≤ 1024
  limit_narrow plan input limit is f = narrow tables (Over (Limit limit) input) (subst (λ p. fits tables p ≡ true) is f)

-- ---- a Window

module _ (facts : FactList) (node : ℕ) (claims : List Closing) (entry : NodeRecord) (before after : List Reason) where
  module _ (w : WindowRule) (input : PlanTree) (classes : List Closing) where
    of_window : AreClaims facts (width (Over (Window w) input)) claims → AreClosings facts classes → starts classes ≡ map class_columns w.classes
        → after ≡ before ++ reasons_of node 0 (decided_calls classes (length claims) (width input) None w.calls)
        → entry ≡ entry_by (width (Over (Window w) input)) claims classes (rules_in (decided_calls classes (length claims) (width input) None w.calls)) None
        → IsFound facts (Over (Window w) input) node claims entry before after
    of_window c closings from said is = record {
      keeps = ap kept_facts is ∙ entry_keeps facts (width (Over (Window w) input)) claims classes (rules_in (decided_calls classes (length claims) (width input) None w.calls)) None;
      settled = λ e.
          let decided = decided_calls classes (length claims) (width input) None w.calls in
          let reasons = reasons_of node 0 decided in
          let both : before ++ reasons ≡ [] = sym said ∙ e in
          let all = none_lacks node 0 decided (none_after before reasons both) in (
            none_before before reasons both,
            ap (entry_refusal node facts (Over (Window w) input)) is ∙ window_entry node facts w input claims classes c.claims closings from all,
            ap (has_its_limit (Over (Window w) input)) is,
            ap (has_its_calls (Over (Window w) input)) is ∙ eq-eqb (length (rules_in decided)) (length w.calls) (rules_long classes (length claims) (width input) None w.calls all),
          );
    }

    pub window_found : (plan : PlanTree) → plan ≡ Over (Window w) input → AreClaims facts (width plan) claims → AreClosings facts classes → starts classes ≡ map class_columns w.classes
        → after ≡ before ++ reasons_of node 0 (decided_calls classes (length claims) (width input) None w.calls)
        → entry ≡ entry_by (width plan) claims classes (rules_in (decided_calls classes (length claims) (width input) None w.calls)) None
        → IsFound facts plan node claims entry before after
    window_found plan p c closings from said is =
        subst (λ t. IsFound facts t node claims entry before after) (sym p)
        (of_window (subst (λ t. AreClaims facts (width t) claims) p c) closings from said (is ∙ ap (λ t. entry_by (width t) claims classes (rules_in (decided_calls classes (length claims) (width input) None w.calls)) None) p))

  -- ---- a Limit

  module _ (limit : LimitRule) (input : PlanTree) where
    of_whole : AreClaims facts (width (Over (Limit limit) input)) claims → is_whole_or_ties limit ≡ true → after ≡ before → entry ≡ entry_by (width (Over (Limit limit) input)) claims [] [] None → IsFound facts (Over (Limit limit) input) node claims entry before after
    of_whole c whole said is = record {
      keeps = ap kept_facts is ∙ entry_keeps facts (width (Over (Limit limit) input)) claims [] [] None;
      settled = λ e. (sym said ∙ e, ap (entry_refusal node facts (Over (Limit limit) input)) is ∙ whole_entry node facts limit input claims c.claims whole, refl, ap (has_its_calls (Over (Limit limit) input)) is);
    }

    pub whole_found : (plan : PlanTree) → plan ≡ Over (Limit limit) input → AreClaims facts (width plan) claims → is_whole_or_ties limit ≡ true → after ≡ before → entry ≡ entry_by (width plan) claims [] [] None → IsFound facts plan node claims entry before after
    whole_found plan p c whole said is =
        subst (λ t. IsFound facts t node claims entry before after) (sym p)
        (of_whole (subst (λ t. AreClaims facts (width t) claims) p c) whole said (is ∙ ap (λ t. entry_by (width t) claims [] [] None) p))

    of_keys : (closed : Closing) → AreClaims facts (width (Over (Limit limit) input)) claims → IsClosing facts closed → closed.from ≡ key_columns limit.keys → missing_of closed.has (all_columns (width input)) ≡ None → after ≡ before → entry ≡ entry_by (width (Over (Limit limit) input)) claims (closed ∷ []) [] (Some (length claims)) → IsFound facts (Over (Limit limit) input) node claims entry before after
    of_keys closed c closing from all said is = record {
      keeps = ap kept_facts is ∙ entry_keeps facts (width (Over (Limit limit) input)) claims (closed ∷ []) [] (Some (length claims));
      settled = λ e. (sym said ∙ e, ap (entry_refusal node facts (Over (Limit limit) input)) is ∙ keys_entry node facts limit input claims c.claims closed closing from all, refl, ap (has_its_calls (Over (Limit limit) input)) is);
    }

    pub keys_found : (plan : PlanTree) (closed : Closing) → plan ≡ Over (Limit limit) input → AreClaims facts (width plan) claims → IsClosing facts closed → closed.from ≡ key_columns limit.keys → missing_of closed.has (all_columns (width input)) ≡ None → after ≡ before → entry ≡ entry_by (width plan) claims (closed ∷ []) [] (Some (length claims)) → IsFound facts plan node claims entry before after
    keys_found plan closed p c closing from all said is =
        subst (λ t. IsFound facts t node claims entry before after) (sym p)
        (of_keys closed (subst (λ t. AreClaims facts (width t) claims) p c) closing from all said (is ∙ ap (λ t. entry_by (width t) claims (closed ∷ []) [] (Some (length claims))) p))

  -- ---- others

  -- with a reason more
  pub open_found : (plan : PlanTree) (reason : Reason) → after ≡ before ++ reason ∷ [] → entry ≡ entry_by (width plan) claims [] [] None → IsFound facts plan node claims entry before after
  open_found plan reason said is = record {
    keeps = ap kept_facts is ∙ entry_keeps facts (width plan) claims [] [] None;
    settled = λ e. let none : reason ∷ [] ≡ [] = none_after before (reason ∷ []) (sym said ∙ e) in cc;
  }

  plain_passes : (plan : PlanTree) → is_without_rules plan ≡ true → AreClaims facts (width plan) claims → (entry_refusal node facts plan (entry_by (width plan) claims [] [] None) ≡ None) × (has_its_limit plan (entry_by (width plan) claims [] [] None) ≡ true) × (has_its_calls plan (entry_by (width plan) claims [] [] None) ≡ true)
  plain_passes (Scan table columns) e c = (entry_passes node facts (Scan table columns) claims [] [] None c.claims tt refl, refl, refl)
  plain_passes (Join condition left right) e c = (entry_passes node facts (Join condition left right) claims [] [] None c.claims tt refl, refl, refl)
  plain_passes (Over (Filter condition) input) e c = (entry_passes node facts (Over (Filter condition) input) claims [] [] None c.claims tt refl, refl, refl)
  plain_passes (Over (Map outputs) input) e c = (entry_passes node facts (Over (Map outputs) input) claims [] [] None c.claims tt refl, refl, refl)
  plain_passes (Over (Window w) input) e c = absurd (false≢true e)
  plain_passes (Over (Group g) input) e c = (entry_passes node facts (Over (Group g) input) claims [] [] None c.claims tt refl, refl, refl)
  plain_passes (Over Distinct input) e c = (entry_passes node facts (Over Distinct input) claims [] [] None c.claims tt refl, refl, refl)
  plain_passes (Over (Limit limit) input) e c = absurd (false≢true e)

  pub plain_found : (plan : PlanTree) → is_without_rules plan ≡ true → AreClaims facts (width plan) claims → after ≡ before → entry ≡ entry_by (width plan) claims [] [] None → IsFound facts plan node claims entry before after
  plain_found plan e c said is = record {
    keeps = ap kept_facts is ∙ entry_keeps facts (width plan) claims [] [] None;
    settled = λ f.
        let own = plain_passes plan e c in
        (sym said ∙ f, ap (entry_refusal node facts plan) is ∙ own.0, ap (has_its_limit plan) is ∙ own.1, ap (has_its_calls plan) is ∙ own.2);
  }
