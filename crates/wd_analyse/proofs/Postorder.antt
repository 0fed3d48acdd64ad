-- The entries of a plan: its inputs' and, after them, its own.
use Rattle.std.proofs.Common.{◌≡◌, ℕ, zero, suc, ◌+◌, ◌<◌, ◌≤◌, Bool, true, false, ◌&&◌, List, [], ◌∷◌, ◌++◌, length, refl, sym, ◌∙◌, ap, arith, subst, append_assoc, Option, None}
use Rattle.std.proofs.lemmas.Bool.{false≢true}
use Rattle.std.proofs.lemmas.List.{length_push}
use Rattle.wd_schema.specs.Tables.{TableRule}
use Rattle.wd_plan.specs.Expressions.{Expression}
use Rattle.wd_plan.specs.Plans.{PlanTree, Scan, Join, Over, Filter, Map, Group, Window, Distinct, Limit, node_count}
use Rattle.wd_certificate.specs.Certificates.{NodeRecord}
use Rattle.wd_step_facts.specs.Facts.{Fact}
use Rattle.wd_facts.specs.Given.{given}
use Rattle.wd_rules.specs.Rules.{entry_refusal, kept_facts, or_else}
use Rattle.wd_rules.specs.Validity.{all_entries, entry_at, has_its_calls, has_its_limit, kept_below, kept_right, nodes_refusal, top_at, top_number, top_refusal}
use Rattle.wd_analyse.proofs.Valid.{AreEntries, IsAnalysed, IsTop}
use Rattle.wd_analyse.specs.declared.analysis.Reason.{Reason}

-- ---- entries with more after them

pub at_front : (ns more : List NodeRecord) (n : ℕ) → n < length ns → entry_at (ns ++ more) n ≡ entry_at ns n
at_front [] more n h = absurd (omega arith)
at_front (x ∷ ns) more zero h = refl
at_front (x ∷ ns) more (suc n) h = at_front ns more n (omega (arith, h))

pub at_end : (ns : List NodeRecord) (e : NodeRecord) (n : ℕ) → n ≡ length ns → entry_at (ns ++ e ∷ []) n ≡ e
at_end [] e zero h = refl
at_end [] e (suc n) h = absurd (omega (arith, h))
at_end (x ∷ ns) e zero h = absurd (omega (arith, h))
at_end (x ∷ ns) e (suc n) h = at_end ns e n (omega (arith, h))

pub top_low : (plan : PlanTree) (first : ℕ) → top_number plan first < first + node_count plan
top_low (Scan table columns) first = omega arith
top_low (Join condition left right) first = omega arith
top_low (Over step input) first = omega arith

module _ (ns more : List NodeRecord) where
  top_front : (plan : PlanTree) (first : ℕ) → first + node_count plan ≤ length ns → top_at plan first (ns ++ more) ≡ top_at plan first ns
  top_front plan first h = let low = top_low plan first in at_front ns more (top_number plan first) (omega (arith, h, low))

  below_front : (plan : PlanTree) (first : ℕ) → first + node_count plan ≤ length ns → kept_below plan first (ns ++ more) ≡ kept_below plan first ns
  below_front (Scan table columns) first h = refl
  below_front (Join condition left right) first h = ap kept_facts (top_front left first (omega (arith, h)))
  below_front (Over step input) first h = ap kept_facts (top_front input first (omega (arith, h)))

  right_front : (plan : PlanTree) (first : ℕ) → first + node_count plan ≤ length ns → kept_right plan first (ns ++ more) ≡ kept_right plan first ns
  right_front (Scan table columns) first h = refl
  right_front (Join condition left right) first h = ap kept_facts (top_front right (first + node_count left) (omega (arith, h)))
  right_front (Over step input) first h = refl

  module _ (tables : List TableRule) where
    own_front : (plan : PlanTree) (first : ℕ) → first + node_count plan ≤ length ns → top_refusal tables plan first (ns ++ more) ≡ top_refusal tables plan first ns
    own_front plan first h = λ i. entry_refusal (top_number plan first) (given tables plan (below_front plan first h i) (right_front plan first h i)) plan (top_front plan first h i)

    nodes_front : (plan : PlanTree) (first : ℕ) → first + node_count plan ≤ length ns → nodes_refusal tables plan first (ns ++ more) ≡ nodes_refusal tables plan first ns
    nodes_front (Scan table columns) first h = own_front (Scan table columns) first h
    nodes_front (Join condition left right) first h =
        λ i. or_else (nodes_front left first (omega (arith, h)) i) (or_else (nodes_front right (first + node_count left) (omega (arith, h)) i) (own_front (Join condition left right) first h i))
    nodes_front (Over step input) first h = λ i. or_else (nodes_front input first (omega (arith, h)) i) (own_front (Over step input) first h i)

  all_front : (test : PlanTree → NodeRecord → Bool) (plan : PlanTree) (first : ℕ) → first + node_count plan ≤ length ns → all_entries test plan first (ns ++ more) ≡ all_entries test plan first ns
  all_front test (Scan table columns) first h = ap (test (Scan table columns)) (top_front (Scan table columns) first h)
  all_front test (Join condition left right) first h =
      λ i. (all_front test left first (omega (arith, h)) i && all_front test right (first + node_count left) (omega (arith, h)) i) && test (Join condition left right) (top_front (Join condition left right) first h i)
  all_front test (Over step input) first h = λ i. all_front test input first (omega (arith, h)) i && test (Over step input) (top_front (Over step input) first h i)

  pub entries_front : (tables : List TableRule) (plan : PlanTree) (first : ℕ) → first + node_count plan ≤ length ns → AreEntries tables plan first ns → AreEntries tables plan first (ns ++ more)
  entries_front tables plan first h e = record {
    passed = nodes_front tables plan first h ∙ e.passed;
    limits = all_front has_its_limit plan first h ∙ e.limits;
    calls = all_front has_its_calls plan first h ∙ e.calls;
  }

-- ---- a node over its inputs

top_passes : (tables : List TableRule) (plan : PlanTree) (first node : ℕ) (nodes : List NodeRecord) (entry : NodeRecord) (kept more : List Fact) → top_number plan first ≡ node → top_at plan first nodes ≡ entry → kept_below plan first nodes ≡ kept → kept_right plan first nodes ≡ more → entry_refusal node (given tables plan kept more) plan entry ≡ None → top_refusal tables plan first nodes ≡ None
top_passes tables plan first node nodes entry kept more n t k m e = (λ i. entry_refusal (n i) (given tables plan (k i) (m i)) plan (t i)) ∙ e

-- the node below a node with one
abbrev pub child : PlanTree → PlanTree
child (Scan table columns) = Scan table columns
child (Join condition left right) = left
child (Over step input) = input

abbrev pub is_over_one : PlanTree → Bool
is_over_one (Scan table columns) = false
is_over_one (Join condition left right) = false
is_over_one (Over step input) = true

module _ (tables : List TableRule) (old : List NodeRecord) (r0 : List Reason) where
  pub scan_step : (table columns : ℕ) (new : List NodeRecord) (r1 : List Reason) (kept facts : List Fact) → kept ≡ [] → (more : List Fact) → more ≡ [] → IsTop tables (Scan table columns) kept more old new r0 r1 facts → IsAnalysed tables (Scan table columns) old new r0 r1 facts
  scan_step table columns new r1 kept facts none more no_more t =
      let plan = Scan table columns in
      let top : top_at plan (length old) new ≡ t.entry = ap (top_at plan (length old)) t.is ∙ at_end old t.entry (length old) refl in
      record {
        long = ap length t.is ∙ length_push old t.entry;
        grows = (t.entry ∷ [], t.is);
        kept = ap kept_facts top ∙ t.keeps;
        plain = t.plain;
        settled = λ e. let own = t.settled e in (
          own.0,
          record {
            passed = top_passes tables plan (length old) (length old) new t.entry kept more refl top (sym none) (sym no_more) own.1.passed;
            limits = ap (has_its_limit plan) top ∙ own.1.limit;
            calls = ap (has_its_calls plan) top ∙ own.1.calls;
          },
        );
      }

  module _ (mid new : List NodeRecord) (r1 r2 : List Reason) (below more facts : List Fact) where
    pub one_step : (plan : PlanTree) → is_over_one plan ≡ true → more ≡ [] → IsAnalysed tables (child plan) old mid r0 r1 below → IsTop tables plan below more mid new r1 r2 facts → IsAnalysed tables plan old new r0 r2 facts
    one_step (Scan table columns) is no_more b t = absurd (false≢true is)
    one_step (Join condition left right) is no_more b t = absurd (false≢true is)
    one_step (Over (Filter condition) input) is no_more b t =
        let plan = Over (Filter condition) input in
        let first = length old in
        let number : first + node_count input ≡ length mid = sym b.long in
        let top : top_at plan first new ≡ t.entry = ap (top_at plan first) t.is ∙ at_end mid t.entry (first + node_count input) number in
        let low : first + node_count input ≤ length mid = omega (arith, number) in
        let under : kept_below plan first new ≡ below = ap (kept_below plan first) t.is ∙ ap kept_facts (top_front mid (t.entry ∷ []) input first low) ∙ b.kept in
        record {
          long = omega (arith, ap length t.is, length_push mid t.entry, b.long);
          grows = (b.grows.0 ++ t.entry ∷ [], t.is ∙ ap (λ l. l ++ t.entry ∷ []) b.grows.1 ∙ append_assoc old b.grows.0 (t.entry ∷ []));
          kept = ap kept_facts top ∙ t.keeps;
          plain = t.plain;
          settled = λ e.
              let own = t.settled e in
              let before = b.settled own.0 in
              let inner = subst (AreEntries tables input first) (sym t.is) (entries_front mid (t.entry ∷ []) tables input first low before.1) in (
                before.0,
                record {
                  passed = λ i. or_else (inner.passed i) (top_passes tables plan first (length mid) new t.entry below more number top under (sym no_more) own.1.passed i);
                  limits = λ i. inner.limits i && (ap (has_its_limit plan) top ∙ own.1.limit) i;
                  calls = λ i. inner.calls i && (ap (has_its_calls plan) top ∙ own.1.calls) i;
                },
              );
        }
    one_step (Over (Map outputs) input) is no_more b t =
        let plan = Over (Map outputs) input in
        let first = length old in
        let number : first + node_count input ≡ length mid = sym b.long in
        let top : top_at plan first new ≡ t.entry = ap (top_at plan first) t.is ∙ at_end mid t.entry (first + node_count input) number in
        let low : first + node_count input ≤ length mid = omega (arith, number) in
        let under : kept_below plan first new ≡ below = ap (kept_below plan first) t.is ∙ ap kept_facts (top_front mid (t.entry ∷ []) input first low) ∙ b.kept in
        record {
          long = omega (arith, ap length t.is, length_push mid t.entry, b.long);
          grows = (b.grows.0 ++ t.entry ∷ [], t.is ∙ ap (λ l. l ++ t.entry ∷ []) b.grows.1 ∙ append_assoc old b.grows.0 (t.entry ∷ []));
          kept = ap kept_facts top ∙ t.keeps;
          plain = t.plain;
          settled = λ e.
              let own = t.settled e in
              let before = b.settled own.0 in
              let inner = subst (AreEntries tables input first) (sym t.is) (entries_front mid (t.entry ∷ []) tables input first low before.1) in (
                before.0,
                record {
                  passed = λ i. or_else (inner.passed i) (top_passes tables plan first (length mid) new t.entry below more number top under (sym no_more) own.1.passed i);
                  limits = λ i. inner.limits i && (ap (has_its_limit plan) top ∙ own.1.limit) i;
                  calls = λ i. inner.calls i && (ap (has_its_calls plan) top ∙ own.1.calls) i;
                },
              );
        }
    one_step (Over (Window w) input) is no_more b t =
        let plan = Over (Window w) input in
        let first = length old in
        let number : first + node_count input ≡ length mid = sym b.long in
        let top : top_at plan first new ≡ t.entry = ap (top_at plan first) t.is ∙ at_end mid t.entry (first + node_count input) number in
        let low : first + node_count input ≤ length mid = omega (arith, number) in
        let under : kept_below plan first new ≡ below = ap (kept_below plan first) t.is ∙ ap kept_facts (top_front mid (t.entry ∷ []) input first low) ∙ b.kept in
        record {
          long = omega (arith, ap length t.is, length_push mid t.entry, b.long);
          grows = (b.grows.0 ++ t.entry ∷ [], t.is ∙ ap (λ l. l ++ t.entry ∷ []) b.grows.1 ∙ append_assoc old b.grows.0 (t.entry ∷ []));
          kept = ap kept_facts top ∙ t.keeps;
          plain = t.plain;
          settled = λ e.
              let own = t.settled e in
              let before = b.settled own.0 in
              let inner = subst (AreEntries tables input first) (sym t.is) (entries_front mid (t.entry ∷ []) tables input first low before.1) in (
                before.0,
                record {
                  passed = λ i. or_else (inner.passed i) (top_passes tables plan first (length mid) new t.entry below more number top under (sym no_more) own.1.passed i);
                  limits = λ i. inner.limits i && (ap (has_its_limit plan) top ∙ own.1.limit) i;
                  calls = λ i. inner.calls i && (ap (has_its_calls plan) top ∙ own.1.calls) i;
                },
              );
        }
    one_step (Over (Group g) input) is no_more b t =
        let plan = Over (Group g) input in
        let first = length old in
        let number : first + node_count input ≡ length mid = sym b.long in
        let top : top_at plan first new ≡ t.entry = ap (top_at plan first) t.is ∙ at_end mid t.entry (first + node_count input) number in
        let low : first + node_count input ≤ length mid = omega (arith, number) in
        let under : kept_below plan first new ≡ below = ap (kept_below plan first) t.is ∙ ap kept_facts (top_front mid (t.entry ∷ []) input first low) ∙ b.kept in
        record {
          long = omega (arith, ap length t.is, length_push mid t.entry, b.long);
          grows = (b.grows.0 ++ t.entry ∷ [], t.is ∙ ap (λ l. l ++ t.entry ∷ []) b.grows.1 ∙ append_assoc old b.grows.0 (t.entry ∷ []));
          kept = ap kept_facts top ∙ t.keeps;
          plain = t.plain;
          settled = λ e.
              let own = t.settled e in
              let before = b.settled own.0 in
              let inner = subst (AreEntries tables input first) (sym t.is) (entries_front mid (t.entry ∷ []) tables input first low before.1) in (
                before.0,
                record {
                  passed = λ i. or_else (inner.passed i) (top_passes tables plan first (length mid) new t.entry below more number top under (sym no_more) own.1.passed i);
                  limits = λ i. inner.limits i && (ap (has_its_limit plan) top ∙ own.1.limit) i;
                  calls = λ i. inner.calls i && (ap (has_its_calls plan) top ∙ own.1.calls) i;
                },
              );
        }
    one_step (Over Distinct input) is no_more b t =
        let plan = Over Distinct input in
        let first = length old in
        let number : first + node_count input ≡ length mid = sym b.long in
        let top : top_at plan first new ≡ t.entry = ap (top_at plan first) t.is ∙ at_end mid t.entry (first + node_count input) number in
        let low : first + node_count input ≤ length mid = omega (arith, number) in
        let under : kept_below plan first new ≡ below = ap (kept_below plan first) t.is ∙ ap kept_facts (top_front mid (t.entry ∷ []) input first low) ∙ b.kept in
        record {
          long = omega (arith, ap length t.is, length_push mid t.entry, b.long);
          grows = (b.grows.0 ++ t.entry ∷ [], t.is ∙ ap (λ l. l ++ t.entry ∷ []) b.grows.1 ∙ append_assoc old b.grows.0 (t.entry ∷ []));
          kept = ap kept_facts top ∙ t.keeps;
          plain = t.plain;
          settled = λ e.
              let own = t.settled e in
              let before = b.settled own.0 in
              let inner = subst (AreEntries tables input first) (sym t.is) (entries_front mid (t.entry ∷ []) tables input first low before.1) in (
                before.0,
                record {
                  passed = λ i. or_else (inner.passed i) (top_passes tables plan first (length mid) new t.entry below more number top under (sym no_more) own.1.passed i);
                  limits = λ i. inner.limits i && (ap (has_its_limit plan) top ∙ own.1.limit) i;
                  calls = λ i. inner.calls i && (ap (has_its_calls plan) top ∙ own.1.calls) i;
                },
              );
        }
    one_step (Over (Limit limit) input) is no_more b t =
        let plan = Over (Limit limit) input in
        let first = length old in
        let number : first + node_count input ≡ length mid = sym b.long in
        let top : top_at plan first new ≡ t.entry = ap (top_at plan first) t.is ∙ at_end mid t.entry (first + node_count input) number in
        let low : first + node_count input ≤ length mid = omega (arith, number) in
        let under : kept_below plan first new ≡ below = ap (kept_below plan first) t.is ∙ ap kept_facts (top_front mid (t.entry ∷ []) input first low) ∙ b.kept in
        record {
          long = omega (arith, ap length t.is, length_push mid t.entry, b.long);
          grows = (b.grows.0 ++ t.entry ∷ [], t.is ∙ ap (λ l. l ++ t.entry ∷ []) b.grows.1 ∙ append_assoc old b.grows.0 (t.entry ∷ []));
          kept = ap kept_facts top ∙ t.keeps;
          plain = t.plain;
          settled = λ e.
              let own = t.settled e in
              let before = b.settled own.0 in
              let inner = subst (AreEntries tables input first) (sym t.is) (entries_front mid (t.entry ∷ []) tables input first low before.1) in (
                before.0,
                record {
                  passed = λ i. or_else (inner.passed i) (top_passes tables plan first (length mid) new t.entry below more number top under (sym no_more) own.1.passed i);
                  limits = λ i. inner.limits i && (ap (has_its_limit plan) top ∙ own.1.limit) i;
                  calls = λ i. inner.calls i && (ap (has_its_calls plan) top ∙ own.1.calls) i;
                },
              );
        }

  module _ (mid late new : List NodeRecord) (r1 r2 r3 : List Reason) (below beside facts : List Fact) where
    pub both_step : (plan left right : PlanTree) (condition : Option Expression) → plan ≡ Join condition left right → IsAnalysed tables left old mid r0 r1 below → IsAnalysed tables right mid late r1 r2 beside → IsTop tables plan below beside late new r2 r3 facts → IsAnalysed tables plan old new r0 r3 facts
    both_step plan left right condition is b c t = subst (λ p. IsAnalysed tables p old new r0 r3 facts) (sym is) (of_join (subst (λ p. IsTop tables p below beside late new r2 r3 facts) is t))
      where
        of_join : IsTop tables (Join condition left right) below beside late new r2 r3 facts → IsAnalysed tables (Join condition left right) old new r0 r3 facts
        of_join t =
            let plan = Join condition left right in
            let first = length old in
            let next : first + node_count left ≡ length mid = sym b.long in
            let number : (first + node_count left) + node_count right ≡ length late = omega (arith, next, c.long) in
            let top : top_at plan first new ≡ t.entry = ap (top_at plan first) t.is ∙ at_end late t.entry ((first + node_count left) + node_count right) number in
            let low : first + node_count left ≤ length mid = omega (arith, next) in
            let late_low : length mid + node_count right ≤ length late = omega (arith, c.long) in
            let left_low : first + node_count left ≤ length late = omega (arith, number) in
            let left_top : top_at left first new ≡ top_at left first mid = ap (top_at left first) t.is ∙ top_front late (t.entry ∷ []) left first left_low ∙ ap (top_at left first) c.grows.1 ∙ top_front mid c.grows.0 left first low in
            let right_top : top_at right (length mid) new ≡ top_at right (length mid) late = ap (top_at right (length mid)) t.is ∙ top_front late (t.entry ∷ []) right (length mid) late_low in
            let under : kept_below plan first new ≡ below = ap kept_facts left_top ∙ b.kept in
            let other : kept_right plan first new ≡ beside = ap (λ n. kept_facts (top_at right n new)) next ∙ ap kept_facts right_top ∙ c.kept in
            record {
              long = omega (arith, ap length t.is, length_push late t.entry, number);
              grows = (b.grows.0 ++ (c.grows.0 ++ t.entry ∷ []), t.is ∙ ap (λ l. l ++ t.entry ∷ []) (c.grows.1 ∙ ap (λ l. l ++ c.grows.0) b.grows.1) ∙ append_assoc (old ++ b.grows.0) c.grows.0 (t.entry ∷ []) ∙ append_assoc old b.grows.0 (c.grows.0 ++ t.entry ∷ []));
              kept = ap kept_facts top ∙ t.keeps;
              plain = t.plain;
              settled = λ e.
                  let own = t.settled e in
                  let after = c.settled own.0 in
                  let before = b.settled after.0 in
                  let l1 = subst (AreEntries tables left first) (sym c.grows.1) (entries_front mid c.grows.0 tables left first low before.1) in
                  let l2 = subst (AreEntries tables left first) (sym t.is) (entries_front late (t.entry ∷ []) tables left first left_low l1) in
                  let r = subst (AreEntries tables right (length mid)) (sym t.is) (entries_front late (t.entry ∷ []) tables right (length mid) late_low after.1) in
                  let r' = subst (λ n. AreEntries tables right n new) (sym next) r in (
                    before.0,
                    record {
                      passed = λ i. or_else (l2.passed i) (or_else (r'.passed i) (top_passes tables plan first (length late) new t.entry below beside number top under other own.1.passed i));
                      limits = λ i. (l2.limits i && r'.limits i) && (ap (has_its_limit plan) top ∙ own.1.limit) i;
                      calls = λ i. (l2.calls i && r'.calls i) && (ap (has_its_calls plan) top ∙ own.1.calls) i;
                    },
                  );
            }

-- ---- the same of a plan and of kept facts that are shown otherwise

pub scan_found : (tables : List TableRule) (plan : PlanTree) (table columns : ℕ) (kept more : List Fact) (old new : List NodeRecord) (before after : List Reason) (facts : List Fact) → plan ≡ Scan table columns → kept ≡ [] → more ≡ [] → IsTop tables plan kept more old new before after facts → IsAnalysed tables plan old new before after facts
scan_found tables plan table columns kept more old new before after facts is none no_more top =
    subst (λ p. IsAnalysed tables p old new before after facts) (sym is) (scan_step tables old before table columns new after kept facts none more no_more (subst (λ p. IsTop tables p kept more old new before after facts) is top))

pub one_found : (tables : List TableRule) (plan input : PlanTree) (kept more below : List Fact) (old mid new : List NodeRecord) (r0 r1 r2 : List Reason) (facts : List Fact) → child plan ≡ input → is_over_one plan ≡ true → kept ≡ below → more ≡ [] → IsAnalysed tables input old mid r0 r1 below → IsTop tables plan kept more mid new r1 r2 facts → IsAnalysed tables plan old new r0 r2 facts
one_found tables plan input kept more below old mid new r0 r1 r2 facts is one same none b t =
    one_step tables old r0 mid new r1 r2 below more facts plan one none (subst (λ p. IsAnalysed tables p old mid r0 r1 below) (sym is) b) (subst (λ k. IsTop tables plan k more mid new r1 r2 facts) same t)

pub both_found : (tables : List TableRule) (plan left right : PlanTree) (condition : Option Expression) (kept more below beside : List Fact) (old mid late new : List NodeRecord) (r0 r1 r2 r3 : List Reason) (facts : List Fact) → plan ≡ Join condition left right → kept ≡ below → more ≡ beside → IsAnalysed tables left old mid r0 r1 below → IsAnalysed tables right mid late r1 r2 beside → IsTop tables plan kept more late new r2 r3 facts → IsAnalysed tables plan old new r0 r3 facts
both_found tables plan left right condition kept more below beside old mid late new r0 r1 r2 r3 facts is same same_more b c t =
    both_step tables old r0 mid late new r1 r2 r3 below beside facts plan left right condition is b c (subst (λ k. IsTop tables plan k beside late new r2 r3 facts) same (subst (λ m. IsTop tables plan kept m late new r2 r3 facts) same_more t))
