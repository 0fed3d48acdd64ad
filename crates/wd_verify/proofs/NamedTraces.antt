-- Calls and limits are judged by the traces that they name, which were kept.
use Rattle.std.proofs.Common.{◌≡◌, ℕ, Bool, true, false, ◌||◌, map, nat_eq, slice_get, Option, Some, None, List, [], ◌∷◌, refl, ap, ◌∙◌, sym, Ok}
use Rattle.std.proofs.lemmas.Bool.{eq-eqb}
use Rattle.std.specs.Global.{Box}
use Rattle.wd_plan.specs.Fits.{width}
use Rattle.wd_plan.specs.Plans.{PlanTree, Scan, Join, Over, Filter, Map, Group, Window, Distinct, Limit, LimitRule, WindowRule}
use Rattle.wd_plan.specs.Outcomes.{class_at}
use Rattle.wd_plan.specs.Sorting.{class_columns, limit_class, order_columns}
use Rattle.wd_plan.specs.declared.window.Call.{Call}
use Rattle.wd_certificate.specs.Certificates.{KeptRecord, NodeRecord}
use Rattle.wd_certificate.specs.Json.{rule_trace}
use Rattle.wd_certificate.specs.declared.certificate.Rule.{Rule}
use Rattle.wd_certificate.specs.declared.certificate.Rule.TheVariants as rule
use Rattle.wd_certificate.specs.declared.error.CertError.TheVariants.{SecondExchange, UnjustifiedCall, UnjustifiedLimit}
use Rattle.wd_step_facts.specs.declared.facts.Member.TheVariants as member
use Rattle.wd_step_facts.specs.Facts.{FactList, columns_named}
use Rattle.wd_step_facts.specs.Steps.{all_columns}
use Rattle.wd_sets.specs.Sets.{is_in}
use Rattle.wd_rules.specs.Rules.{EvidenceRecord, call_refusal, calls_refusal, entry_refusal, keep_refusal, limit_refusal, or_else, refuse_unless, refuse_unless_shown, rules_refusal, shows, shows_value, has_one_exchange}
use Rattle.wd_rules.specs.Traces.{Traced, each_traced}
use Rattle.wd_verify.specs.Lean.{lean_kept}
use Rattle.wd_verify.specs.Named.{is_it, is_of_calls, is_of_kept, is_of_rules}
use Rattle.wd_verify.specs.Shown.{AreFollowed, shown_or_none, traced_or}
use Rattle.wd_traces.specs.declared.trace.Followed.{Followed}
use Rattle.wd_verify.proofs.Claims.{traced_claims}

-- ---- numbers that are named

pub same_number : (n : ℕ) → nat_eq n n ≡ true
same_number n = eq-eqb n n refl

or_true : (b : Bool) → (b || true) ≡ true
or_true true = refl
or_true false = refl

pub or_later : (b other : Bool) → other ≡ true → (b || other) ≡ true
or_later b other e = (λ i. b || e i) ∙ or_true b

pub or_first : (b other : Bool) → b ≡ true → (b || other) ≡ true
or_first b other e = λ i. e i || other

-- a call or the limit names a number, so it is marked after both of them
pub any_named : (calls limit marked : Bool) → (calls || limit) ≡ true → (limit || (marked || calls)) ≡ true
any_named calls true marked e = refl
any_named true false marked e = or_true marked
any_named false false marked e = absurd (cc)

-- the lean form of a kept fact names the same trace
pub lean_named : (keep : List KeptRecord) (n : ℕ) → is_of_kept (map lean_kept keep) n ≡ is_of_kept keep n
lean_named [] n = refl
lean_named (kept ∷ keep) n = λ i. nat_eq n kept.trace || lean_named keep n i

-- ---- claims by two lists that agree where a claim names a number

module _ (node : ℕ) (facts : FactList) (one other : List Traced) where
  abbrev by_one : EvidenceRecord
  by_one = record { node = node; facts = facts; shown = one }

  abbrev by_other : EvidenceRecord
  by_other = record { node = node; facts = facts; shown = other }

  abbrev Agree : (ℕ → Bool) → Type 0
  Agree named = (n : ℕ) → named n ≡ true → slice_get one n ≡ slice_get other n

  call_same : (columns : ℕ) (among : ℕ → Bool) (call : Call) (r : Rule) → Agree (is_it (rule_trace r)) → call_refusal by_one columns among call r ≡ call_refusal by_other columns among call r
  call_same columns among call rule.Peers h = refl
  call_same columns among call (rule.Unique n) h = ap (refuse_unless_shown node (UnjustifiedCall node) (shows facts among (member.Row ∷ []))) (h n (same_number n))
  call_same columns among call (rule.Values n) h = ap (refuse_unless_shown node (UnjustifiedCall node) (shows_value facts among call)) (h n (same_number n))
  call_same columns among call (rule.Exchange n) h = ap (refuse_unless_shown node (UnjustifiedCall node) (shows facts among (columns_named (all_columns columns)))) (h n (same_number n))

  calls_same : (columns : ℕ) (w : WindowRule) (calls : List Call) (rules : List Rule) → Agree (is_of_calls rules) → calls_refusal by_one columns w calls rules ≡ calls_refusal by_other columns w calls rules
  calls_same columns w [] [] h = refl
  calls_same columns w [] (r ∷ rules) h = refl
  calls_same columns w (call ∷ calls) [] h = refl
  calls_same columns w (call ∷ calls) (r ∷ rules) h =
      let own = call_same columns (is_in (class_columns (class_at w call.class))) call r (λ n e. h n (or_first (is_it (rule_trace r) n) (is_of_calls rules n) e)) in
      let rest = calls_same columns w calls rules (λ n e. h n (or_later (is_it (rule_trace r) n) (is_of_calls rules n) e)) in
      λ i. or_else (own i) (rest i)

  limit_same : (columns : ℕ) (limit : LimitRule) (number : Option ℕ) → Agree (is_it number) → limit_refusal by_one columns limit number ≡ limit_refusal by_other columns limit number
  limit_same columns limit None h = refl
  limit_same columns limit (Some n) h = ap (refuse_unless_shown node (UnjustifiedLimit node) (shows facts (is_in (order_columns (limit_class limit))) (columns_named (all_columns columns)))) (h n (same_number n))

  pub rules_same : (plan : PlanTree) (entry : NodeRecord) → Agree (is_of_calls entry.calls) → Agree (is_it entry.limit) → rules_refusal by_one plan entry ≡ rules_refusal by_other plan entry
  rules_same (Scan table columns) entry c l = refl
  rules_same (Join condition left right) entry c l = refl
  rules_same (Over (Filter condition) input) entry c l = refl
  rules_same (Over (Map outputs) input) entry c l = refl
  rules_same (Over (Group g) input) entry c l = refl
  rules_same (Over (Window w) input) entry c l = ap (λ r. or_else r (refuse_unless (has_one_exchange w.calls entry.calls) (SecondExchange node))) (calls_same (width input) w w.calls entry.calls c)
  rules_same (Over Distinct input) entry c l = refl
  rules_same (Over (Limit limit) input) entry c l = limit_same (width input) limit entry.limit l

-- ---- claims by the traces that were followed

module _ (node : ℕ) (facts : FactList) (plan : PlanTree) (entry : NodeRecord) (kept : List (Option (Box Followed))) (other : Traced) (followed : AreFollowed node facts entry.traces (is_of_rules entry) kept) where
  abbrev all : EvidenceRecord
  all = record { node = node; facts = facts; shown = shown_or_none (each_traced node facts entry.traces) }

  abbrev as_kept : EvidenceRecord
  as_kept = record { node = node; facts = facts; shown = map (traced_or other) kept }

  abbrev own : EvidenceRecord
  own = record { node = node; facts = facts; shown = followed.all.shown }

  all_is : all ≡ own
  all_is = λ i. record { node = node; facts = facts; shown = shown_or_none (followed.all.traced i) }

  rules_is : rules_refusal as_kept plan entry ≡ rules_refusal own plan entry
  rules_is =
      rules_same node facts (map (traced_or other) kept) followed.all.shown plan entry
      (λ n e. followed.at other n (or_first (is_of_calls entry.calls n) (is_it entry.limit n) e))
      (λ n e. followed.at other n (or_later (is_of_calls entry.calls n) (is_it entry.limit n) e))

  -- the kept facts by all traces, then calls and the limit by those that were kept
  pub entry_is : entry_refusal node facts plan entry ≡ or_else (keep_refusal all (width plan) entry.keep) (rules_refusal as_kept plan entry)
  entry_is = traced_claims node facts plan entry (Ok followed.all.shown) followed.all.traced ∙ (λ i. or_else (keep_refusal (sym all_is i) (width plan) entry.keep) (sym rules_is i))
