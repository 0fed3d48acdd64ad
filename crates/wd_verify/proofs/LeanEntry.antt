-- An entry and its lean form are refused alike, over facts that are alike.
use Rattle.std.proofs.Common.{◌≡◌, ℕ, Bool, ◌&&◌, List, [], ◌∷◌, map, refl, sym, ◌∙◌, ap, Option, Some, None, option_map, slice_get, nat_lt, Result, Ok, Err}
use Rattle.std.specs.List.{list_all}
use Rattle.std.proofs.lemmas.Option.{slice_get-map}
use Rattle.wd_plan.specs.declared.window.Call.{Call}
use Rattle.wd_plan.specs.Fits.{width}
use Rattle.wd_plan.specs.Frames.{is_stable}
use Rattle.wd_plan.specs.Outcomes.{class_at}
use Rattle.wd_plan.specs.Plans.{PlanTree, Scan, Join, Over, Filter, Map, Group, Window, Distinct, Limit, WindowRule, LimitRule}
use Rattle.wd_plan.specs.Sorting.{class_columns, limit_class, order_columns}
use Rattle.wd_certificate.specs.Certificates.{KeptRecord, NodeRecord, TraceRecord}
use Rattle.wd_certificate.specs.declared.certificate.Rule.{Rule}
use Rattle.wd_certificate.specs.declared.certificate.Rule.TheVariants as rule
use Rattle.wd_certificate.specs.declared.certificate.Target.{Target}
use Rattle.wd_certificate.specs.declared.error.CertError.{CertError}
use Rattle.wd_certificate.specs.declared.error.CertError.TheVariants.{OutOfRange, SecondExchange, UnjustifiedCall, UnjustifiedLimit, UnreachedClaim}
use Rattle.wd_step_facts.specs.declared.facts.Member.{Member}
use Rattle.wd_step_facts.specs.declared.facts.Member.TheVariants as member
use Rattle.wd_step_facts.specs.Facts.{Fact, FactList, columns_named}
use Rattle.wd_step_facts.specs.Steps.{all_columns}
use Rattle.wd_sets.specs.Sets.{is_in}
use Rattle.wd_sets.specs.Reaches.{reaches_each}
use Rattle.wd_rules.specs.Rules.{EvidenceRecord, call_refusal, calls_refusal, claims_refusal, entry_refusal, has_one_exchange, is_target, keep_refusal, kept_refusal, limit_refusal, member_of, or_else, refuse_unless, refuse_unless_shown, rules_refusal, shows, shows_column, shows_value, taken_column}
use Rattle.wd_rules.specs.Traces.{Traced, and_then, each_traced, traced}
use Rattle.wd_verify.specs.Lean.{lean_entry, lean_kept, lean_traced}
use Rattle.wd_traces.specs.Once.{lean_trace, once}
use Rattle.wd_traces.proofs.LeanTrace.{each_alike as other_each_alike, each_same as other_each_same, traced_alike as other_traced_alike}
use Rattle.wd_traces.proofs.Once.{IsAlike, columns_all, targets_all, targets_alike}
use Rattle.wd_traces.proofs.AlikeFacts.{AreAlike, with_list}

-- the traces of lean forms
abbrev lean_shown : Result (List Traced) CertError → Result (List Traced) CertError
lean_shown (Ok shown) = Ok (map lean_traced shown)
lean_shown (Err refusal) = Err refusal

lean_then : {X : Type 0} (r : Result X CertError) (f : X → Result (List Traced) CertError) → and_then r (λ x. lean_shown (f x)) ≡ lean_shown (and_then r f)
lean_then (Ok x) f = refl
lean_then (Err refusal) f = refl

lean_more : (trace : Traced) (r : Result (List Traced) CertError) → and_then (lean_shown r) (λ shown. Ok (lean_traced trace ∷ shown)) ≡ lean_shown (and_then r (λ shown. Ok (trace ∷ shown)))
lean_more trace (Ok shown) = refl
lean_more trace (Err refusal) = refl

module _ (node : ℕ) (facts : FactList) (list : List Fact) where
  abbrev Other : FactList
  Other = with_list facts list

  abbrev evidence : List Traced → EvidenceRecord
  evidence shown = record { node = node; facts = facts; shown = shown }

  abbrev lean_evidence : List Traced → EvidenceRecord
  lean_evidence shown = record { node = node; facts = Other; shown = map lean_traced shown }

  each_alike : (has : Member → Bool) (X Y : List Member) → IsAlike X Y → reaches_each facts has X ≡ reaches_each Other has Y
  each_alike = other_each_alike node facts list

  each_same : (has : Member → Bool) (X : List Member) → reaches_each facts has X ≡ reaches_each Other has X
  each_same = other_each_same node facts list

  -- ---- traces

  module _ (alike : AreAlike facts.list list) where
    traced_alike : (trace : TraceRecord) → traced node facts trace ≡ traced node Other (lean_trace trace)
    traced_alike = other_traced_alike node facts list alike

    each_lean : (traces : List TraceRecord) → each_traced node Other (map lean_trace traces) ≡ lean_shown (each_traced node facts traces)
    each_lean [] = refl
    each_lean (trace ∷ traces) =
        (λ i. and_then (sym (traced_alike trace) i) (λ has. and_then (each_lean traces i) (λ shown. Ok (lean_traced (record { from = trace.from; has = has }) ∷ shown))))
        ∙ (λ i. and_then (traced node facts trace) (λ has. lean_more (record { from = trace.from; has = has }) (each_traced node facts traces) i))
        ∙ lean_then (traced node facts trace) (λ has. and_then (each_traced node facts traces) (λ shown. Ok (record { from = trace.from; has = has } ∷ shown)))

  -- ---- kept facts

  one_kept : (columns : ℕ) (to : List Target) (o : Option Traced) → kept_refusal node facts columns to o ≡ kept_refusal node Other columns (once member_of to) (option_map lean_traced o)
  one_kept columns to None = refl
  one_kept columns to (Some trace) =
      let targets = targets_all (is_target columns) to in
      let from = columns_all (λ c. nat_lt c columns) trace.from in
      let reached = each_alike trace.has (map member_of to) (map member_of (once member_of to)) (targets_alike to) in
      λ i. or_else (refuse_unless (targets i) (OutOfRange node)) (refuse_unless (from i && reached i) (UnreachedClaim node))

  keep_alike : (columns : ℕ) (shown : List Traced) (keep : List KeptRecord) → keep_refusal (evidence shown) columns keep ≡ keep_refusal (lean_evidence shown) columns (map lean_kept keep)
  keep_alike columns shown [] = refl
  keep_alike columns shown (kept ∷ keep) =
      let own = one_kept columns kept.to (slice_get shown kept.trace) ∙ ap (kept_refusal node Other columns (once member_of kept.to)) (sym (slice_get-map lean_traced shown kept.trace)) in
      λ i. or_else (own i) (keep_alike columns shown keep i)

  -- ---- calls and limits

  shows_alike : (among : ℕ → Bool) (members : List Member) (trace : Traced) → shows facts among members trace ≡ shows Other among members (lean_traced trace)
  shows_alike among members trace =
      let from = columns_all among trace.from in
      let reached = each_same trace.has members in
      λ i. from i && reached i

  at_alike : (refusal : CertError) (test other : Traced → Bool) → ((trace : Traced) → test trace ≡ other (lean_traced trace)) → (shown : List Traced) (n : ℕ) → refuse_unless_shown node refusal test (slice_get shown n) ≡ refuse_unless_shown node refusal other (slice_get (map lean_traced shown) n)
  at_alike refusal test other h shown n = by (slice_get shown n) ∙ ap (refuse_unless_shown node refusal other) (sym (slice_get-map lean_traced shown n))
    where
      by : (o : Option Traced) → refuse_unless_shown node refusal test o ≡ refuse_unless_shown node refusal other (option_map lean_traced o)
      by None = refl
      by (Some trace) = ap (λ b. refuse_unless b refusal) (h trace)

  value_alike : (among : ℕ → Bool) (call : Call) (trace : Traced) → shows_value facts among call trace ≡ shows_value Other among call (lean_traced trace)
  value_alike among call trace = ap (λ b. is_stable call.frame && b) (by (taken_column call.function))
    where
      by : (o : Option ℕ) → shows_column facts among o trace ≡ shows_column Other among o (lean_traced trace)
      by None = refl
      by (Some c) = shows_alike among (member.Column c ∷ []) trace

  call_alike : (columns : ℕ) (shown : List Traced) (among : ℕ → Bool) (call : Call) (r : Rule) → call_refusal (evidence shown) columns among call r ≡ call_refusal (lean_evidence shown) columns among call r
  call_alike columns shown among call rule.Peers = refl
  call_alike columns shown among call (rule.Unique n) = at_alike (UnjustifiedCall node) _ _ (shows_alike among (member.Row ∷ [])) shown n
  call_alike columns shown among call (rule.Values n) = at_alike (UnjustifiedCall node) _ _ (value_alike among call) shown n
  call_alike columns shown among call (rule.Exchange n) = at_alike (UnjustifiedCall node) _ _ (shows_alike among (columns_named (all_columns columns))) shown n

  calls_alike : (columns : ℕ) (shown : List Traced) (w : WindowRule) (calls : List Call) (rules : List Rule) → calls_refusal (evidence shown) columns w calls rules ≡ calls_refusal (lean_evidence shown) columns w calls rules
  calls_alike columns shown w [] [] = refl
  calls_alike columns shown w [] (r ∷ rules) = refl
  calls_alike columns shown w (call ∷ calls) [] = refl
  calls_alike columns shown w (call ∷ calls) (r ∷ rules) =
      let own = call_alike columns shown (is_in (class_columns (class_at w call.class))) call r in
      λ i. or_else (own i) (calls_alike columns shown w calls rules i)

  limit_alike : (columns : ℕ) (shown : List Traced) (limit : LimitRule) (o : Option ℕ) → limit_refusal (evidence shown) columns limit o ≡ limit_refusal (lean_evidence shown) columns limit o
  limit_alike columns shown limit None = refl
  limit_alike columns shown limit (Some n) = at_alike (UnjustifiedLimit node) _ _ (shows_alike (is_in (order_columns (limit_class limit))) (columns_named (all_columns columns))) shown n

  rules_alike : (shown : List Traced) (plan : PlanTree) (entry : NodeRecord) → rules_refusal (evidence shown) plan entry ≡ rules_refusal (lean_evidence shown) plan (lean_entry entry)
  rules_alike shown (Scan table columns) entry = refl
  rules_alike shown (Join condition left right) entry = refl
  rules_alike shown (Over (Filter condition) input) entry = refl
  rules_alike shown (Over (Map outputs) input) entry = refl
  rules_alike shown (Over (Group g) input) entry = refl
  rules_alike shown (Over (Window w) input) entry = ap (λ r. or_else r (refuse_unless (has_one_exchange w.calls entry.calls) (SecondExchange node))) (calls_alike (width input) shown w w.calls entry.calls)
  rules_alike shown (Over Distinct input) entry = refl
  rules_alike shown (Over (Limit limit) input) entry = limit_alike (width input) shown limit entry.limit

  claims_alike : (plan : PlanTree) (entry : NodeRecord) (r : Result (List Traced) CertError) → claims_refusal node facts plan entry r ≡ claims_refusal node Other plan (lean_entry entry) (lean_shown r)
  claims_alike plan entry (Err refusal) = refl
  claims_alike plan entry (Ok shown) = λ i. or_else (keep_alike (width plan) shown entry.keep i) (rules_alike shown plan entry i)

  pub lean_refusal : AreAlike facts.list list → (plan : PlanTree) (entry : NodeRecord) → entry_refusal node facts plan entry ≡ entry_refusal node Other plan (lean_entry entry)
  lean_refusal alike plan entry = claims_alike plan entry (each_traced node facts entry.traces) ∙ ap (claims_refusal node Other plan (lean_entry entry)) (sym (each_lean alike entry.traces))

-- ---- over the same facts

pub kept_lean : (node : ℕ) (facts : FactList) (columns : ℕ) (to : List Target) (o : Option Traced) → kept_refusal node facts columns to o ≡ kept_refusal node facts columns (once member_of to) o
kept_lean node facts columns to None = refl
kept_lean node facts columns to (Some trace) =
    let targets = targets_all (is_target columns) to in
    let reached = each_alike node facts facts.list trace.has (map member_of to) (map member_of (once member_of to)) (targets_alike to) in
    λ i. or_else (refuse_unless (targets i) (OutOfRange node)) (refuse_unless (list_all (λ c. nat_lt c columns) trace.from && reached i) (UnreachedClaim node))
