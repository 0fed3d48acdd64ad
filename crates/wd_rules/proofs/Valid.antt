-- A certificate is valid exactly where it is not refused.
use Rattle.std.proofs.Common.{◌≡◌, ℕ, zero, suc, ◌+◌, Bool, true, false, cond, not, ◌&&◌, ◌||◌, List, [], ◌∷◌, length, map, refl, sym, ◌∙◌, ap, subst, Option, Some, None, nat_eq, nat_lt, slice_get, option_map, Result, Ok, Err, arith}
use Rattle.std.specs.List.{AllByRecursion, list_all}
use Rattle.std.proofs.lemmas.Bool.{and_parts, eqb-true, eq-eqb, false≢true}
use Rattle.std.proofs.lemmas.Option.{slice_get-map}
use Rattle.wd_schema.specs.Tables.{TableRule}
use Rattle.wd_plan.specs.declared.window.Call.{Call}
use Rattle.wd_plan.specs.Fits.{width}
use Rattle.wd_plan.specs.Frames.{is_stable}
use Rattle.wd_plan.specs.Outcomes.{class_at}
use Rattle.wd_plan.specs.Plans.{WindowRule, LimitRule, Window, Limit, PlanTree, Scan, Join, Over, node_count}
use Rattle.wd_plan.specs.Settled.{is_by_peers}
use Rattle.wd_plan.specs.Sorting.{class_columns, order_columns, limit_class}
use Rattle.wd_certificate.specs.Certificates.{CertificateRecord, KeptRecord, NodeRecord, TraceRecord}
use Rattle.wd_certificate.specs.declared.certificate.Rule.{Rule}
use Rattle.wd_certificate.specs.declared.certificate.Rule.TheVariants as rule
use Rattle.wd_certificate.specs.declared.error.CertError.{CertError}
use Rattle.wd_certificate.specs.declared.error.CertError.TheVariants as refused
use Rattle.wd_step_facts.specs.declared.facts.Member.{Member}
use Rattle.wd_step_facts.specs.declared.facts.Member.TheVariants as member
use Rattle.wd_step_facts.specs.Facts.{Fact, FactList, columns_named}
use Rattle.wd_step_facts.specs.Steps.{all_columns}
use Rattle.wd_sets.specs.Reaches.{also, reaches_each}
use Rattle.wd_sets.specs.Sets.{is_in, stands_in}
use Rattle.wd_rules.specs.Justified.{AreGood, AreJustified, Gives, HasOneExchange, HasRules, IsGoodTrace, IsJustified, IsJustifiedLimit, IsKept, after_uses, right_side, trace_has}
use Rattle.wd_rules.specs.Laws.{ValidIsNotRefused}
use Rattle.wd_rules.specs.Rules.{EvidenceRecord, call_refusal, calls_refusal, claims_refusal, entry_refusal, exchange_class, exchange_only, has_one_exchange, is_exchange, is_target, is_whole_or_ties, keep_refusal, kept_refusal, limit_refusal, member_of, or_else, refuse_unless, refuse_unless_shown, rules_refusal, shows, shows_column, shows_value, taken_column}
use Rattle.wd_rules.specs.Traces.{Traced, and_then, each_traced, traced, with_use, with_uses}
use Rattle.wd_rules.specs.Validity.{EachNode, IsValidCertificate, IsValidEntry, IsValidTop, all_entries, call_count, entries_refusal, first_refusal, form_refusal, given_at, has_its_calls, has_its_limit, is_read_for, nodes_refusal, top_at, top_number, top_refusal}
use Rattle.wd_rules.proofs.Refused.{first_passed, later_passed, ok_parts, passed}
use Rattle.wd_rules.proofs.Traces.{parts_of}

both_passed : (a b : Option CertError) → a ≡ None → b ≡ None → or_else a b ≡ None
both_passed a b e f = (λ i. or_else (e i) b) ∙ f

passes : (b : Bool) (refusal : CertError) → b ≡ true → refuse_unless b refusal ≡ None
passes b refusal e = λ i. refuse_unless (e i) refusal

both_true : (a b : Bool) → a ≡ true → b ≡ true → (a && b) ≡ true
both_true a b e f = λ i. e i && f i

module _ (node : ℕ) (facts : FactList) where
  -- ---- traces

  used : (has next : Member → Bool) (fact : Fact) → with_use node facts has (Some fact) ≡ Ok next → (reaches_each facts has fact.from ≡ true) × (next ≡ also has fact.to)
  used has next fact e = by (reaches_each facts has fact.from) refl e
    where
      by : (b : Bool) → reaches_each facts has fact.from ≡ b → cond b (Ok (also has fact.to)) (Err (refused.UnreachedUse node)) ≡ Ok next → (reaches_each facts has fact.from ≡ true) × (next ≡ also has fact.to)
      by true f g = (f, let h : also has fact.to ≡ next = cc in sym h)
      by false f g = cc

  uses_good : (has : Member → Bool) (uses : List ℕ) (more : Member → Bool) → with_uses node facts has uses ≡ Ok more → AreGood facts has uses × (more ≡ after_uses facts has uses)
  uses_good has [] more e = (tt, let f : has ≡ more = cc in sym f)
  uses_good has (n ∷ uses) more e =
      let parts = ok_parts (with_use node facts has (slice_get facts.list n)) (λ next. with_uses node facts next uses) more e in
      by (slice_get facts.list n) refl parts.0 parts.1 parts.2 (λ next. uses_good next uses more)
    where
      by : (o : Option Fact) → slice_get facts.list n ≡ o → (next : Member → Bool) → with_use node facts has o ≡ Ok next → with_uses node facts next uses ≡ Ok more
          → ((next : Member → Bool) → with_uses node facts next uses ≡ Ok more → AreGood facts next uses × (more ≡ after_uses facts next uses)) → AreGood facts has (n ∷ uses) × (more ≡ after_uses facts has (n ∷ uses))
      by None at next s l later = cc
      by (Some fact) at next s l later =
          let u = used has next fact s in
          let rest = later (also has fact.to) (subst (λ h. with_uses node facts h uses ≡ Ok more) u.1 l) in
          ((fact, at, u.0, rest.0), rest.1 ∙ ap (λ o. after_uses facts (also has (right_side o)) uses) (sym at))

  good_uses : (has : Member → Bool) (uses : List ℕ) → AreGood facts has uses → with_uses node facts has uses ≡ Ok (after_uses facts has uses)
  good_uses has [] g = refl
  good_uses has (n ∷ uses) g =
      ap (λ o. and_then (with_use node facts has o) (λ more. with_uses node facts more uses)) g.1
      ∙ ap (λ b. and_then (cond b (Ok (also has g.0.to)) (Err (refused.UnreachedUse node))) (λ more. with_uses node facts more uses)) g.2
      ∙ good_uses (also has g.0.to) uses g.3
      ∙ ap (λ o. Ok (after_uses facts (also has (right_side o)) uses)) (sym g.1)

  trace_good : (trace : TraceRecord) (has : Member → Bool) → traced node facts trace ≡ Ok has → IsGoodTrace facts trace × (has ≡ trace_has facts trace)
  trace_good trace has e = by (list_all (λ c. nat_lt c facts.columns) trace.from) refl e
    where
      by : (b : Bool) → list_all (λ c. nat_lt c facts.columns) trace.from ≡ b → cond b (with_uses node facts (stands_in (columns_named trace.from)) trace.uses) (Err (refused.OutOfRange node)) ≡ Ok has → IsGoodTrace facts trace × (has ≡ trace_has facts trace)
      by true f g = let u = uses_good (stands_in (columns_named trace.from)) trace.uses has g in (record { columns = f; uses = u.0 }, u.1)
      by false f g = cc

  good_trace : (trace : TraceRecord) → IsGoodTrace facts trace → traced node facts trace ≡ Ok (trace_has facts trace)
  good_trace trace g =
      ap (λ b. cond b (with_uses node facts (stands_in (columns_named trace.from)) trace.uses) (Err (refused.OutOfRange node))) g.columns
      ∙ good_uses (stands_in (columns_named trace.from)) trace.uses g.uses

  -- what a trace shows
  abbrev shown_of : TraceRecord → Traced
  shown_of trace = record { from = trace.from; has = trace_has facts trace }

  each_good : (traces : List TraceRecord) (shown : List Traced) → each_traced node facts traces ≡ Ok shown → AllByRecursion (IsGoodTrace facts) traces × (shown ≡ map shown_of traces)
  each_good [] shown e = (tt, let f : [] ≡ shown = cc in sym f)
  each_good (trace ∷ traces) shown e =
      let parts = parts_of node facts trace traces shown e in
      let first = trace_good trace parts.has parts.first in
      let rest = each_good traces parts.rest parts.later in
      ((first.0, rest.0), parts.is ∙ (λ i. record { from = trace.from; has = first.1 i } ∷ rest.1 i))

  good_each : (traces : List TraceRecord) → AllByRecursion (IsGoodTrace facts) traces → each_traced node facts traces ≡ Ok (map shown_of traces)
  good_each [] g = refl
  good_each (trace ∷ traces) g =
      λ i. and_then (good_trace trace g.0 i) (λ has. and_then (good_each traces g.1 i) (λ shown. Ok (record { from = trace.from; has = has } ∷ shown)))

  module _ (traces : List TraceRecord) where
    abbrev evidence : EvidenceRecord
    evidence = record { node = node; facts = facts; shown = map shown_of traces }

    -- a trace that is asked for is there and passes the test
    there : (refusal : CertError) (test : Traced → Bool) (n : ℕ) → refuse_unless_shown node refusal test (slice_get (map shown_of traces) n) ≡ None → (trace : TraceRecord) × (slice_get traces n ≡ Some trace) × (test (shown_of trace) ≡ true)
    there refusal test n e = by (slice_get traces n) refl (subst (λ o. refuse_unless_shown node refusal test o ≡ None) (slice_get-map shown_of traces n) e)
      where
        by : (o : Option TraceRecord) → slice_get traces n ≡ o → refuse_unless_shown node refusal test (option_map shown_of o) ≡ None → (trace : TraceRecord) × (slice_get traces n ≡ Some trace) × (test (shown_of trace) ≡ true)
        by None at f = cc
        by (Some trace) at f = (trace, at, passed (test (shown_of trace)) refusal f)

    back : (refusal : CertError) (test : Traced → Bool) (n : ℕ) (trace : TraceRecord) → slice_get traces n ≡ Some trace → test (shown_of trace) ≡ true → refuse_unless_shown node refusal test (slice_get (map shown_of traces) n) ≡ None
    back refusal test n trace at e =
        ap (refuse_unless_shown node refusal test) (slice_get-map shown_of traces n ∙ ap (option_map shown_of) at) ∙ passes (test (shown_of trace)) refusal e

    gives_there : (refusal : CertError) (among : ℕ → Bool) (members : List Member) (n : ℕ) → refuse_unless_shown node refusal (shows facts among members) (slice_get (map shown_of traces) n) ≡ None → Gives facts traces among members n
    gives_there refusal among members n e =
        let t = there refusal (shows facts among members) n e in
        let parts = and_parts (list_all among t.0.from) (reaches_each facts (trace_has facts t.0) members) t.2 in
        record { trace = t.0; named = t.1; within = parts.0; reached = parts.1 }

    gives_shows : (among : ℕ → Bool) (members : List Member) (n : ℕ) (g : Gives facts traces among members n) → shows facts among members (shown_of g.trace) ≡ true
    gives_shows among members n g = both_true (list_all among g.trace.from) (reaches_each facts (trace_has facts g.trace) members) g.within g.reached

    gives_back : (refusal : CertError) (among : ℕ → Bool) (members : List Member) (n : ℕ) → Gives facts traces among members n → refuse_unless_shown node refusal (shows facts among members) (slice_get (map shown_of traces) n) ≡ None
    gives_back refusal among members n g = back refusal (shows facts among members) n g.trace g.named (gives_shows among members n g)

    -- ---- kept facts

    kept_good : (columns : ℕ) (kept : KeptRecord) → kept_refusal node facts columns kept.to (slice_get (map shown_of traces) kept.trace) ≡ None → IsKept facts columns traces kept
    kept_good columns kept e = by (slice_get traces kept.trace) refl (subst (λ o. kept_refusal node facts columns kept.to o ≡ None) (slice_get-map shown_of traces kept.trace) e)
      where
        by : (o : Option TraceRecord) → slice_get traces kept.trace ≡ o → kept_refusal node facts columns kept.to (option_map shown_of o) ≡ None → IsKept facts columns traces kept
        by None at f = cc
        by (Some trace) at f =
            let within = list_all (λ c. nat_lt c columns) trace.from in
            let reached = reaches_each facts (trace_has facts trace) (map member_of kept.to) in
            let first = refuse_unless (list_all (is_target columns) kept.to) (refused.OutOfRange node) in
            let second = refuse_unless (within && reached) (refused.UnreachedClaim node) in
            let claim = and_parts within reached (passed (within && reached) (refused.UnreachedClaim node) (later_passed first second f)) in
            record { targets = passed (list_all (is_target columns) kept.to) (refused.OutOfRange node) (first_passed first second f); reached = record { trace = trace; named = at; within = claim.0; reached = claim.1 } }

    good_kept : (columns : ℕ) (kept : KeptRecord) → IsKept facts columns traces kept → kept_refusal node facts columns kept.to (slice_get (map shown_of traces) kept.trace) ≡ None
    good_kept columns kept k =
        let g = k.reached in
        let within = list_all (λ c. nat_lt c columns) g.trace.from in
        let reached = reaches_each facts (trace_has facts g.trace) (map member_of kept.to) in
        ap (kept_refusal node facts columns kept.to) (slice_get-map shown_of traces kept.trace ∙ ap (option_map shown_of) g.named)
        ∙ both_passed (refuse_unless (list_all (is_target columns) kept.to) (refused.OutOfRange node)) (refuse_unless (within && reached) (refused.UnreachedClaim node))
        (passes (list_all (is_target columns) kept.to) (refused.OutOfRange node) k.targets)
        (passes (within && reached) (refused.UnreachedClaim node) (both_true within reached g.within g.reached))

    keep_good : (columns : ℕ) (keep : List KeptRecord) → keep_refusal evidence columns keep ≡ None → AllByRecursion (IsKept facts columns traces) keep
    keep_good columns [] e = tt
    keep_good columns (kept ∷ keep) e =
        let own = kept_refusal node facts columns kept.to (slice_get (map shown_of traces) kept.trace) in
        let later = keep_refusal evidence columns keep in
        (kept_good columns kept (first_passed own later e), keep_good columns keep (later_passed own later e))

    good_keep : (columns : ℕ) (keep : List KeptRecord) → AllByRecursion (IsKept facts columns traces) keep → keep_refusal evidence columns keep ≡ None
    good_keep columns [] k = refl
    good_keep columns (kept ∷ keep) k =
        both_passed (kept_refusal node facts columns kept.to (slice_get (map shown_of traces) kept.trace)) (keep_refusal evidence columns keep)
        (good_kept columns kept k.0) (good_keep columns keep k.1)

    -- ---- calls

    value_there : (among : ℕ → Bool) (call : Call) (n : ℕ) → refuse_unless_shown node (refused.UnjustifiedCall node) (shows_value facts among call) (slice_get (map shown_of traces) n) ≡ None
        → (is_stable call.frame ≡ true) × (c : ℕ) × (taken_column call.function ≡ Some c) × Gives facts traces among (member.Column c ∷ []) n
    value_there among call n e =
        let t = there (refused.UnjustifiedCall node) (shows_value facts among call) n e in
        let parts = and_parts (is_stable call.frame) (shows_column facts among (taken_column call.function) (shown_of t.0)) t.2 in
        by t.0 t.1 parts.0 (taken_column call.function) refl parts.1
      where
        by : (trace : TraceRecord) → slice_get traces n ≡ Some trace → is_stable call.frame ≡ true → (o : Option ℕ) → taken_column call.function ≡ o → shows_column facts among o (shown_of trace) ≡ true
            → (is_stable call.frame ≡ true) × (c : ℕ) × (taken_column call.function ≡ Some c) × Gives facts traces among (member.Column c ∷ []) n
        by trace at stable None is f = absurd (false≢true f)
        by trace at stable (Some c) is f =
            let parts = and_parts (list_all among trace.from) (reaches_each facts (trace_has facts trace) (member.Column c ∷ [])) f in
            (stable, c, is, record { trace = trace; named = at; within = parts.0; reached = parts.1 })

    module _ (columns : ℕ) where
      call_good : (among : ℕ → Bool) (call : Call) (r : Rule) → call_refusal evidence columns among call r ≡ None → IsJustified facts columns traces among call r
      call_good among call rule.Peers e = passed (is_by_peers call.frame call.function) (refused.UnjustifiedCall node) e
      call_good among call (rule.Unique n) e = gives_there (refused.UnjustifiedCall node) among (member.Row ∷ []) n e
      call_good among call (rule.Values n) e = value_there among call n e
      call_good among call (rule.Exchange n) e = gives_there (refused.UnjustifiedCall node) among (columns_named (all_columns columns)) n e

      good_call : (among : ℕ → Bool) (call : Call) (r : Rule) → IsJustified facts columns traces among call r → call_refusal evidence columns among call r ≡ None
      good_call among call rule.Peers j = passes (is_by_peers call.frame call.function) (refused.UnjustifiedCall node) j
      good_call among call (rule.Unique n) j = gives_back (refused.UnjustifiedCall node) among (member.Row ∷ []) n j
      good_call among call (rule.Values n) j =
          let shown = gives_shows among (member.Column j.1 ∷ []) n j.3 in
          back (refused.UnjustifiedCall node) (shows_value facts among call) n j.3.trace j.3.named
          (both_true (is_stable call.frame) (shows_column facts among (taken_column call.function) (shown_of j.3.trace)) j.0 (ap (λ o. shows_column facts among o (shown_of j.3.trace)) j.2 ∙ shown))
      good_call among call (rule.Exchange n) j = gives_back (refused.UnjustifiedCall node) among (columns_named (all_columns columns)) n j

      module _ (w : WindowRule) where
        abbrev Own : Call → Rule → Type 0
        Own call r = IsJustified facts columns traces (is_in (class_columns (class_at w call.class))) call r

        calls_good : (calls : List Call) (rules : List Rule) → calls_refusal evidence columns w calls rules ≡ None → AreJustified facts columns traces w calls rules
        calls_good [] rules e i call r at by_rule = cc
        calls_good (first ∷ calls) [] e i call r at by_rule = cc
        calls_good (first ∷ calls) (own ∷ rules) e zero call r at by_rule =
            let here = call_refusal evidence columns (is_in (class_columns (class_at w first.class))) first own in
            let good = call_good (is_in (class_columns (class_at w first.class))) first own (first_passed here (calls_refusal evidence columns w calls rules) e) in
            let same_call : first ≡ call = cc in
            let same_rule : own ≡ r = cc in
            subst (λ k. Own k r) same_call (subst (Own first) same_rule good)
        calls_good (first ∷ calls) (own ∷ rules) e (suc i) call r at by_rule =
            let here = call_refusal evidence columns (is_in (class_columns (class_at w first.class))) first own in
            calls_good calls rules (later_passed here (calls_refusal evidence columns w calls rules) e) i call r at by_rule

        good_calls : (calls : List Call) (rules : List Rule) → length rules ≡ length calls → AreJustified facts columns traces w calls rules → calls_refusal evidence columns w calls rules ≡ None
        good_calls [] [] l j = refl
        good_calls [] (r ∷ rules) l j = absurd (omega (arith, l))
        good_calls (call ∷ calls) [] l j = absurd (omega (arith, l))
        good_calls (call ∷ calls) (r ∷ rules) l j =
            both_passed (call_refusal evidence columns (is_in (class_columns (class_at w call.class))) call r) (calls_refusal evidence columns w calls rules)
            (good_call (is_in (class_columns (class_at w call.class))) call r (j zero call r refl refl)) (good_calls calls rules (omega (arith, l)) (λ i. j (suc i)))

      limit_good : (limit : LimitRule) (n : Option ℕ) → limit_refusal evidence columns limit n ≡ None → IsJustifiedLimit facts columns traces limit n
      limit_good limit None e = passed (is_whole_or_ties limit) (refused.UnjustifiedLimit node) e
      limit_good limit (Some n) e = gives_there (refused.UnjustifiedLimit node) (is_in (order_columns (limit_class limit))) (columns_named (all_columns columns)) n e

      good_limit : (limit : LimitRule) (n : Option ℕ) → IsJustifiedLimit facts columns traces limit n → limit_refusal evidence columns limit n ≡ None
      good_limit limit None j = passes (is_whole_or_ties limit) (refused.UnjustifiedLimit node) j
      good_limit limit (Some n) j = gives_back (refused.UnjustifiedLimit node) (is_in (order_columns (limit_class limit))) (columns_named (all_columns columns)) n j

-- ---- one class that goes by `exchange`

-- each call that does is of a class
only_at : (class : ℕ) (calls : List Call) (rules : List Rule) → exchange_only class calls rules ≡ true → (i : ℕ) (call : Call) (n : ℕ) → slice_get calls i ≡ Some call → slice_get rules i ≡ Some (rule.Exchange n) → call.class ≡ class
only_at class [] rules e i call n at by_rule = cc
only_at class (first ∷ calls) [] e i call n at by_rule = cc
only_at class (first ∷ calls) (own ∷ rules) e zero call n at by_rule =
    let parts = and_parts (not (is_exchange own) || nat_eq first.class class) (exchange_only class calls rules) e in
    let same_call : first ≡ call = cc in
    let same_rule : own ≡ rule.Exchange n = cc in
    ap (λ (k : Call). k.class) (sym same_call) ∙ eqb-true first.class class (subst (λ r. (not (is_exchange r) || nat_eq first.class class) ≡ true) same_rule parts.0)
only_at class (first ∷ calls) (own ∷ rules) e (suc i) call n at by_rule =
    only_at class calls rules (and_parts (not (is_exchange own) || nat_eq first.class class) (exchange_only class calls rules) e).1 i call n at by_rule

at_only : (class : ℕ) (calls : List Call) (rules : List Rule) → ((i : ℕ) (call : Call) (n : ℕ) → slice_get calls i ≡ Some call → slice_get rules i ≡ Some (rule.Exchange n) → call.class ≡ class) → exchange_only class calls rules ≡ true
at_only class [] rules h = refl
at_only class (call ∷ calls) [] h = refl
at_only class (call ∷ calls) (rule.Peers ∷ rules) h = at_only class calls rules (λ i. h (suc i))
at_only class (call ∷ calls) (rule.Unique n ∷ rules) h = at_only class calls rules (λ i. h (suc i))
at_only class (call ∷ calls) (rule.Values n ∷ rules) h = at_only class calls rules (λ i. h (suc i))
at_only class (call ∷ calls) (rule.Exchange n ∷ rules) h = both_true (nat_eq call.class class) (exchange_only class calls rules) (eq-eqb call.class class (h zero call n refl refl)) (at_only class calls rules (λ i. h (suc i)))

one_good : (calls : List Call) (rules : List Rule) → has_one_exchange calls rules ≡ true → HasOneExchange calls rules
one_good calls rules e i j call other m n at by_rule at_other by_other =
    only_at (exchange_class calls rules) calls rules e i call m at by_rule ∙ sym (only_at (exchange_class calls rules) calls rules e j other n at_other by_other)

good_one : (calls : List Call) (rules : List Rule) → HasOneExchange calls rules → has_one_exchange calls rules ≡ true
good_one [] rules h = refl
good_one (call ∷ calls) [] h = refl
good_one (call ∷ calls) (rule.Peers ∷ rules) h = good_one calls rules (λ i j. h (suc i) (suc j))
good_one (call ∷ calls) (rule.Unique n ∷ rules) h = good_one calls rules (λ i j. h (suc i) (suc j))
good_one (call ∷ calls) (rule.Values n ∷ rules) h = good_one calls rules (λ i j. h (suc i) (suc j))
good_one (call ∷ calls) (rule.Exchange n ∷ rules) h =
    at_only call.class (call ∷ calls) (rule.Exchange n ∷ rules) (λ i other m at by_rule. h i zero other call m n at by_rule refl refl)

-- ---- entries

module _ (node : ℕ) (facts : FactList) where
  rules_good : (plan : PlanTree) (entry : NodeRecord) → rules_refusal (evidence node facts entry.traces) plan entry ≡ None → HasRules facts plan entry
  rules_good (Over (Window w) input) entry e =
      let own = calls_refusal (evidence node facts entry.traces) (width input) w w.calls entry.calls in
      let one = refuse_unless (has_one_exchange w.calls entry.calls) (refused.SecondExchange node) in
      (calls_good node facts entry.traces (width input) w w.calls entry.calls (first_passed own one e), one_good w.calls entry.calls (passed (has_one_exchange w.calls entry.calls) (refused.SecondExchange node) (later_passed own one e)))
  rules_good (Over (Limit limit) input) entry e = limit_good node facts entry.traces (width input) limit entry.limit e
  rules_good plan entry e = tt

  good_rules : (plan : PlanTree) (entry : NodeRecord) → length entry.calls ≡ call_count plan → HasRules facts plan entry → rules_refusal (evidence node facts entry.traces) plan entry ≡ None
  good_rules (Over (Window w) input) entry l h =
      both_passed (calls_refusal (evidence node facts entry.traces) (width input) w w.calls entry.calls) (refuse_unless (has_one_exchange w.calls entry.calls) (refused.SecondExchange node))
      (good_calls node facts entry.traces (width input) w w.calls entry.calls l h.0) (passes (has_one_exchange w.calls entry.calls) (refused.SecondExchange node) (good_one w.calls entry.calls h.1))
  good_rules (Over (Limit limit) input) entry l h = good_limit node facts entry.traces (width input) limit entry.limit h
  good_rules plan entry l h = refl

  entry_good : (plan : PlanTree) (entry : NodeRecord) → entry_refusal node facts plan entry ≡ None → has_its_limit plan entry ≡ true → has_its_calls plan entry ≡ true → IsValidEntry facts plan entry
  entry_good plan entry e limit calls = by (each_traced node facts entry.traces) refl e
    where
      by : (o : Result (List Traced) CertError) → each_traced node facts entry.traces ≡ o → claims_refusal node facts plan entry o ≡ None → IsValidEntry facts plan entry
      by (Ok shown) are f =
          let good = each_good node facts entry.traces shown are in
          let grounds = evidence node facts entry.traces in
          let keep = keep_refusal grounds (width plan) entry.keep in
          let rules = rules_refusal grounds plan entry in
          let g : or_else keep rules ≡ None = subst (λ s. claims_refusal node facts plan entry (Ok s) ≡ None) good.1 f in
          record {
            traces = good.0;
            kept = keep_good node facts entry.traces (width plan) entry.keep (first_passed keep rules g);
            calls = eqb-true (length entry.calls) (call_count plan) calls;
            limit = limit;
            rules = rules_good plan entry (later_passed keep rules g);
          }
      by (Err refusal) are f = cc

  good_entry : (plan : PlanTree) (entry : NodeRecord) → IsValidEntry facts plan entry → entry_refusal node facts plan entry ≡ None
  good_entry plan entry v =
      let grounds = evidence node facts entry.traces in
      ap (claims_refusal node facts plan entry) (good_each node facts entry.traces v.traces)
      ∙ both_passed (keep_refusal grounds (width plan) entry.keep) (rules_refusal grounds plan entry) (good_keep node facts entry.traces (width plan) entry.keep v.kept) (good_rules plan entry v.calls v.rules)

-- ---- plans

module _ (tables : List TableRule) (nodes : List NodeRecord) where
  top_good : (plan : PlanTree) (first : ℕ) → top_refusal tables plan first nodes ≡ None → has_its_limit plan (top_at plan first nodes) ≡ true → has_its_calls plan (top_at plan first nodes) ≡ true → IsValidTop tables nodes plan first
  top_good plan first e limit calls = entry_good (top_number plan first) (given_at tables plan first nodes) plan (top_at plan first nodes) e limit calls

  -- a node above one other
  over : (plan input : PlanTree) (first : ℕ) → or_else (nodes_refusal tables input first nodes) (top_refusal tables plan first nodes) ≡ None
      → (all_entries has_its_limit input first nodes && has_its_limit plan (top_at plan first nodes)) ≡ true → (all_entries has_its_calls input first nodes && has_its_calls plan (top_at plan first nodes)) ≡ true
      → (nodes_refusal tables input first nodes ≡ None → all_entries has_its_limit input first nodes ≡ true → all_entries has_its_calls input first nodes ≡ true → EachNode (IsValidTop tables nodes) input first)
      → EachNode (IsValidTop tables nodes) input first × IsValidTop tables nodes plan first
  over plan input first e limit calls below =
      let under = nodes_refusal tables input first nodes in
      let own = top_refusal tables plan first nodes in
      let limits = and_parts (all_entries has_its_limit input first nodes) (has_its_limit plan (top_at plan first nodes)) limit in
      let counts = and_parts (all_entries has_its_calls input first nodes) (has_its_calls plan (top_at plan first nodes)) calls in
      (below (first_passed under own e) limits.0 counts.0, top_good plan first (later_passed under own e) limits.1 counts.1)

  nodes_good : (plan : PlanTree) (first : ℕ) → nodes_refusal tables plan first nodes ≡ None → all_entries has_its_limit plan first nodes ≡ true → all_entries has_its_calls plan first nodes ≡ true → EachNode (IsValidTop tables nodes) plan first
  nodes_good (Scan table columns) first e limit calls = top_good (Scan table columns) first e limit calls
  nodes_good (Join condition left right) first e limit calls =
      let plan = Join condition left right in
      let second = first + node_count left in
      let of_left = nodes_refusal tables left first nodes in
      let of_right = nodes_refusal tables right second nodes in
      let own = top_refusal tables plan first nodes in
      let rest = later_passed of_left (or_else of_right own) e in
      let limits = and_parts (all_entries has_its_limit left first nodes && all_entries has_its_limit right second nodes) (has_its_limit plan (top_at plan first nodes)) limit in
      let counts = and_parts (all_entries has_its_calls left first nodes && all_entries has_its_calls right second nodes) (has_its_calls plan (top_at plan first nodes)) calls in
      let limits_below = and_parts (all_entries has_its_limit left first nodes) (all_entries has_its_limit right second nodes) limits.0 in
      let counts_below = and_parts (all_entries has_its_calls left first nodes) (all_entries has_its_calls right second nodes) counts.0 in (
        nodes_good left first (first_passed of_left (or_else of_right own) e) limits_below.0 counts_below.0,
        nodes_good right second (first_passed of_right own rest) limits_below.1 counts_below.1,
        top_good plan first (later_passed of_right own rest) limits.1 counts.1,
      )
  nodes_good (Over step input) first e limit calls = over (Over step input) input first e limit calls (nodes_good input first)

  -- what is said of each node from what its entry is
  pub record IsPassed (plan : PlanTree) (first : ℕ) : Type 0 where
    pub refused_none : nodes_refusal tables plan first nodes ≡ None
    pub limits : all_entries has_its_limit plan first nodes ≡ true
    pub counts : all_entries has_its_calls plan first nodes ≡ true

  good_top : (plan : PlanTree) (first : ℕ) → IsValidTop tables nodes plan first → top_refusal tables plan first nodes ≡ None
  good_top plan first v = good_entry (top_number plan first) (given_at tables plan first nodes) plan (top_at plan first nodes) v

  counted : (plan : PlanTree) (first : ℕ) → IsValidTop tables nodes plan first → has_its_calls plan (top_at plan first nodes) ≡ true
  counted plan first v = eq-eqb (length (top_at plan first nodes).calls) (call_count plan) v.calls

  good_nodes : (plan : PlanTree) (first : ℕ) → EachNode (IsValidTop tables nodes) plan first → IsPassed plan first
  good_nodes (Scan table columns) first v = record { refused_none = good_top (Scan table columns) first v; limits = v.limit; counts = counted (Scan table columns) first v }
  good_nodes (Join condition left right) first v =
      let plan = Join condition left right in
      let second = first + node_count left in
      let a = good_nodes left first v.0 in
      let b = good_nodes right second v.1 in
      record {
        refused_none = both_passed (nodes_refusal tables left first nodes) (or_else (nodes_refusal tables right second nodes) (top_refusal tables plan first nodes)) a.refused_none
            (both_passed (nodes_refusal tables right second nodes) (top_refusal tables plan first nodes) b.refused_none (good_top plan first v.2));
        limits = both_true (all_entries has_its_limit left first nodes && all_entries has_its_limit right second nodes) (has_its_limit plan (top_at plan first nodes))
            (both_true (all_entries has_its_limit left first nodes) (all_entries has_its_limit right second nodes) a.limits b.limits) v.2.limit;
        counts = both_true (all_entries has_its_calls left first nodes && all_entries has_its_calls right second nodes) (has_its_calls plan (top_at plan first nodes))
            (both_true (all_entries has_its_calls left first nodes) (all_entries has_its_calls right second nodes) a.counts b.counts) (counted plan first v.2);
      }
  good_nodes (Over step input) first v =
      let plan = Over step input in
      let a = good_nodes input first v.0 in
      record { refused_none = both_passed _ _ a.refused_none (good_top plan first v.1); limits = both_true _ _ a.limits v.1.limit; counts = both_true _ _ a.counts (counted plan first v.1) }

-- ---- certificates

pub valid : (tables : List TableRule) (plan : PlanTree) (certificate : CertificateRecord) → first_refusal tables plan certificate ≡ None → IsValidCertificate tables plan certificate
valid tables plan certificate e =
    let nodes = certificate.nodes in
    let version = refuse_unless (is_read_for plan certificate.version) refused.Version in
    let entries = entries_refusal tables plan nodes in
    let form = form_refusal plan nodes in
    let each = nodes_refusal tables plan 0 nodes in
    let count = refuse_unless (nat_eq (length nodes) (node_count plan)) refused.Count in
    let limits = refuse_unless (all_entries has_its_limit plan 0 nodes) refused.Shape in
    let counts = refuse_unless (all_entries has_its_calls plan 0 nodes) refused.Count in
    let all = later_passed version entries e in
    let formed = first_passed form each all in
    let later = later_passed count (or_else limits counts) formed in
    record {
      version = passed (is_read_for plan certificate.version) refused.Version (first_passed version entries e);
      count = eqb-true (length nodes) (node_count plan) (passed (nat_eq (length nodes) (node_count plan)) refused.Count (first_passed count (or_else limits counts) formed));
      entries = nodes_good tables nodes plan 0 (later_passed form each all) (passed (all_entries has_its_limit plan 0 nodes) refused.Shape (first_passed limits counts later)) (passed (all_entries has_its_calls plan 0 nodes) refused.Count (later_passed limits counts later));
    }

pub not_refused : (tables : List TableRule) (plan : PlanTree) (certificate : CertificateRecord) → IsValidCertificate tables plan certificate → first_refusal tables plan certificate ≡ None
not_refused tables plan certificate v =
    let nodes = certificate.nodes in
    let good = good_nodes tables nodes plan 0 v.entries in
    both_passed (refuse_unless (is_read_for plan certificate.version) refused.Version) (entries_refusal tables plan nodes) (passes (is_read_for plan certificate.version) refused.Version v.version)
    (both_passed (form_refusal plan nodes) (nodes_refusal tables plan 0 nodes)
    (both_passed (refuse_unless (nat_eq (length nodes) (node_count plan)) refused.Count) (or_else (refuse_unless (all_entries has_its_limit plan 0 nodes) refused.Shape) (refuse_unless (all_entries has_its_calls plan 0 nodes) refused.Count))
    (passes (nat_eq (length nodes) (node_count plan)) refused.Count (eq-eqb (length nodes) (node_count plan) v.count))
    (both_passed (refuse_unless (all_entries has_its_limit plan 0 nodes) refused.Shape) (refuse_unless (all_entries has_its_calls plan 0 nodes) refused.Count)
    (passes (all_entries has_its_limit plan 0 nodes) refused.Shape good.limits) (passes (all_entries has_its_calls plan 0 nodes) refused.Count good.counts)))
    good.refused_none)

pub valid_is_not_refused : ValidIsNotRefused
valid_is_not_refused tables plan certificate = (not_refused tables plan certificate, valid tables plan certificate)
