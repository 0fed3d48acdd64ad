-- What a node's entry in a certificate claims, and the refusal of a claim that its traces don't show.
use Rattle.std.specs.Prelude.{ℕ, Bool, true, false, not, ◌&&◌, ◌||◌, List, [], ◌∷◌, map, nat_eq, nat_lt, slice_get, Option, Some, None, Result, Ok, Err, is_some, if◌then◌else◌}
use Rattle.std.specs.List.{list_all}
use Rattle.wd_plan.specs.declared.function.FrameFunction.{FrameFunction}
use Rattle.wd_plan.specs.declared.function.FrameFunction.TheVariants.{ValueAt, Aggregate}
use Rattle.wd_plan.specs.declared.function.Function.{Function}
use Rattle.wd_plan.specs.declared.function.Function.TheVariants.{Ranking as Ranked, Shift as Shifted, OfFrame}
use Rattle.wd_plan.specs.declared.window.Call.{Call}
use Rattle.wd_plan.specs.Fits.{width}
use Rattle.wd_plan.specs.Frames.{is_stable}
use Rattle.wd_plan.specs.Outcomes.{class_at}
use Rattle.wd_plan.specs.Plans.{WindowRule, LimitRule, Window, Limit, PlanTree, Over}
use Rattle.wd_plan.specs.Settled.{is_by_peers}
use Rattle.wd_plan.specs.Sorting.{class_columns, order_columns, limit_class}
use Rattle.wd_certificate.specs.Certificates.{KeptRecord, NodeRecord, TraceRecord}
use Rattle.wd_certificate.specs.declared.certificate.Rule.{Rule}
use Rattle.wd_certificate.specs.declared.certificate.Rule.TheVariants as rule
use Rattle.wd_certificate.specs.declared.certificate.Target.{Target}
use Rattle.wd_certificate.specs.declared.certificate.Target.TheVariants as target
use Rattle.wd_certificate.specs.declared.error.CertError.{CertError}
use Rattle.wd_certificate.specs.declared.error.CertError.TheVariants.{Count, UnreachedClaim, UnjustifiedCall, SecondExchange, UnjustifiedLimit, OutOfRange}
use Rattle.wd_step_facts.specs.declared.facts.Member.{Member}
use Rattle.wd_step_facts.specs.declared.facts.Member.TheVariants as member
use Rattle.wd_step_facts.specs.Facts.{Fact, FactList, columns_named}
use Rattle.wd_step_facts.specs.Steps.{all_columns}
use Rattle.wd_sets.specs.Sets.{is_in}
use Rattle.wd_sets.specs.Reaches.{reaches_each}
use Rattle.wd_rules.specs.Traces.{Traced, each_traced}

-- ---- refusals in order

-- the first of two refusals
abbrev pub or_else : Option CertError → Option CertError → Option CertError
or_else (Some refusal) later = Some refusal
or_else None later = later

-- the refusal of the first element that has one
abbrev pub first_of : {X : Type 0} → (X → Option CertError) → List X → Option CertError
first_of f [] = None
first_of f (x ∷ xs) = or_else (f x) (first_of f xs)

abbrev pub refuse_unless : Bool → CertError → Option CertError
refuse_unless true refusal = None
refuse_unless false refusal = Some refusal

-- What the claims of an entry are judged by: the number and the given facts of its node, and what its traces show. They are claims of
-- rows with a number of columns: what is kept, of the node's own rows; calls and limits, of those of its input.
pub record EvidenceRecord : Type 0 where
  pub node : ℕ
  pub facts : FactList
  pub shown : List Traced

-- ---- kept facts

abbrev pub member_of : Target → Member
member_of (target.Column c) = member.Column c
member_of target.Row = member.Row

abbrev pub no_trace : TraceRecord
no_trace = record { from = []; uses = [] }

abbrev pub trace_or : Option TraceRecord → TraceRecord
trace_or None = no_trace
trace_or (Some trace) = trace

-- the fact that an entry keeps: the trace's columns determine the targets
abbrev pub kept_fact : List TraceRecord → KeptRecord → Fact
kept_fact traces kept = record { from = columns_named (trace_or (slice_get traces kept.trace)).from; to = map member_of kept.to }

-- the facts that an entry keeps, in their order
abbrev pub kept_facts : NodeRecord → List Fact
kept_facts entry = map (kept_fact entry.traces) entry.keep

-- a column below the given number of columns, or the row
abbrev pub is_target : ℕ → Target → Bool
is_target columns (target.Column c) = nat_lt c columns
is_target columns target.Row = true

-- a kept fact of a node with the given number of columns, by its trace
abbrev pub kept_refusal : ℕ → FactList → ℕ → List Target → Option Traced → Option CertError
kept_refusal node facts columns to None = Some (OutOfRange node)
kept_refusal node facts columns to (Some trace) =
    or_else (refuse_unless (list_all (is_target columns) to) (OutOfRange node))
    (refuse_unless (list_all (λ c. nat_lt c columns) trace.from && reaches_each facts trace.has (map member_of to)) (UnreachedClaim node))

-- kept facts, in order
abbrev pub keep_refusal : EvidenceRecord → ℕ → List KeptRecord → Option CertError
keep_refusal evidence columns keep = first_of (λ (kept : KeptRecord). kept_refusal evidence.node evidence.facts columns kept.to (slice_get evidence.shown kept.trace)) keep

-- ---- calls and limits

-- a trace shows that columns determine members: it starts from among the columns, and reaches each member
abbrev pub shows : FactList → (ℕ → Bool) → List Member → Traced → Bool
shows facts among members trace = list_all among trace.from && reaches_each facts trace.has members

-- the trace exists and passes a test
abbrev pub refuse_unless_shown : ℕ → CertError → (Traced → Bool) → Option Traced → Option CertError
refuse_unless_shown node refusal test None = Some (OutOfRange node)
refuse_unless_shown node refusal test (Some trace) = refuse_unless (test trace) refusal

abbrev pub column_at_frame : FrameFunction → Option ℕ
column_at_frame (ValueAt row c) = Some c
column_at_frame (Aggregate a) = None

-- the column whose value FIRST_VALUE, LAST_VALUE or NTH_VALUE takes
abbrev pub taken_column : Function → Option ℕ
taken_column (Ranked r) = None
taken_column (Shifted s) = None
taken_column (OfFrame f) = column_at_frame f

abbrev pub shows_column : FactList → (ℕ → Bool) → Option ℕ → Traced → Bool
shows_column facts among None trace = false
shows_column facts among (Some c) trace = shows facts among (member.Column c ∷ []) trace

-- over a stable frame, the trace reaches the column whose value the call takes
abbrev pub shows_value : FactList → (ℕ → Bool) → Call → Traced → Bool
shows_value facts among call trace = is_stable call.frame && shows_column facts among (taken_column call.function) trace

-- a call by the trace with this number, which passes a test
abbrev pub call_by_trace : EvidenceRecord → ℕ → (Traced → Bool) → Option CertError
call_by_trace evidence n test = refuse_unless_shown evidence.node (UnjustifiedCall evidence.node) test (slice_get evidence.shown n)

-- a call by its rule, where a test tells the columns of its class, over an input with the given number of columns
abbrev pub call_refusal : EvidenceRecord → ℕ → (ℕ → Bool) → Call → Rule → Option CertError
call_refusal evidence columns among call rule.Peers = refuse_unless (is_by_peers call.frame call.function) (UnjustifiedCall evidence.node)
call_refusal evidence columns among call (rule.Unique n) = call_by_trace evidence n (shows evidence.facts among (member.Row ∷ []))
call_refusal evidence columns among call (rule.Values n) = call_by_trace evidence n (shows_value evidence.facts among call)
call_refusal evidence columns among call (rule.Exchange n) = call_by_trace evidence n (shows evidence.facts among (columns_named (all_columns columns)))

-- calls, each by its own rule; there are as many rules as calls
abbrev pub calls_refusal : EvidenceRecord → ℕ → WindowRule → List Call → List Rule → Option CertError
calls_refusal evidence columns w [] [] = None
calls_refusal evidence columns w [] (r ∷ rules) = Some Count
calls_refusal evidence columns w (call ∷ calls) [] = Some Count
calls_refusal evidence columns w (call ∷ calls) (r ∷ rules) =
    or_else (call_refusal evidence columns (is_in (class_columns (class_at w call.class))) call r) (calls_refusal evidence columns w calls rules)

abbrev pub is_exchange : Rule → Bool
is_exchange rule.Peers = false
is_exchange (rule.Unique n) = false
is_exchange (rule.Values n) = false
is_exchange (rule.Exchange n) = true

-- the class of the first call that goes by `exchange`
abbrev pub exchange_class : List Call → List Rule → ℕ
exchange_class [] rules = 0
exchange_class (call ∷ calls) [] = 0
exchange_class (call ∷ calls) (r ∷ rules) = if is_exchange r then call.class else exchange_class calls rules

-- each call that goes by `exchange` is of this class
abbrev pub exchange_only : ℕ → List Call → List Rule → Bool
exchange_only class [] rules = true
exchange_only class (call ∷ calls) [] = true
exchange_only class (call ∷ calls) (r ∷ rules) = (not (is_exchange r) || nat_eq call.class class) && exchange_only class calls rules

-- no two classes of a Window go by `exchange`
abbrev pub has_one_exchange : List Call → List Rule → Bool
has_one_exchange calls rules = exchange_only (exchange_class calls rules) calls rules

-- the rules of a Window: of each call, and of its exchange class
abbrev pub window_refusal : EvidenceRecord → ℕ → WindowRule → List Rule → Option CertError
window_refusal evidence columns w rules =
    or_else (calls_refusal evidence columns w w.calls rules) (refuse_unless (has_one_exchange w.calls rules) (SecondExchange evidence.node))

-- a limit without a trace takes all rows, or ties, and has no offset
abbrev pub is_whole_or_ties : LimitRule → Bool
is_whole_or_ties limit = nat_eq limit.offset 0 && (not (is_some limit.count) || limit.ties)

-- a limit; with a trace, its sort keys determine every column
abbrev pub limit_refusal : EvidenceRecord → ℕ → LimitRule → Option ℕ → Option CertError
limit_refusal evidence columns limit None = refuse_unless (is_whole_or_ties limit) (UnjustifiedLimit evidence.node)
limit_refusal evidence columns limit (Some n) =
    let shows_all = shows evidence.facts (is_in (order_columns (limit_class limit))) (columns_named (all_columns columns)) in
    refuse_unless_shown evidence.node (UnjustifiedLimit evidence.node) shows_all (slice_get evidence.shown n)

-- ---- the entry of a plan's top node

abbrev pub rules_refusal : EvidenceRecord → PlanTree → NodeRecord → Option CertError
rules_refusal evidence (Over (Window w) input) entry = window_refusal evidence (width input) w entry.calls
rules_refusal evidence (Over (Limit limit) input) entry = limit_refusal evidence (width input) limit entry.limit
rules_refusal evidence plan entry = None

-- the claims of an entry, by its traces
abbrev pub claims_refusal : ℕ → FactList → PlanTree → NodeRecord → Result (List Traced) CertError → Option CertError
claims_refusal node facts plan entry (Err refusal) = Some refusal
claims_refusal node facts plan entry (Ok shown) =
    let evidence : EvidenceRecord = record { node = node; facts = facts; shown = shown } in
    or_else (keep_refusal evidence (width plan) entry.keep) (rules_refusal evidence plan entry)

-- traces, then kept facts, then calls or the limit
abbrev pub entry_refusal : ℕ → FactList → PlanTree → NodeRecord → Option CertError
entry_refusal node facts plan entry = claims_refusal node facts plan entry (each_traced node facts entry.traces)
