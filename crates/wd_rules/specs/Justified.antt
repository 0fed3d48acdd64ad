-- What the definition of a valid certificate asks of a node's entry: its traces are good, what it keeps is reached, and its calls and its
-- limit are justified.
use Rattle.std.specs.Prelude.{◌≡◌, ℕ, Bool, true, List, [], ◌∷◌, map, nat_lt, slice_get, Option, Some, None, ⊤}
use Rattle.std.specs.List.{list_all}
use Rattle.wd_plan.specs.declared.window.Call.{Call}
use Rattle.wd_plan.specs.Fits.{width}
use Rattle.wd_plan.specs.Frames.{is_stable}
use Rattle.wd_plan.specs.Outcomes.{class_at}
use Rattle.wd_plan.specs.Plans.{WindowRule, LimitRule, Window, Limit, PlanTree, Over}
use Rattle.wd_plan.specs.Settled.{is_by_peers}
use Rattle.wd_plan.specs.Sorting.{class_columns, order_columns, limit_class}
use Rattle.wd_certificate.specs.Certificates.{KeptRecord, NodeRecord, TraceRecord}
use Rattle.wd_certificate.specs.declared.certificate.Rule.{Rule}
use Rattle.wd_certificate.specs.declared.certificate.Rule.TheVariants as rule
use Rattle.wd_step_facts.specs.declared.facts.Member.{Member}
use Rattle.wd_step_facts.specs.declared.facts.Member.TheVariants as member
use Rattle.wd_step_facts.specs.Facts.{Fact, FactList, columns_named}
use Rattle.wd_step_facts.specs.Steps.{all_columns}
use Rattle.wd_sets.specs.Reaches.{also, reaches_each}
use Rattle.wd_sets.specs.Sets.{is_in, stands_in}
use Rattle.wd_rules.specs.Rules.{is_target, is_whole_or_ties, member_of, taken_column}

-- ---- traces

-- Uses in order: each names a given fact whose left side is reached by then; its right side is reached from then on.
abbrev pub AreGood : FactList → (Member → Bool) → List ℕ → Type 0
AreGood facts has [] = ⊤
AreGood facts has (n ∷ uses) = (fact : Fact) × (slice_get facts.list n ≡ Some fact) × (reaches_each facts has fact.from ≡ true) × AreGood facts (also has fact.to) uses

-- a trace starts from columns of the facts, and each of its uses is good
pub record IsGoodTrace (facts : FactList) (trace : TraceRecord) : Type 0 where
  pub columns : list_all (λ c. nat_lt c facts.columns) trace.from ≡ true
  pub uses : AreGood facts (stands_in (columns_named trace.from)) trace.uses

abbrev pub right_side : Option Fact → List Member
right_side None = []
right_side (Some fact) = fact.to

-- the members after these uses; what follows from them is reached
abbrev pub after_uses : FactList → (Member → Bool) → List ℕ → Member → Bool
after_uses facts has [] = has
after_uses facts has (n ∷ uses) = after_uses facts (also has (right_side (slice_get facts.list n))) uses

-- the members after the uses of a trace
abbrev pub trace_has : FactList → TraceRecord → Member → Bool
trace_has facts trace = after_uses facts (stands_in (columns_named trace.from)) trace.uses

-- the number names a trace of the entry; the trace starts from among some columns, and reaches the members
pub record Gives (facts : FactList) (traces : List TraceRecord) (among : ℕ → Bool) (members : List Member) (number : ℕ) : Type 0 where
  pub trace : TraceRecord
  pub named : slice_get traces number ≡ Some trace
  pub within : list_all among trace.from ≡ true
  pub reached : reaches_each facts (trace_has facts trace) members ≡ true

-- ---- kept facts

-- a kept fact over this number of columns: each target is one of these or the row, and its trace reaches it from among these columns
pub record IsKept (facts : FactList) (columns : ℕ) (traces : List TraceRecord) (kept : KeptRecord) : Type 0 where
  pub targets : list_all (is_target columns) kept.to ≡ true
  pub reached : Gives facts traces (λ c. nat_lt c columns) (map member_of kept.to) kept.trace

-- ---- calls and limits

-- a call by its rule, where a test tells the columns of its class, over an input with this number of columns
abbrev pub IsJustified : FactList → ℕ → List TraceRecord → (ℕ → Bool) → Call → Rule → Type 0
IsJustified facts columns traces among call rule.Peers = is_by_peers call.frame call.function ≡ true
IsJustified facts columns traces among call (rule.Unique n) = Gives facts traces among (member.Row ∷ []) n
IsJustified facts columns traces among call (rule.Values n) = (is_stable call.frame ≡ true) × (c : ℕ) × (taken_column call.function ≡ Some c) × Gives facts traces among (member.Column c ∷ []) n
IsJustified facts columns traces among call (rule.Exchange n) = Gives facts traces among (columns_named (all_columns columns)) n

-- each call of a Window by the rule with its number
abbrev pub AreJustified : FactList → ℕ → List TraceRecord → WindowRule → List Call → List Rule → Type 0
AreJustified facts columns traces w calls rules = (i : ℕ) (call : Call) (r : Rule)
    → slice_get calls i ≡ Some call → slice_get rules i ≡ Some r → IsJustified facts columns traces (is_in (class_columns (class_at w call.class))) call r

-- any two calls that go by `exchange` have one class
abbrev pub HasOneExchange : List Call → List Rule → Type 0
HasOneExchange calls rules = (i j : ℕ) (call other : Call) (m n : ℕ)
    → slice_get calls i ≡ Some call → slice_get rules i ≡ Some (rule.Exchange m) → slice_get calls j ≡ Some other → slice_get rules j ≡ Some (rule.Exchange n)
    → call.class ≡ other.class

-- a limit without a trace takes all rows, or has ties, and has no offset; a limit with a trace has sort keys that determine every column
-- by that trace
abbrev pub IsJustifiedLimit : FactList → ℕ → List TraceRecord → LimitRule → Option ℕ → Type 0
IsJustifiedLimit facts columns traces limit None = is_whole_or_ties limit ≡ true
IsJustifiedLimit facts columns traces limit (Some n) = Gives facts traces (is_in (order_columns (limit_class limit))) (columns_named (all_columns columns)) n

-- the calls of a Window and the limit of a Limit; no other node has either
abbrev pub HasRules : FactList → PlanTree → NodeRecord → Type 0
HasRules facts (Over (Window w) input) entry = AreJustified facts (width input) entry.traces w w.calls entry.calls × HasOneExchange w.calls entry.calls
HasRules facts (Over (Limit limit) input) entry = IsJustifiedLimit facts (width input) entry.traces limit entry.limit
HasRules facts plan entry = ⊤
