-- The refusal of a certificate for a plan and a schema, and when a certificate is valid.
use Rattle.std.specs.Prelude.{◌≡◌, ℕ, ◌+◌, Bool, true, false, not, ◌&&◌, ◌||◌, List, [], length, nat_eq, slice_index_or, Option, None, is_some, if◌then◌else◌}
use Rattle.std.specs.List.{AllByRecursion}
use Rattle.wd_schema.specs.Tables.{TableRule}
use Rattle.wd_plan.specs.Fits.{width}
use Rattle.wd_plan.specs.Plans.{Group, Window, Limit, PlanTree, Scan, Join, Over, node_count}
use Rattle.wd_certificate.specs.Certificates.{CertificateRecord, NodeRecord}
use Rattle.wd_certificate.specs.declared.certificate.Version.{Version}
use Rattle.wd_certificate.specs.declared.certificate.Version.TheVariants.{One, Two}
use Rattle.wd_certificate.specs.declared.error.CertError.{CertError}
use Rattle.wd_certificate.specs.declared.error.CertError.TheVariants as refused
use Rattle.wd_step_facts.specs.Facts.{Fact, FactList}
use Rattle.wd_facts.specs.Given.{given}
use Rattle.wd_rules.specs.Justified.{HasRules, IsGoodTrace, IsKept}
use Rattle.wd_rules.specs.Rules.{entry_refusal, kept_facts, or_else, refuse_unless}

-- ---- entries, one for each node in postorder; the nodes of a plan are numbered from a given number on

abbrev pub no_entry : NodeRecord
no_entry = record { calls = []; keep = []; limit = None; traces = [] }

abbrev pub entry_at : List NodeRecord → ℕ → NodeRecord
entry_at nodes n = slice_index_or nodes n no_entry

-- the number of a plan's top node, which comes after all others of the plan
abbrev pub top_number : PlanTree → ℕ → ℕ
top_number (Scan table columns) first = first
top_number (Join condition left right) first = (first + node_count left) + node_count right
top_number (Over step input) first = first + node_count input

-- the entry of a plan's top node
abbrev pub top_at : PlanTree → ℕ → List NodeRecord → NodeRecord
top_at plan first nodes = entry_at nodes (top_number plan first)

-- each node and its entry pass a test
abbrev pub all_entries : (PlanTree → NodeRecord → Bool) → PlanTree → ℕ → List NodeRecord → Bool
all_entries test (Scan table columns) first nodes = let plan = Scan table columns in test plan (top_at plan first nodes)
all_entries test (Join condition left right) first nodes = let plan = Join condition left right in
    (all_entries test left first nodes && all_entries test right (first + node_count left) nodes) && test plan (top_at plan first nodes)
all_entries test (Over step input) first nodes = let plan = Over step input in all_entries test input first nodes && test plan (top_at plan first nodes)

-- only a Limit has a limit
abbrev pub has_its_limit : PlanTree → NodeRecord → Bool
has_its_limit (Over (Limit limit) input) entry = true
has_its_limit plan entry = not (is_some entry.limit)

-- how many calls a plan's top node has
abbrev pub call_count : PlanTree → ℕ
call_count (Over (Window w) input) = length w.calls
call_count plan = 0

abbrev pub has_its_calls : PlanTree → NodeRecord → Bool
has_its_calls plan entry = nat_eq (length entry.calls) (call_count plan)

-- ---- versions

-- some node of a plan is a Group
abbrev pub has_group : PlanTree → Bool
has_group (Scan table columns) = false
has_group (Join condition left right) = has_group left || has_group right
has_group (Over (Group g) input) = true
has_group (Over step input) = has_group input

-- the least version whose certificates may describe a plan
abbrev pub version_needed : PlanTree → Version
version_needed plan = if has_group plan then Two else One

-- version 1 is allowed for a plan without a Group, version 2 for every plan
abbrev pub is_read_for : PlanTree → Version → Bool
is_read_for plan One = not (has_group plan)
is_read_for plan Two = true

-- ---- given facts

-- what the child of a plan's top node keeps; at a Join the left child
abbrev pub kept_below : PlanTree → ℕ → List NodeRecord → List Fact
kept_below (Scan table columns) first nodes = []
kept_below (Join condition left right) first nodes = kept_facts (top_at left first nodes)
kept_below (Over step input) first nodes = kept_facts (top_at input first nodes)

-- what the right child of a Join keeps
abbrev pub kept_right : PlanTree → ℕ → List NodeRecord → List Fact
kept_right (Join condition left right) first nodes = kept_facts (top_at right (first + node_count left) nodes)
kept_right plan first nodes = []

-- the given facts of a plan's top node, with what its children's entries keep
abbrev pub given_at : List TableRule → PlanTree → ℕ → List NodeRecord → FactList
given_at tables plan first nodes = given tables plan (kept_below plan first nodes) (kept_right plan first nodes)

-- ---- certificates

-- the entry of a plan's top node
abbrev pub top_refusal : List TableRule → PlanTree → ℕ → List NodeRecord → Option CertError
top_refusal tables plan first nodes = entry_refusal (top_number plan first) (given_at tables plan first nodes) plan (top_at plan first nodes)

-- the first refusal of a plan's entries in postorder
abbrev pub nodes_refusal : List TableRule → PlanTree → ℕ → List NodeRecord → Option CertError
nodes_refusal tables (Scan table columns) first nodes = top_refusal tables (Scan table columns) first nodes
nodes_refusal tables (Join condition left right) first nodes =
    or_else (nodes_refusal tables left first nodes) (or_else (nodes_refusal tables right (first + node_count left) nodes) (top_refusal tables (Join condition left right) first nodes))
nodes_refusal tables (Over step input) first nodes = or_else (nodes_refusal tables input first nodes) (top_refusal tables (Over step input) first nodes)

-- the form of a plan's entries: one for each node; limits only at Limits; as many rules as a node has calls
abbrev pub form_refusal : PlanTree → List NodeRecord → Option CertError
form_refusal plan nodes =
    or_else (refuse_unless (nat_eq (length nodes) (node_count plan)) refused.Count)
    (or_else (refuse_unless (all_entries has_its_limit plan 0 nodes) refused.Shape)
    (refuse_unless (all_entries has_its_calls plan 0 nodes) refused.Count))

-- the refusal of a plan's entries: by their form, then the first refusal in postorder
abbrev pub entries_refusal : List TableRule → PlanTree → List NodeRecord → Option CertError
entries_refusal tables plan nodes = or_else (form_refusal plan nodes) (nodes_refusal tables plan 0 nodes)

-- the refusal of a certificate: by its version, then by its entries
abbrev pub first_refusal : List TableRule → PlanTree → CertificateRecord → Option CertError
first_refusal tables plan certificate = or_else (refuse_unless (is_read_for plan certificate.version) refused.Version) (entries_refusal tables plan certificate.nodes)

-- ---- valid certificates

-- a valid entry of a node with these given facts: good traces, kept facts that are reached, a rule for each call, a limit only at a
-- Limit, and rules that are justified
pub record IsValidEntry (facts : FactList) (plan : PlanTree) (entry : NodeRecord) : Type 0 where
  pub traces : AllByRecursion (IsGoodTrace facts) entry.traces
  pub kept : AllByRecursion (IsKept facts (width plan) entry.traces) entry.keep
  pub calls : length entry.calls ≡ call_count plan
  pub limit : has_its_limit plan entry ≡ true
  pub rules : HasRules facts plan entry

-- the entry of a plan's top node is valid, given what its children's entries keep
abbrev pub IsValidTop : List TableRule → List NodeRecord → PlanTree → ℕ → Type 0
IsValidTop tables nodes plan first = IsValidEntry (given_at tables plan first nodes) plan (top_at plan first nodes)

-- a property of each node of a plan, whose nodes are numbered from a given number on
abbrev pub EachNode : (PlanTree → ℕ → Type 0) → PlanTree → ℕ → Type 0
EachNode P (Scan table columns) first = P (Scan table columns) first
EachNode P (Join condition left right) first = EachNode P left first × EachNode P right (first + node_count left) × P (Join condition left right) first
EachNode P (Over step input) first = EachNode P input first × P (Over step input) first

-- A valid certificate: its version is allowed for the plan, it has one entry for each node, and each entry is valid. The law
-- `ValidIsNotRefused` says that this is exactly a certificate that is not refused.
pub record IsValidCertificate (tables : List TableRule) (plan : PlanTree) (certificate : CertificateRecord) : Type 0 where
  pub version : is_read_for plan certificate.version ≡ true
  pub count : length certificate.nodes ≡ node_count plan
  pub entries : EachNode (IsValidTop tables certificate.nodes) plan 0
