-- What the checks of an entry read, as pure data.
use Rattle.std.specs.Prelude.{◌≡◌, ◌++◌, ℕ, Bool, true, List, [], ◌∷◌, map, slice_get, Option, Some, None, Result, Ok, Err, if◌then◌else◌}
use Rattle.std.specs.Global.{Box}
use Rattle.wd_certificate.specs.Certificates.{KeptRecord, TraceRecord}
use Rattle.wd_certificate.specs.declared.certificate.Trace.{Trace}
use Rattle.wd_certificate.specs.declared.error.CertError.{CertError}
use Rattle.wd_step_facts.specs.declared.facts.Member.{Member}
use Rattle.wd_step_facts.specs.Facts.{FactList}
use Rattle.wd_rules.specs.Rules.{EvidenceRecord, kept_refusal, member_of, trace_or}
use Rattle.wd_rules.specs.Traces.{Traced, each_traced}
use Rattle.wd_sets.specs.Sets.{has}
use Rattle.wd_node_facts.specs.Seen.{columns_or_none, seen_of}
use Rattle.wd_node_facts.specs.declared.facts.KeptFact.{KeptFact}
use Rattle.wd_verify.specs.Lean.{lean_traces}
use Rattle.wd_traces.specs.Once.{once}
use Rattle.wd_verify.specs.declared.evidence.Evidence.{Evidence}
use Rattle.wd_traces.specs.declared.trace.Followed.{Followed}

-- what a trace shows with the members after its uses
abbrev pub shown_from : TraceRecord → (Member → Bool) → Traced
shown_from trace h = record { from = trace.from; has = h }

-- what a trace that the code followed shows
abbrev pub traced_of : Followed → Traced
traced_of followed = record { from = followed.from.items; has = has followed.set }

-- the same of one that was kept; another one stands in place of one that was not
abbrev pub traced_or : Traced → Option (Box Followed) → Traced
traced_or other None = other
traced_or other (Some followed) = traced_of followed.value

-- what the trace in a slot shows, if one is there and was kept
abbrev pub kept_in : Option (Option (Box Followed)) → Option Traced
kept_in None = None
kept_in (Some None) = None
kept_in (Some (Some followed)) = Some (traced_of followed.value)

-- a trace was appended, or where it is not to be kept nothing in its place
pub record IsAdded (is_kept : Bool) (trace : Followed) (old new : List (Option (Box Followed))) : Type 0 where
  pub slot : Option (Box Followed)
  pub appended : new ≡ old ++ slot ∷ []
  pub is : kept_in (Some slot) ≡ (if is_kept then Some (traced_of trace) else None)

-- each trace is good
abbrev pub AreGood : ℕ → FactList → List TraceRecord → Type 0
AreGood node facts traces = (shown : List Traced) × (each_traced node facts traces ≡ Ok shown)

-- each trace is good, and those that were kept show what the traces show
pub record AreOwn (node : ℕ) (facts : FactList) (traces : List TraceRecord) (kept : List (Option (Box Followed))) : Type 0 where
  pub shown : List Traced
  pub traced : each_traced node facts traces ≡ Ok shown
  pub own : (n : ℕ) (t : Traced) → kept_in (slice_get kept n) ≡ Some t → slice_get shown n ≡ Some t

-- the same, and those with the numbers that are asked for were kept
pub record AreFollowed (node : ℕ) (facts : FactList) (traces : List TraceRecord) (asked : ℕ → Bool) (kept : List (Option (Box Followed))) : Type 0 where
  pub all : AreOwn node facts traces kept
  pub at : (other : Traced) (n : ℕ) → asked n ≡ true → slice_get (map (traced_or other) kept) n ≡ slice_get all.shown n

-- of the traces with the numbers that are asked for these are the columns
abbrev pub HaveColumns : (ℕ → Bool) → List TraceRecord → List (List ℕ) → Type 0
HaveColumns asked traces columns = (n : ℕ) → asked n ≡ true → (trace_or (slice_get traces n)).from ≡ columns_or_none (slice_get columns n)

-- a kept fact of the code: the same trace, and what the targets name, each once
pub record IsKeptFact (kept : KeptRecord) (fact : KeptFact) : Type 0 where
  pub trace : fact.trace ≡ kept.trace
  pub to : fact.to.items ≡ map member_of (once member_of kept.to)

-- what the traces of an entry show, as far as they were kept
abbrev pub shown_by : Evidence → List Traced
shown_by evidence = map (traced_or (traced_of evidence.unnamed)) evidence.traces.items

abbrev pub evidence_of : Evidence → EvidenceRecord
evidence_of evidence = record { node = evidence.node; facts = seen_of evidence.known.facts; shown = shown_by evidence }

-- the traces of an entry were followed
abbrev pub IsFollowed : Evidence → List Trace → Type 0
IsFollowed evidence traces = AreOwn evidence.node (seen_of evidence.known.facts) (lean_traces traces) evidence.traces.items

-- what good traces show
abbrev pub shown_or_none : Result (List Traced) CertError → List Traced
shown_or_none (Ok shown) = shown
shown_or_none (Err refusal) = []

-- what all traces of an entry show
abbrev pub evidence_with : Evidence → List Trace → EvidenceRecord
evidence_with evidence traces = record {
  node = evidence.node;
  facts = seen_of evidence.known.facts;
  shown = shown_or_none (each_traced evidence.node (seen_of evidence.known.facts) (lean_traces traces));
}

-- the refusal of a kept fact by the trace that it names
abbrev pub claim_refusal : EvidenceRecord → ℕ → KeptRecord → Option CertError
claim_refusal evidence columns kept = kept_refusal evidence.node evidence.facts columns kept.to (slice_get evidence.shown kept.trace)

-- the refusal of a check, if it refuses
abbrev pub refusal_of : Result (Unit {0}) CertError → Option CertError
refusal_of (Ok done) = None
refusal_of (Err refusal) = Some refusal
