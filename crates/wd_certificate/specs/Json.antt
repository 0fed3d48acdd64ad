-- The JSON value and the text of a certificate.
use Rattle.std.specs.Prelude.{ℕ, List, codes, Option, Some, None}
use Rattle.serde_json.specs.Data.{Data, string, object, member, no_members}
use Rattle.serde_json.specs.Written.{compact_text}
use Rattle.wd_json.specs.Json.{number_json, list_json, optional_json, two_members_json, IsJsonOf}
use Rattle.wd_certificate.specs.Certificates.{TraceRecord, KeptRecord, NodeRecord, CertificateRecord}
use Rattle.wd_certificate.specs.declared.certificate.Rule.{Rule}
use Rattle.wd_certificate.specs.declared.certificate.Rule.TheVariants as rule
use Rattle.wd_certificate.specs.declared.certificate.Target.{Target}
use Rattle.wd_certificate.specs.declared.certificate.Target.TheVariants as target
use Rattle.wd_certificate.specs.declared.certificate.Version.{Version}
use Rattle.wd_certificate.specs.declared.certificate.Version.TheVariants.{One, Two}

-- a trace: its columns and its uses
abbrev pub trace_json : TraceRecord → Data
trace_json t = two_members_json (codes "from") (list_json number_json t.from) (codes "uses") (list_json number_json t.uses)

-- an output column, or the word for the row
abbrev pub target_json : Target → Data
target_json (target.Column c) = number_json c
target_json target.Row = string (codes "row")

-- a kept fact: its targets and its trace
abbrev pub kept_json : KeptRecord → Data
kept_json k = two_members_json (codes "to") (list_json target_json k.to) (codes "trace") (number_json k.trace)

-- the word of a rule
abbrev pub rule_word : Rule → List ℕ
rule_word rule.Peers = codes "peers"
rule_word (rule.Unique t) = codes "unique"
rule_word (rule.Values t) = codes "values"
rule_word (rule.Exchange t) = codes "exchange"

-- the trace of a rule, which `peers` does not have
abbrev pub rule_trace : Rule → Option ℕ
rule_trace rule.Peers = None
rule_trace (rule.Unique t) = Some t
rule_trace (rule.Values t) = Some t
rule_trace (rule.Exchange t) = Some t

-- a call: its rule and its trace
abbrev pub rule_json : Rule → Data
rule_json r = two_members_json (codes "rule") (string (rule_word r)) (codes "trace") (optional_json (rule_trace r))

-- an object of exactly a node's four members
abbrev pub node_members_json : Data → Data → Data → Data → Data
node_members_json calls keep limit traces = object (member (codes "calls") calls (member (codes "keep") keep (member (codes "limit") limit (member (codes "traces") traces no_members))))

-- a node: its calls, kept facts, limit and traces
abbrev pub node_json : NodeRecord → Data
node_json n = node_members_json (list_json rule_json n.calls) (list_json kept_json n.keep) (optional_json n.limit) (list_json trace_json n.traces)

-- the number of a version
abbrev pub version_number : Version → ℕ
version_number One = 1
version_number Two = 2

-- a certificate: its nodes and the number of its version, which may be any
abbrev pub certificate_json : ℕ → List NodeRecord → Data
certificate_json version nodes = two_members_json (codes "nodes") (list_json node_json nodes) (codes "version") (number_json version)

-- the text of a certificate: JSON without white space, members in alphabetical order of their names
abbrev pub certificate_text : CertificateRecord → List ℕ
certificate_text certificate = compact_text (certificate_json (version_number certificate.version) certificate.nodes)

-- the bytes spell a certificate of the version with this number, whether it is read or not, with these nodes
abbrev pub SpellsVersion : ℕ → List NodeRecord → List ℕ → Type 0
SpellsVersion version nodes bytes = IsJsonOf (certificate_json version nodes) bytes

-- the bytes spell this certificate
abbrev pub Spells : CertificateRecord → List ℕ → Type 0
Spells certificate bytes = SpellsVersion (version_number certificate.version) certificate.nodes bytes
