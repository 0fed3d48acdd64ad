-- Certificates as pure data, and how contracts see those of the code.
use Rattle.std.specs.Prelude.{ℕ, List, map, Option}
use Rattle.wd_certificate.specs.declared.certificate.Certificate.{Certificate}
use Rattle.wd_certificate.specs.declared.certificate.Kept.{Kept}
use Rattle.wd_certificate.specs.declared.certificate.Node.{Node}
use Rattle.wd_certificate.specs.declared.certificate.Rule.{Rule}
use Rattle.wd_certificate.specs.declared.certificate.Target.{Target}
use Rattle.wd_certificate.specs.declared.certificate.Trace.{Trace}
use Rattle.wd_certificate.specs.declared.certificate.Version.{Version}

-- the columns from which a trace starts, and the facts that it uses, in order
pub record TraceRecord : Type 0 where
  pub from : List ℕ
  pub uses : List ℕ

-- what a kept fact determines, and the trace that reaches it
pub record KeptRecord : Type 0 where
  pub to : List Target
  pub trace : ℕ

-- a node: the rules of its calls, the facts that it keeps, the trace of its limit, its traces
pub record NodeRecord : Type 0 where
  pub calls : List Rule
  pub keep : List KeptRecord
  pub limit : Option ℕ
  pub traces : List TraceRecord

-- a certificate: its nodes in postorder and its version
pub record CertificateRecord : Type 0 where
  pub nodes : List NodeRecord
  pub version : Version

-- what a trace of the code says
abbrev pub trace_of : Trace → TraceRecord
trace_of t = record { from = t.from.items; uses = t.uses.items }

-- what a kept fact of the code says
abbrev pub kept_of : Kept → KeptRecord
kept_of k = record { to = k.to.items; trace = k.trace }

-- what a node of the code says
abbrev pub node_of : Node → NodeRecord
node_of n = record { calls = n.calls.items; keep = map kept_of n.keep.items; limit = n.limit; traces = map trace_of n.traces.items }

-- the nodes of a certificate
abbrev pub nodes_of : Certificate → List NodeRecord
nodes_of certificate = map node_of certificate.nodes.items

-- what a certificate of the code says
abbrev pub certificate_of : Certificate → CertificateRecord
certificate_of certificate = record { nodes = nodes_of certificate; version = certificate.version }
