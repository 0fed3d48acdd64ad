-- Entries of a certificate in which no trace starts from a column twice, and no kept fact has a target twice.
use Rattle.std.specs.Prelude.{List, map}
use Rattle.wd_certificate.specs.Certificates.{KeptRecord, NodeRecord, TraceRecord, node_of, trace_of}
use Rattle.wd_certificate.specs.declared.certificate.Node.{Node}
use Rattle.wd_certificate.specs.declared.certificate.Trace.{Trace}
use Rattle.wd_rules.specs.Rules.{member_of}
use Rattle.wd_rules.specs.Traces.{Traced}
use Rattle.wd_traces.specs.Once.{columns_once, lean_trace, once}

abbrev pub lean_traced : Traced → Traced
lean_traced trace = record { from = columns_once trace.from; has = trace.has }

abbrev pub lean_kept : KeptRecord → KeptRecord
lean_kept kept = record { to = once member_of kept.to; trace = kept.trace }

abbrev pub lean_entry : NodeRecord → NodeRecord
lean_entry entry = record { calls = entry.calls; keep = map lean_kept entry.keep; limit = entry.limit; traces = map lean_trace entry.traces }

-- the lean forms of traces of the code
abbrev pub lean_traces : List Trace → List TraceRecord
lean_traces traces = map lean_trace (map trace_of traces)

-- the lean form of an entry of the code
abbrev pub lean_of : Node → NodeRecord
lean_of node = lean_entry (node_of node)
