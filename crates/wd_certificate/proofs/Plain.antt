-- A certificate's JSON has no float and nests six deep.
use Rattle.std.proofs.Common.{◌≡◌, ℕ, ◌≤◌, List, false, refl, arith}
use Rattle.serde_json.specs.Data.{depth}
use Rattle.serde_json.specs.Read.{max_depth}
use Rattle.serde_json.specs.Written.{has_float}
use Rattle.wd_json.proofs.Plain.{no_float, deep, plain_numbers, plain_optional, deep_optional}
use Rattle.wd_certificate.specs.Certificates.{TraceRecord, KeptRecord, NodeRecord}
use Rattle.wd_json.specs.Json.{number_json}
use Rattle.wd_certificate.specs.Json.{trace_json, target_json, kept_json, rule_json, node_json, certificate_json}
use Rattle.wd_certificate.specs.declared.certificate.Rule.{Rule}
use Rattle.wd_certificate.specs.declared.certificate.Rule.TheVariants as rule
use Rattle.wd_certificate.specs.declared.certificate.Target.{Target}
use Rattle.wd_certificate.specs.declared.certificate.Target.TheVariants as target

plain_target : (t : Target) → has_float (target_json t) ≡ false
plain_target (target.Column c) = refl
plain_target target.Row = refl

plain_rule : (r : Rule) → has_float (rule_json r) ≡ false
plain_rule rule.Peers = refl
plain_rule (rule.Unique t) = refl
plain_rule (rule.Values t) = refl
plain_rule (rule.Exchange t) = refl

plain_trace : (t : TraceRecord) → has_float (trace_json t) ≡ false
plain_trace t = rw (plain_numbers t.from, plain_numbers t.uses)

plain_kept : (k : KeptRecord) → has_float (kept_json k) ≡ false
plain_kept k = rw (no_float target_json plain_target k.to)

plain_node : (n : NodeRecord) → has_float (node_json n) ≡ false
plain_node n = rw (no_float rule_json plain_rule n.calls, no_float kept_json plain_kept n.keep, plain_optional n.limit, no_float trace_json plain_trace n.traces)

pub plain_certificate : (version : ℕ) (nodes : List NodeRecord) → has_float (certificate_json version nodes) ≡ false
plain_certificate version nodes = rw (no_float node_json plain_node nodes)

deep_target : (t : Target) → depth (target_json t) ≤ 0
deep_target (target.Column c) = omega arith
deep_target target.Row = omega arith

deep_rule : (r : Rule) → depth (rule_json r) ≤ 1
deep_rule rule.Peers = omega arith
deep_rule (rule.Unique t) = omega arith
deep_rule (rule.Values t) = omega arith
deep_rule (rule.Exchange t) = omega arith

deep_trace : (t : TraceRecord) → depth (trace_json t) ≤ 2
deep_trace t = omega (arith, deep number_json 0 (λ n. omega arith) t.from, deep number_json 0 (λ n. omega arith) t.uses)

deep_kept : (k : KeptRecord) → depth (kept_json k) ≤ 2
deep_kept k = omega (arith, deep target_json 0 deep_target k.to)

deep_node : (n : NodeRecord) → depth (node_json n) ≤ 4
deep_node n = omega (arith, deep rule_json 1 deep_rule n.calls, deep kept_json 2 deep_kept n.keep, deep_optional n.limit, deep trace_json 2 deep_trace n.traces)

pub deep_certificate : (version : ℕ) (nodes : List NodeRecord) → depth (certificate_json version nodes) ≤ max_depth
deep_certificate version nodes = omega (arith, deep node_json 4 deep_node nodes)
