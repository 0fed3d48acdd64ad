use Rattle.std.proofs.Common.{◌∙◌}
use Rattle.std.proofs.lemmas.Result.{IfErr-weaker, IfOk-weaker}
use Rattle.wd_certificate.specs.Certificates.{trace_of}
use Rattle.wd_node_facts.specs.Seen.{seen_of}
use Rattle.wd_traces.proofs.LeanTrace.{traced_lean}
use Rattle.wd_traces.proofs.trace.follow.Goals as goal

pub returns-clause-traced : goal.returns-clause-traced
returns-clause-traced c = IfOk-weaker c.walk.result _ _ (λ followed e. traced_lean c.args.node (seen_of c.args.known.now.facts) (trace_of c.args.trace.now) ∙ e) c.walk.ensures.traced

pub returns-clause-refused : goal.returns-clause-refused
returns-clause-refused c = IfErr-weaker c.walk.result _ _ (λ refusal e memory. traced_lean c.args.node (seen_of c.args.known.now.facts) (trace_of c.args.trace.now) ∙ e memory) c.walk.ensures.refused
