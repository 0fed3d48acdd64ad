use Rattle.std.proofs.Common.{◌∙◌}
use Rattle.std.proofs.lemmas.Result.{IfErr-weaker, IfOk-weaker}
use Rattle.wd_certificate.specs.Certificates.{trace_of}
use Rattle.wd_sets.specs.Sets.{has}
use Rattle.wd_node_facts.specs.Seen.{seen_of}
use Rattle.wd_traces.proofs.Members.{after_start}
use Rattle.wd_traces.proofs.trace.walk.Goals as goal

pub returns-clause-traced : goal.returns-clause-traced
returns-clause-traced c =
    let same = after_start c.args.node (seen_of c.args.known.now.facts) (has c.in_ok-followed.followed.set) (trace_of c.args.trace.now) c.deref.result.now c.in_ok-followed.ensures.below c.in_ok-followed.ensures.named c.deref.ensures.value in
    IfOk-weaker c.use_each.result _ _ (λ followed e. same ∙ e) c.use_each.ensures.used

pub returns-clause-refused : goal.returns-clause-refused
returns-clause-refused c =
    let same = after_start c.args.node (seen_of c.args.known.now.facts) (has c.in_ok-followed.followed.set) (trace_of c.args.trace.now) c.deref.result.now c.in_ok-followed.ensures.below c.in_ok-followed.ensures.named c.deref.ensures.value in
    IfErr-weaker c.use_each.result _ _ (λ refusal e memory. same ∙ e memory) c.use_each.ensures.refused
