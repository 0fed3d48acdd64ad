use Rattle.std.proofs.Common.{◌∙◌, ap}
use Rattle.std.proofs.lemmas.Result.{IfErr-weaker, IfOk-weaker}
use Rattle.wd_sets.specs.Sets.{has}
use Rattle.wd_rules.specs.Traces.{with_use}
use Rattle.wd_node_facts.specs.Seen.{seen_of}
use Rattle.wd_traces.proofs.Members.{plain_at, read_at, read_past, side_at, side_past}
use Rattle.wd_traces.proofs.trace.use_side.Goals as goal

pub use_kept-requires-clause-plain : goal.use_kept-requires-clause-plain
use_kept-requires-clause-plain c =
    plain_at c.args.side.now c.args.number c.in-Some.kept.now c.requires.narrow (read_at c.deref.result.now c.args.side.now.keeps.list.items c.args.number c.in-Some.kept.now c.deref.ensures.value c.in-Some.ensures.lookup.0 c.in-Some.ensures.lookup.1)

pub returns-in-Some-clause-used : goal.returns-in-Some-clause-used
returns-in-Some-clause-used c =
    let at = side_at c.args.side.now c.args.number c.in-Some.kept.now (read_at c.deref.result.now c.args.side.now.keeps.list.items c.args.number c.in-Some.kept.now c.deref.ensures.value c.in-Some.ensures.lookup.0 c.in-Some.ensures.lookup.1) in
    IfOk-weaker c.use_kept.result _ _ (λ done e. ap (with_use c.args.node (seen_of c.args.known.now.facts) (has c.args.set.now)) at ∙ e) c.use_kept.ensures.used

pub returns-in-Some-clause-refused : goal.returns-in-Some-clause-refused
returns-in-Some-clause-refused c =
    let at = side_at c.args.side.now c.args.number c.in-Some.kept.now (read_at c.deref.result.now c.args.side.now.keeps.list.items c.args.number c.in-Some.kept.now c.deref.ensures.value c.in-Some.ensures.lookup.0 c.in-Some.ensures.lookup.1) in
    IfErr-weaker c.use_kept.result _ _ (λ refusal e memory. ap (with_use c.args.node (seen_of c.args.known.now.facts) (has c.args.set.now)) at ∙ e memory) c.use_kept.ensures.refused

pub returns-in-None-clause-refused : goal.returns-in-None-clause-refused
returns-in-None-clause-refused c memory =
    ap (with_use c.args.node (seen_of c.args.known.now.facts) (has c.args.set.now)) (side_past c.args.side.now c.args.number (read_past c.deref.result.now c.args.side.now.keeps.list.items c.args.number c.deref.ensures.value c.in-None.ensures.lookup.0))
