use Rattle.std.proofs.Common.{◌≡◌, ◌∙◌, [], ap, drop, length, rules}
use Rattle.std.proofs.lemmas.List.{drop_all}
use Rattle.wd_node_facts.specs.Seen.{seen_of}
use Rattle.wd_verify.specs.Named.{is_marked}
use Rattle.wd_verify.specs.Lean.{lean_traces}
use Rattle.wd_verify.proofs.Followed.{all_followed, followed_next}
use Rattle.wd_verify.proofs.evidence.follow_each.Goals as goal

pub loop-trace-preserved : goal.loop-trace-preserved
loop-trace-preserved c =
    let long : c.len.result ≡ length c.loop-trace.list.items = search rules in
    followed_next c.args.node (seen_of c.args.known.now.facts) c.args.traces.now c.args.marks.now c.loop-trace.trace-index c.trace-item.result c.in_ok-one.one c.is_marked-is_kept.result c.loop-trace.list.items c.add.new.list.items
    c.loop-trace-test.true c.trace-item.is c.in_ok-one.ensures.from c.in_ok-one.ensures.traced (c.is_marked-is_kept.ensures ∙ ap (is_marked c.args.marks.now) long) c.in_ok-add.ensures c.loop-trace.invariant

pub returns-clause-followed : goal.returns-clause-followed
returns-clause-followed c =
    let traces = c.args.traces.now in
    let rest = drop c.loop-trace.trace-index traces in
    let none : rest ≡ [] = drop_all c.loop-trace.trace-index traces (search rules) in
    all_followed c.args.node (seen_of c.args.known.now.facts) (lean_traces traces) (lean_traces rest) c.args.marks.now c.loop-trace.list.items (ap lean_traces none) c.loop-trace.invariant
