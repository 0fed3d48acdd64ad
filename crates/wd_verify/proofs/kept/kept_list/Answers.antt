use Rattle.std.proofs.Common.{◌≡◌, ◌<◌, get_or, length, subst}
use Rattle.wd_node_facts.specs.Seen.{each_columns}
use Rattle.wd_verify.specs.Lean.{lean_of}
use Rattle.wd_verify.proofs.Facts.{made_next, targets_next}
use Rattle.wd_verify.proofs.kept.kept_list.Goals as goal

pub kept_fact-requires : goal.kept_fact-requires
kept_fact-requires c =
    targets_next c.args.columns (lean_of c.args.entry.now).traces (each_columns c.args.traces.now) c.args.entry.now.keep.items c.loop-kept.kept-index c.kept-item.result c.loop-kept.list.items (subst (λ keep. c.loop-kept.kept-index < length keep) c.deref-kept-items.ensures.value c.loop-kept-test.true) (subst (λ keep. c.kept-item.result ≡ get_or keep c.loop-kept.kept-index c.kept-item.result) c.deref-kept-items.ensures.value c.kept-item.is) c.loop-kept.invariant

pub loop-kept-preserved : goal.loop-kept-preserved
loop-kept-preserved c =
    made_next c.args.columns (lean_of c.args.entry.now).traces (each_columns c.args.traces.now) c.args.entry.now.keep.items c.loop-kept.kept-index c.kept-item.result c.loop-kept.list.items (subst (λ keep. c.loop-kept.kept-index < length keep) c.deref-kept-items.ensures.value c.loop-kept-test.true) (subst (λ keep. c.kept-item.result ≡ get_or keep c.loop-kept.kept-index c.kept-item.result) c.deref-kept-items.ensures.value c.kept-item.is) c.loop-kept.invariant
    c.in_ok-fact.fact c.push.new.self.items c.in_ok-fact.ensures c.in_ok-push.ensures.items
