use Rattle.std.proofs.Common.{subst}
use Rattle.wd_node_facts.specs.Seen.{seen_of}
use Rattle.wd_verify.specs.Lean.{lean_of, lean_traces}
use Rattle.wd_verify.specs.Named.{is_marked, is_of_rules}
use Rattle.wd_verify.specs.Shown.{AreFollowed}
use Rattle.wd_verify.proofs.Followed.{fewer_asked}
use Rattle.wd_verify.proofs.entry.judge_entry.Goals as goal

pub check_claims-requires-clause-followed : goal.check_claims-requires-clause-followed
check_claims-requires-clause-followed c =
    let facts = seen_of c.args.known.facts in
    let entry = lean_of c.args.entry.now in
    let kept = c.in_ok-traces.traces.items in
    fewer_asked c.args.node facts entry.traces (is_marked c.in_ok-marks.marks.items) (is_of_rules entry) kept c.in_ok-marks.ensures
    (subst (λ marks. AreFollowed c.args.node facts entry.traces (is_marked marks) kept) c.deref-2.ensures.value
    (subst (λ traces. AreFollowed c.args.node facts (lean_traces traces) (is_marked c.deref-2.result.now) kept) c.deref.ensures.value c.in_ok-traces.ensures.followed))
