use Rattle.std.proofs.Common.{length}
use Rattle.std.proofs.lemmas.List.Elements.{All-push}
use Rattle.wd_fix.proofs.Choosing.{choose, next_of, next_within, pass}
use Rattle.wd_judged.specs.Mended.{IsMended}
use Rattle.wd_file.proofs.file.add_statements.Goals as goal
use Rattle.wd_file.proofs.file.add_statements.Goals.{in-Some+in_ok-push, in_default}

pub add_statement-requires-clause-ordered : goal.add_statement-requires-clause-ordered
add_statement-requires-clause-ordered g c =
    let next = next_of c.loop-number.fixes.items c.args.spans.now c.loop-number.number (record { start = 0; end = 0 }) (length c.args.task.query.text.now) c.loop-number-test.true
    c.loop-number.invariant.ordered in
    let within = next_within c.loop-number.fixes.items _ _ (length c.args.task.query.text.now) next in
    within.0

pub add_statement-requires-clause-within : goal.add_statement-requires-clause-within
add_statement-requires-clause-within g c =
    let next = next_of c.loop-number.fixes.items c.args.spans.now c.loop-number.number (record { start = 0; end = 0 }) (length c.args.task.query.text.now) c.loop-number-test.true
    c.loop-number.invariant.ordered in
    let within = next_within c.loop-number.fixes.items _ _ (length c.args.task.query.text.now) next in
    within.1

pub loop-number-preserved : goal.loop-number-preserved
loop-number-preserved g c =
    let next = next_of c.loop-number.fixes.items c.args.spans.now c.loop-number.number (record { start = 0; end = 0 }) (length c.args.task.query.text.now) c.loop-number-test.true
    c.loop-number.invariant.ordered in
    elim c.match-branch-2.branch [
      | in-Some+in_ok-push w ↦
          let stands = rw w.in-Some.is at c.in_ok-fix.ensures.stands in
          let mended = rw w.in-Some.is at c.in_ok-fix.ensures.mended in
          rw (w.fixes-is, w.in_ok-push.ensures.items) (record {
            ordered = choose c.loop-number.fixes.items w.in-Some.fix _ _ (length c.args.task.query.text.now) stands next;
            mended = All-push (IsMended c.args.task.schema.text.now c.args.task.query.text.now) c.loop-number.fixes.items w.in-Some.fix c.loop-number.invariant.mended mended;
          })
      | in_default w ↦
          rw w.fixes-is (record {
            ordered = pass c.loop-number.fixes.items _ _ (length c.args.task.query.text.now) next;
            mended = c.loop-number.invariant.mended;
          })
    ]
