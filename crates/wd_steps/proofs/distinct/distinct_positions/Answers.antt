use Rattle.std.proofs.Common.{◌≡◌, ◌∙◌, ◌<◌, ◌≤◌, false, length, sym, arith, rules}
use Rattle.std.proofs.lemmas.List.{get_or_default}
use Rattle.wd_steps.specs.Repeats.{AreRepeats, repeats}
use Rattle.wd_steps.proofs.Occurrences.{first_all, first_dropped, first_kept}
use Rattle.wd_steps.proofs.Rising.{are_different, are_within}
use Rattle.wd_steps.proofs.distinct.distinct_positions.Goals as goal

pub loop-i-preserved : goal.loop-i-preserved
loop-i-preserved c =
    let rows = c.args.rows.now in
    let i = c.loop-i.i in
    let marks = c.in_ok-repeats.repeats.items in
    let are : AreRepeats rows marks = search rules in
    let within : i < length rows = omega arith in
    let marked : i < length marks = let e = are.long in omega arith in
    let test : c.index.result.now ≡ repeats rows i = c.index.ensures ∙ get_or_default marks i c.index.result.now false marked ∙ are.each i within in
    elim c.if-not-index.branch [
      | goal.then-not-index+in_ok-push w ↦ rw (w.kept-is, w.in_ok-push.ensures.items) (first_kept c.loop-i.invariant within (sym test ∙ w.if-not-index.true))
      | goal.else-not-index w ↦ rw w.kept-is (first_dropped c.loop-i.invariant within (sym test ∙ w.if-not-index.false))
    ]

pub returns : goal.returns
returns c =
    let rows = c.args.rows.now in
    let all : length rows ≤ c.loop-i.i = omega arith in
    let so_far = c.loop-i.invariant in
    record {
      first = first_all rows c.loop-i.kept.items c.loop-i.i so_far all;
      different = are_different so_far.order;
      within = are_within so_far.order (length rows) (omega arith);
    }
