use Rattle.std.proofs.Common.{length, rules}
use Rattle.wd_steps.specs.Repeats.{AreMarked, IsRowSort}
use Rattle.wd_steps.proofs.Occurrences.{repeats_from_marks}
use Rattle.wd_steps.proofs.distinct.repeats_in.Goals as goal

pub returns : goal.returns
returns c =
    let rows = c.args.rows.now in
    let order = c.in_ok-order.order.items in
    let marks = c.in_ok-marks.marks.items in
    let sorted : IsRowSort rows order = search rules in
    let marked : AreMarked rows order (length order) marks = search rules in
    record { long = marked.long; each = repeats_from_marks rows order marks sorted marked }
