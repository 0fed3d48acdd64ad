use Rattle.std.proofs.Common.{◌≡◌, None, Some, rules, slice_index_or}
use Rattle.wd_refute.proofs.Numbering.{if_some-map}
use Rattle.wd_refute.proofs.numbers.found_at.Goals as goal

pub returns-in-Some-Some : goal.returns-in-Some-Some
returns-in-Some-Some c =
    let stored = c.in-Some-Some.places in
    let is : slice_index_or c.args.stored.now c.args.column None ≡ Some stored = search rules in
    if_some-map c.find.result (λ place h. (stored, is, h.0, h.1)) c.find.ensures
