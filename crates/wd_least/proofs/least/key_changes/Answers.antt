use Rattle.std.proofs.Common.{arith, drop}
use Rattle.std.proofs.lemmas.List.{drop_all}
use Rattle.wd_least.proofs.Trying.{all_places}
use Rattle.wd_least.proofs.least.key_changes.Goals as goal

pub returns : goal.returns
returns c =
    let places = c.args.places.now in
    all_places c.args.keys.now places (drop c.loop-place.place-index places) c.loop-place.changes.items c.loop-place.invariant (drop_all c.loop-place.place-index places (omega arith))
