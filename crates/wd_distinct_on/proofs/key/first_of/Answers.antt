use Rattle.std.proofs.Common.{sym}
use Rattle.std.proofs.lemmas.List.{take_min, take-map}
use Rattle.wd_distinct_on.specs.Named.{sort_key}
use Rattle.wd_distinct_on.proofs.key.first_of.Goals as goal

pub returns : goal.returns
returns c = rw (c.min.ensures, take_min c.args.count c.args.orders.now) (sym (take-map sort_key c.args.count c.args.orders.now))
