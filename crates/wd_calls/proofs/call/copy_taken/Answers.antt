use Rattle.std.proofs.Common.{◌∙◌}
use Rattle.wd_frame.specs.IndexRanges.{lists_of, places_along}
use Rattle.wd_calls.specs.Parts.{partition_of}
use Rattle.wd_calls.proofs.FrameCalls.{IfOk-on}
use Rattle.wd_calls.proofs.SourceCalls.{taken_none, taken_some}
use Rattle.wd_calls.proofs.call.copy_taken.Goals as goal

pub returns-in-Some : goal.returns-in-Some
returns-in-Some c =
    let places = places_along (lists_of c.args.lists.now) c.args.place in
    IfOk-on c.copy_at.result c.copy_at.ensures
    (λ v e few. e ∙ taken_some c.args.row (partition_of c.args.partition.now) c.args.column places c.number_of.result c.in-Some.other (c.number_of.ensures few) c.in-Some.ensures)

pub returns-in-None : goal.returns-in-None
returns-in-None c = λ few.
    taken_none c.args.row (partition_of c.args.partition.now) c.args.column (places_along (lists_of c.args.lists.now) c.args.place) c.number_of.result (c.number_of.ensures few) c.in-None.ensures
