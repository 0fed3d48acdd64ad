use Rattle.std.proofs.Common.{refl, subst, sym}
use Rattle.wd_frame.specs.Places.{part_of}
use Rattle.wd_calls.specs.Parts.{partition_of}
use Rattle.wd_calls.specs.Sources.{IsSourceOf}
use Rattle.wd_calls.proofs.FrameCalls.{IfOk-on}
use Rattle.wd_calls.proofs.call.source_of.Goals as goal

pub returns-in_ok-lists-in-OfFrame : goal.returns-in_ok-lists-in-OfFrame
returns-in_ok-lists-in-OfFrame c =
    let frame = c.args.call.now.frame in
    let part = part_of c.args.part.now in
    IfOk-on c.frame_source.result c.frame_source.ensures
    (λ s is. subst (λ f. IsSourceOf frame f (partition_of c.args.partition.now) part s) (sym c.in-OfFrame.is) (is frame part refl c.in_ok-lists-in-OfFrame.ensures))
