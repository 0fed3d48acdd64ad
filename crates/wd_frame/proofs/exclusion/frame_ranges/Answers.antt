use Rattle.std.proofs.Common.{subst, sym}
use Rattle.wd_frame.specs.Places.{part_of}
use Rattle.wd_frame.specs.IndexRanges.{AreFrames, AreZones, lists_of}
use Rattle.wd_frame.proofs.Sliding.{IfOk-on}
use Rattle.wd_frame.proofs.Zones.{whole_frames, zone_frames}
use Rattle.wd_frame.proofs.exclusion.frame_ranges.Goals as goal

pub returns-in-NoOthers : goal.returns-in-NoOthers
returns-in-NoOthers c =
    let part = part_of c.args.part.now in
    IfOk-on c.only.result c.only.ensures
    (λ v is. subst (AreFrames part c.args.frame.now) (sym is) (whole_frames part c.args.frame.now c.in_ok-bounds.bounds.items c.in_ok-bounds.ensures c.in-NoOthers.is))

pub returns-in_ok-left_out-in_default : goal.returns-in_ok-left_out-in_default
returns-in_ok-left_out-in_default c =
    let part = part_of c.args.part.now in
    let frame = c.args.frame.now in
    let bounds = c.in_ok-bounds.bounds.items in
    let left_out = c.in_ok-left_out-in_default.left_out.items in
    IfOk-on c.in_zones.result c.in_zones.ensures
    (λ v are. zone_frames part frame bounds left_out c.in_ok-bounds.ensures
    c.in_ok-left_out-in_default.ensures c.in_default.not-NoOthers (lists_of v.items)
    (subst (λ zones. AreZones zones bounds left_out (lists_of v.items)) c.zones_of.ensures
    (subst (λ b. AreZones c.zones_of.result.now b left_out (lists_of v.items)) c.deref.ensures.value
    (subst (λ l. AreZones c.zones_of.result.now c.deref.result.now l (lists_of v.items)) c.deref-in_default.ensures.value are))))
