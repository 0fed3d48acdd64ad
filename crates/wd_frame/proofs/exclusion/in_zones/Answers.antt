use Rattle.std.proofs.lemmas.Grind.{common_steps}
use Rattle.std.proofs.Common.{◌∙◌, ◌∷◌, ◌++◌, [], take, get_or, ap, subst, sym, arith}
use Rattle.std.proofs.lemmas.List.{take_more}
use Rattle.wd_frame.specs.declared.exclusion.Zone.TheVariants.{Before}
use Rattle.wd_frame.specs.IndexRanges.{AreZones, lists_of}
use Rattle.wd_frame.proofs.Zones.{AreZones-push, lists_of-push}
use Rattle.wd_frame.proofs.exclusion.in_zones.Goals as goal

pub loop-zone-preserved : goal.loop-zone-preserved
loop-zone-preserved c =
    let zones = c.args.zones.now in
    let i = c.loop-zone.zone-index in
    let before = c.loop-zone.lists.items in
    rw (take_more zones i Before c.loop-zone-test.true)
    (subst (AreZones (take i zones ++ get_or zones i Before ∷ []) c.args.bounds.now c.args.left_out.now)
    (sym (ap lists_of c.in_ok-push.ensures.items ∙ lists_of-push before c.in_ok-list.list))
    (AreZones-push (take i zones) c.args.bounds.now c.args.left_out.now (lists_of before) (get_or zones i Before) c.in_ok-list.list.items c.loop-zone.invariant c.in_ok-list.ensures))

pub returns : goal.returns
returns c = grind (arith, common_steps)
