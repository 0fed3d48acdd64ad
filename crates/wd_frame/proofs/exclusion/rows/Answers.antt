use Rattle.std.proofs.lemmas.Grind.{common_steps}
use Rattle.std.proofs.Common.{refl, arith}
use Rattle.wd_frame.proofs.Zones.{AreRows-more, AreRows-none}
use Rattle.wd_frame.proofs.exclusion.rows.Goals as goal

pub loop-place-init : goal.loop-place-init
loop-place-init c = rw c.in_ok-rows.ensures.items (AreRows-none c.args.length)

pub loop-place-preserved : goal.loop-place-preserved
loop-place-preserved c = rw c.in_ok-push.ensures.items (AreRows-more c.loop-place.place c.args.length c.loop-place.rows.items _ c.loop-place.invariant refl refl)

pub returns : goal.returns
returns c = grind (arith, common_steps)
