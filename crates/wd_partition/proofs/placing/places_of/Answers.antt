use Rattle.std.proofs.lemmas.Grind.{common_steps}
use Rattle.std.proofs.Common.{◌<◌, arith, get_or, length}
use Rattle.wd_partition.proofs.Filling.{ArePlaces-more}
use Rattle.wd_partition.proofs.Marks.{below_once}
use Rattle.wd_partition.proofs.placing.places_of.Goals as goal

pub index_mut-requires : goal.index_mut-requires
index_mut-requires c =
    let list = c.args.list.now in
    let low : get_or list c.loop-i.i 0 < length list = below_once (length list) list c.loop-i.i c.requires.once (omega arith) in
    let long = c.loop-i.invariant.long in
    omega (arith, c.loop-i.places.ok.0)

pub loop-i-preserved : goal.loop-i-preserved
loop-i-preserved c = ArePlaces-more c.args.list.now c.args.starts.now c.args.ends.now c.loop-i.i c.loop-i.places.items c.requires.once (omega arith) c.loop-i.invariant

pub returns : goal.returns
returns c = grind (arith, common_steps)
