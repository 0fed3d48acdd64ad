use Rattle.std.proofs.lemmas.Grind.{common_steps}
use Rattle.std.proofs.Common.{◌∙◌, ◌++◌, ◌∷◌, [], zero-add, ap, sym, arith}
use Rattle.std.proofs.lemmas.List.FromFn.{map-range_with_len_more}
use Rattle.wd_frame.specs.Slides.{seen}
use Rattle.wd_frame.proofs.Held.{seen-push}
use Rattle.wd_calls.specs.Parts.{partition_of}
use Rattle.wd_calls.specs.Values.{value_in}
use Rattle.wd_calls.proofs.partition.column_values.Goals as goal

pub loop-place-preserved : goal.loop-place-preserved
loop-place-preserved c =
    let place = c.loop-place.place in
    ap seen c.in_ok-push.ensures.items
    ∙ seen-push c.loop-place.values.items c.value_at.result
    ∙ (λ i. c.loop-place.invariant i ++ c.value_at.ensures i ∷ [])
    ∙ sym (map-range_with_len_more (value_in (partition_of c.args.partition.now) c.args.column) 0 place place (zero-add place))

pub returns : goal.returns
returns c = grind (arith, common_steps)
