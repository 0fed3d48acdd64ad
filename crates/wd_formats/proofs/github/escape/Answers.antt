use Rattle.std.proofs.Common.{◌∙◌, ◌++◌, ap, get_or, sym}
use Rattle.std.specs.List.{flat_map}
use Rattle.std.proofs.lemmas.List.{take_all}
use Rattle.wd_formats.specs.Annotations.{part_byte}
use Rattle.wd_formats.proofs.Parts.{one_more}
use Rattle.wd_formats.proofs.github.escape.Goals as goal

pub loop-byte-preserved : goal.loop-byte-preserved
loop-byte-preserved c =
    let i = c.loop-byte.byte-index in
    let part = c.args.part in
    c.in_ok-add_byte.ensures ∙ ap (λ done. done ++ part_byte part (get_or c.args.text.now i 0)) c.loop-byte.invariant ∙ sym (one_more (part_byte part) c.args.text.now i c.loop-byte-test.true)

pub returns : goal.returns
returns c = c.loop-byte.invariant ∙ ap (flat_map (part_byte c.args.part)) (take_all c.loop-byte.byte-index c.args.text.now c.loop-byte-test.false)
