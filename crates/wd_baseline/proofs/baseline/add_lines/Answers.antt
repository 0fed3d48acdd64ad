use Rattle.std.proofs.Common.{◌∙◌, ◌++◌, ap, refl, string_bytes}
use Rattle.wd_baseline.specs.Baselines.{with_feed}
use Rattle.wd_baseline.proofs.Counting.{fed}
use Rattle.wd_baseline.proofs.baseline.add_lines.Goals as goal

pub loop-line-preserved : goal.loop-line-preserved
loop-line-preserved c =
    fed with_feed c.args.text.now.items c.loop-line.text.items _ _ c.args.lines.now c.loop-line.line-index c.line-item.result c.loop-line.invariant c.loop-line-test.true refl
    (c.in_ok-extend_from_slice.ensures.items ∙ ap (λ t. c.loop-line.text.items ++ t) (c.as_bytes.ensures.value ∙ ap string_bytes c.line-item.is)) c.in_ok-push.ensures.items
