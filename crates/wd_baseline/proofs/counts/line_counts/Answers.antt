use Rattle.std.proofs.Common.{◌∙◌, ◌+◌, ap, ap₂, sym, arith, take, string_bytes}
use Rattle.std.proofs.lemmas.List.{length-take, take_all}
use Rattle.std.proofs.lemmas.List.Sums.{count_by-le-length}
use Rattle.std.specs.List.{count_by}
use Rattle.std.specs.Str.{bytes_eq}
use Rattle.wd_baseline.specs.Counts.{one_if}
use Rattle.wd_baseline.proofs.Counting.{count_more}
use Rattle.wd_baseline.proofs.counts.line_counts.Goals as goal

pub add_one-requires : goal.add_one-requires
add_one-requires c =
    let i = c.loop-line.line-index in
    let lines = c.args.lines.now in
    omega (arith, c.loop-line.invariant c.as_str.result.now, count_by-le-length (λ s. bytes_eq (string_bytes s) c.as_str.result.now) (take i lines), length-take i lines, c.loop-line-test.true)

pub loop-line-preserved : goal.loop-line-preserved
loop-line-preserved c = λ line.
    let i = c.loop-line.line-index in
    let lines = c.args.lines.now in
    c.in_ok-add_one.ensures line ∙ ap₂ (λ m b. m + one_if (bytes_eq b line)) (c.loop-line.invariant line) (c.as_str.ensures.value ∙ ap string_bytes c.line-item.is)
    ∙ sym (count_more line lines i c.line-item.result c.loop-line-test.true)

pub returns : goal.returns
returns c = λ line. c.loop-line.invariant line ∙ ap (count_by (λ s. bytes_eq (string_bytes s) line)) (take_all c.loop-line.line-index c.args.lines.now c.loop-line-test.false)
