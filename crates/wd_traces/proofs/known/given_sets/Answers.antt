use Rattle.std.proofs.Common.{◌∙◌, slice_get, sym}
use Rattle.wd_traces.specs.Known.{from_of, to_of}
use Rattle.wd_traces.proofs.Wide.{from_at, to_at}
use Rattle.wd_traces.proofs.known.given_sets.Goals as goal

pub loop-number-preserved : goal.loop-number-preserved
loop-number-preserved c =
    let list = c.args.list.now in
    let number = c.loop-number.number in
    let fact = c.index-list-number.result in (
      c.in_ok-add_side.ensures (λ n. from_of (slice_get list n)) (from_at list number fact c.loop-number-test.true c.index-list-number.is ∙ sym c.deref.ensures.value) c.loop-number.invariant.0,
      c.in_ok-add_side-2.ensures (λ n. to_of (slice_get list n)) (to_at list number fact c.loop-number-test.true c.index-list-number.is ∙ sym c.deref-in-loop-number.ensures.value) c.loop-number.invariant.1,
    )
