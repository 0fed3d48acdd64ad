use Rattle.std.proofs.Common.{[], length, take, get_or}
use Rattle.std.proofs.lemmas.List.{take_more}
use Rattle.wd_fix.proofs.Choosing.{next_of, next_within, pass}
use Rattle.wd_lex.specs.declared.token.Span.{Span}
use Rattle.wd_file.proofs.Entries.{one_more}
use Rattle.wd_file.proofs.lock.entries_for.Goals as goal

pub loop-span-preserved : goal.loop-span-preserved
loop-span-preserved g c =
    let other : Span = record { start = 0; end = 0 } in
    let next = next_of [] c.args.spans.now c.loop-span.span-index other (length c.args.text.now) c.loop-span-test.true c.loop-span.invariant.ordered in
    record {
      are = rw (take_more c.args.spans.now c.loop-span.span-index other c.loop-span-test.true, c.in_ok-push.ensures.items)
          (one_more c.args.schema.now c.args.text.now (take c.loop-span.span-index c.args.spans.now) c.loop-span.entries.items (get_or c.args.spans.now c.loop-span.span-index other) c.in_ok-entry.entry
          c.loop-span.invariant.are c.in_ok-entry.ensures);
      ordered = pass [] _ _ (length c.args.text.now) next;
    }

pub slice_bounds-entry_for-end : goal.slice_bounds-entry_for-end
slice_bounds-entry_for-end g c =
    let other : Span = record { start = 0; end = 0 } in
    let next = next_of [] c.args.spans.now c.loop-span.span-index other (length c.args.text.now) c.loop-span-test.true c.loop-span.invariant.ordered in
    let within = next_within [] _ _ (length c.args.text.now) next in
    within.1
