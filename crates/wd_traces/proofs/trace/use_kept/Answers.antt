use Rattle.std.proofs.Common.{◌+◌, ◌∙◌, ap, map, slice_get, sym}
use Rattle.std.proofs.lemmas.Option.{IfSome_then}
use Rattle.wd_step_facts.specs.Facts.{moved}
use Rattle.wd_sets.specs.Sets.{stands_in}
use Rattle.wd_traces.specs.Known.{kept_to, set_in}
use Rattle.wd_traces.proofs.trace.use_kept.Goals as goal

pub insert_moved_side-requires-clause-wide : goal.insert_moved_side-requires-clause-wide
insert_moved_side-requires-clause-wide c =
    let side = c.args.side.now in
    IfSome_then c.set_at-to.result c.set_at-to.ensures (λ s e m.
    c.requires.sets.to c.args.number s.now (ap (λ xs. set_in (slice_get xs c.args.number)) (sym c.deref-3.ensures.value) ∙ e) m
    ∙ ap (λ o. stands_in (map (moved (λ k. side.by + k) side.row) (kept_to o)) m) c.requires.at
    ∙ ap (λ xs. stands_in (map (moved (λ k. side.by + k) side.row) xs) m) (sym c.deref-4.ensures.value))
