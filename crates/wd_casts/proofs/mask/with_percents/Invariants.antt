use Rattle.std.proofs.Common.{◌≡◌, ◌+◌, ◌++◌, false, length}
use Rattle.wd_dialect_text.specs.declared.mask.State.TheVariants.{Between}
use Rattle.wd_casts.specs.Masked.{masked_from}
use Rattle.wd_casts.proofs.mask.with_percents.Given as goal

abbrev pub invariant-loop-rest : goal.invariant-loop-rest
invariant-loop-rest l = record {
  so_far : l.found.items ++ masked_from l.is_second l.state l.rest ≡ masked_from false Between l.fn.text;
  places : length l.found.items + length l.rest ≡ length l.fn.text;
}

abbrev pub decreases-loop-rest : goal.decreases-loop-rest
decreases-loop-rest l = length l.rest
