use Rattle.std.proofs.Common.{◌≡◌, ◌+◌, ◌++◌, length}
use Rattle.wd_dialect_text.specs.Masked.{masked, masked_from}
use Rattle.wd_dialect_text.proofs.mask.mask_text.Given as goal

abbrev pub invariant-loop-rest : goal.invariant-loop-rest
invariant-loop-rest l = record {
  so_far : l.found.items ++ masked_from l.state l.rest ≡ masked l.fn.text;
  places : length l.found.items + length l.rest ≡ length l.fn.text;
}

abbrev pub decreases-loop-rest : goal.decreases-loop-rest
decreases-loop-rest l = length l.rest
