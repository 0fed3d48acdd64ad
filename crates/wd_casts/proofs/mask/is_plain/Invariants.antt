use Rattle.std.proofs.Common.{◌≡◌, length}
use Rattle.wd_dialect_text.specs.declared.mask.State.TheVariants.{Between}
use Rattle.wd_casts.specs.Masked.{is_plain}
use Rattle.wd_casts.proofs.mask.is_plain.Given as goal

abbrev pub invariant-loop-rest : goal.invariant-loop-rest
invariant-loop-rest l = is_plain l.state l.rest ≡ is_plain Between l.fn.text

abbrev pub decreases-loop-rest : goal.decreases-loop-rest
decreases-loop-rest l = length l.rest
