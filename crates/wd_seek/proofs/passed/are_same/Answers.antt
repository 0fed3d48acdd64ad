use Rattle.std.proofs.Common.{◌≡◌, Bool, true, false, refl, sym}
use Rattle.std.specs.Prelude.{Decides}
use Rattle.std.proofs.lemmas.Slice.Eq.{slice_eq-Decides}
use mathlib.Core.Bool.{beq}
use Rattle.wd_seek.proofs.passed.are_same.Goals as goal

same_marks : (a b : Bool) → Decides (beq a b) (a ≡ b)
same_marks true true = (λ e. refl, λ e. refl)
same_marks true false = (λ e. sym e, λ e. sym e)
same_marks false true = (λ e. e, λ e. e)
same_marks false false = (λ e. refl, λ e. refl)

pub returns : goal.returns
returns c = λ h. (slice_eq-Decides same_marks c.args.left.now c.args.right.now c.eq.result c.eq.ensures).0 h
