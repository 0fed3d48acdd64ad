use Rattle.std.proofs.Common.{◌≡◌, ℕ, ◌-◌, ◌<◌, get_or, length}
use Rattle.wd_value.specs.declared.value.Value.TheVariants.{Null}
use Rattle.wd_value.specs.Rows.{column_of, row_at}
use Rattle.wd_eval.proofs.class_turn.are_before.Given as goal

abbrev pub invariant-loop-position : goal.invariant-loop-position
invariant-loop-position l = (p : ℕ) → p < l.position → get_or l.values p Null ≡ column_of (row_at l.rows p) (length (row_at l.rows p) - l.after)
