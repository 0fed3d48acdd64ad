use Rattle.std.proofs.Common.{sym, ◌∙◌}
use Rattle.wd_value.specs.Rows.{row_at}
use Rattle.wd_refute.proofs.Numbering.{number_from-uneven}
use Rattle.wd_refute.proofs.numbers.number_of.Goals as goal

pub returns-then-places-width : goal.returns-then-places-width
returns-then-places-width c = sym (number_from-uneven c.args.places.now (row_at c.args.rows.now c.args.position) 0 (λ e. c.if-places-width.true (e ∙ sym c.width.ensures)))
