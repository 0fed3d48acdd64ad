use Rattle.std.proofs.Common.{◌≡◌, ◌==◌, length, take, true}
use Rattle.std.specs.List.{list_all}
use Rattle.wd_witness_text.proofs.fits.have_length.Given as goal

abbrev pub invariant-loop-row : goal.invariant-loop-row
invariant-loop-row l = list_all (λ row. length row.items == l.columns) (take l.row-index l.rows) ≡ true
