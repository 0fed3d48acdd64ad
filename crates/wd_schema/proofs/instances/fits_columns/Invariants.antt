use Rattle.std.proofs.Common.{◌≡◌, drop}
use Rattle.wd_schema.specs.Meets.{fits_columns}
use Rattle.wd_schema.proofs.instances.fits_columns.Given as goal

abbrev pub invariant-loop-i : goal.invariant-loop-i
invariant-loop-i l = fits_columns (drop l.i l.columns) (drop l.i l.row) ≡ fits_columns l.columns l.row
