use Rattle.std.proofs.lemmas.Grind.{common_steps}
use Rattle.std.proofs.Common.{arith}
use Rattle.wd_schema.proofs.MeetsFacts.{fits_columns-length}
use Rattle.wd_schema.proofs.instances.fits_columns.Goals as goal

pub returns-then-columns-row : goal.returns-then-columns-row
returns-then-columns-row c = fits_columns-length c.args.columns.now c.args.row.now c.if-columns-row.true

pub loop-i-preserved : goal.loop-i-preserved
loop-i-preserved c = grind (arith, common_steps)

pub returns : goal.returns
returns c = grind (arith, common_steps)
