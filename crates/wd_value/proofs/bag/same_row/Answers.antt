use Rattle.std.proofs.lemmas.Bool.Decides.{same_from_decides}
use Rattle.wd_value.proofs.SameLaws.{same_row-Decides}
use Rattle.wd_value.proofs.bag.same_row.Goals as goal

pub returns : goal.returns
returns c = same_from_decides _ _ c.is_equal.ensures (same_row-Decides _ _)
