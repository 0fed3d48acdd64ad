-- Queries whose reading by columns is written by hand.
use Rattle.std.proofs.Common.{refl}
use Rattle.wd_clauses.specs.Parts.{parts_at}
use Rattle.wd_clauses.specs.Reach.{closing_from, reach_from}
use Rattle.wd_distinct_on.specs.Selects.{respelled_below}
use Rattle.wd_using.specs.Pieces.{pieces_at}
use Rattle.wd_using.specs.Reach as level
use Rattle.wd_grouping.specs.Examples.{ExpressionsComeOut}
use Rattle.wd_grouping.specs.Replaced.{replaced}
use Rattle.wd_grouping.specs.Respelled.{respell_at}
use Rattle.wd_grouping.specs.Written.{opening}

pub expressions_come_out : ExpressionsComeOut
unfolding parts_at closing_from reach_from respelled_below pieces_at level.reach_from replaced respell_at opening
expressions_come_out = record {
  number_of_a_column = λ at. refl;
  number_of_an_expression = λ at. refl;
  without_a_name = λ at. refl;
  number_of_no_item_stays = λ at. refl;
  two_tables = λ at. refl;
}
