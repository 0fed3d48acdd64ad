-- Queries whose reading without USING is written by hand.
use Rattle.std.proofs.Common.{refl}
use Rattle.wd_clauses.specs.Parts.{parts_at}
use Rattle.wd_clauses.specs.Reach.{closing_from, reach_from}
use Rattle.wd_distinct_on.specs.Selects.{respelled_below}
use Rattle.wd_using.specs.Examples.{UsingComesOut}
use Rattle.wd_using.specs.Joins.{joined_tables, source_at, table_at}
use Rattle.wd_using.specs.Pieces.{pieces_at}
use Rattle.wd_using.specs.Reach as level
use Rattle.wd_using.specs.Respelled.{respell_at}
use Rattle.wd_using.specs.Written.{qualified}

pub using_comes_out : UsingComesOut
unfolding parts_at closing_from reach_from joined_tables source_at table_at pieces_at level.reach_from respell_at respelled_below qualified
using_comes_out = record {
  one = λ at. refl;
  two = λ at. refl;
  derived = λ at. refl;
  outer_stays = λ at. refl;
  star_stays = λ at. refl;
  renamed_stays = λ at. refl;
  two_on_the_left_stay = λ at. refl;
}
