-- Queries whose reading without NATURAL JOIN is written by hand.
use Rattle.std.proofs.Common.{refl}
use Rattle.wd_clauses.specs.Parts.{parts_at}
use Rattle.wd_clauses.specs.Reach.{closing_from, reach_from}
use Rattle.wd_distinct_on.specs.Selects.{respelled_below}
use Rattle.wd_using.specs.Joins as joins
use Rattle.wd_using.specs.Pieces.{pieces_at}
use Rattle.wd_using.specs.Reach as level
use Rattle.wd_using.specs.Respelled as using
use Rattle.wd_using.specs.Written.{qualified}
use Rattle.wd_natural.specs.Examples.{NaturalComesOut}
use Rattle.wd_natural.specs.Naturals.{joined_tables, table_at}
use Rattle.wd_natural.specs.Respelled.{respell_at}

pub natural_comes_out : NaturalComesOut
unfolding parts_at closing_from reach_from joined_tables joins.joined_tables joins.source_at table_at joins.table_at pieces_at level.reach_from respell_at using.respell_at respelled_below qualified
natural_comes_out = record {
  one = λ at. refl;
  two = λ at. refl;
  derived = λ at. refl;
  none = λ at. refl;
  then_by_on = λ at. refl;
  outer_stays = λ at. refl;
  comma_stays = λ at. refl;
  unknown_stays = λ at. refl;
  renamed_stays = λ at. refl;
}
