-- Queries whose reading without COUNT( DISTINCT c ) is written by hand.
use Rattle.std.proofs.Common.{refl}
use Rattle.wd_clauses.specs.Parts.{parts_at}
use Rattle.wd_clauses.specs.Reach.{closing_from, reach_from}
use Rattle.wd_distinct_on.specs.Selects.{respelled_below}
use Rattle.wd_using.specs.Pieces.{pieces_at}
use Rattle.wd_using.specs.Reach as level
use Rattle.wd_distinct_counts.specs.Examples.{CountsComeOut}
use Rattle.wd_distinct_counts.specs.Respelled.{respell_at}
use Rattle.wd_distinct_counts.specs.Written.{opening}

pub counts_come_out : CountsComeOut
unfolding parts_at closing_from reach_from respelled_below pieces_at level.reach_from respell_at opening
counts_come_out = record {
  by_a_key = λ at. refl;
  of_all = λ at. refl;
  of_two_tables = λ at. refl;
  another_table_stays = λ at. refl;
  another_column_stays = λ at. refl;
  another_aggregate_stays = λ at. refl;
}
