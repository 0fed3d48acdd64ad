-- Queries whose reading without memberships is written by hand.
use Rattle.std.proofs.Common.{refl}
use Rattle.std.specs.Fmt.{digits}
use Rattle.wd_clauses.specs.Reach as clauses
use Rattle.wd_operands.specs.Operands as operands
use Rattle.wd_operands.specs.Nests.{nest_length, nest_from}
use Rattle.wd_distinct_on.specs.Selects.{respelled_below}
use Rattle.wd_using.specs.Pieces.{pieces_at}
use Rattle.wd_using.specs.Reach as level
use Rattle.wd_membership.specs.Conjuncts.{conjuncts_at}
use Rattle.wd_membership.specs.Examples.{MembershipComesOut}
use Rattle.wd_membership.specs.Memberships.{membership_at}
use Rattle.wd_membership.specs.Queries.{query_in}
use Rattle.wd_membership.specs.Respelled.{respell_at}

pub membership_comes_out : MembershipComesOut
unfolding digits clauses.closing_from clauses.reach_from nest_length nest_from operands.brackets_length operands.filter_length operands.window_length operands.over_length operands.call_tail_length operands.call_length operands.name_length operands.constant_length operands.primary_length operands.signs_from operands.factor_length operands.link_length operands.links_from operands.operand_length pieces_at level.reach_from respelled_below conjuncts_at membership_at query_in respell_at
membership_comes_out = record {
  one = λ at. refl;
  exists = λ at. refl;
  below_or_stays = λ at. refl;
  denied_stays = λ at. refl;
  star_stays = λ at. refl;
  after_between_stays = λ at. refl;
}
