use Rattle.std.proofs.Common.{◌≡◌, ◌+◌, ◌-◌, ◌*◌, length}
use Rattle.wd_units.specs.declared.token.Stop.TheVariants.{Branch, Factor, Sign}
use Rattle.wd_amounts.specs.Seen.{known_seen}
use Rattle.wd_amounts.specs.Terms.{chain_from, chain_of, factor_unit, term_unit, unit_within}
use Rattle.wd_units.specs.Units.{operation_unit, with_branch}
use Rattle.wd_amounts.proofs.operand.+unit_within.Given as goal

abbrev pub decreases-unit_within : goal.decreases-unit_within
decreases-unit_within l = 5 * l.depth

abbrev pub decreases-term_unit : goal.decreases-term_unit
decreases-term_unit l = 5 * l.depth + 4

abbrev pub decreases-scaled_unit : goal.decreases-scaled_unit
decreases-scaled_unit l = 5 * l.depth + 3

abbrev pub decreases-summed_unit : goal.decreases-summed_unit
decreases-summed_unit l = 5 * l.depth + 2

abbrev pub decreases-case_unit : goal.decreases-case_unit
decreases-case_unit l = 5 * l.depth + 2

abbrev pub decreases-branches_unit : goal.decreases-branches_unit
decreases-branches_unit l = 5 * l.depth + 1

abbrev pub decreases-multiple_unit : goal.decreases-multiple_unit
decreases-multiple_unit l = 5 * l.depth + 2

abbrev pub decreases-factor_unit : goal.decreases-factor_unit
decreases-factor_unit l = 5 * l.depth + 1

abbrev pub invariant-unit_within-loop : goal.invariant-unit_within-loop
invariant-unit_within-loop l =
    let known = known_seen l.known in
    chain_from Sign operation_unit (term_unit (unit_within known (l.depth - 1)) known) (length l.tokens - l.counter) l.unit l.rest ≡ unit_within known l.depth l.tokens

abbrev pub invariant-branches_unit-loop : goal.invariant-branches_unit-loop
invariant-branches_unit-loop l =
    let part = unit_within (known_seen l.known) l.depth in
    chain_from Branch with_branch part (length l.inside - l.counter) l.unit l.rest ≡ chain_of Branch with_branch part l.inside

abbrev pub invariant-multiple_unit-loop : goal.invariant-multiple_unit-loop
invariant-multiple_unit-loop l =
    let known = known_seen l.known in
    chain_from Factor operation_unit (factor_unit (unit_within known l.depth) known) (length l.tokens - l.counter) l.unit l.rest ≡ chain_of Factor operation_unit (factor_unit (unit_within known l.depth) known) l.tokens
