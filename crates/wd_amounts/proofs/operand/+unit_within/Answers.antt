use Rattle.std.proofs.Common.{◌∙◌, ◌-◌, length, sym, arith}
use Rattle.wd_units.specs.declared.token.Stop.TheVariants.{Branch, Factor, Sign}
use Rattle.wd_amounts.specs.Seen.{known_seen}
use Rattle.wd_amounts.specs.Terms.{factor_unit, term_unit, unit_within}
use Rattle.wd_units.specs.Units.{operation_unit, with_branch}
use Rattle.wd_amounts.proofs.ChainFacts.{chain_first, chain_none, chain_over, chain_with, multiple_some, within_first, within_none}
use Rattle.wd_amounts.proofs.operand.+unit_within.Goals as goal

pub unit_within-returns-then-depth-eq0 : goal.unit_within-returns-then-depth-eq0
unit_within-returns-then-depth-eq0 t c = sym (within_none (known_seen c.args.known.now) c.args.depth c.args.tokens.now c.if-depth-eq0.true)

pub unit_within-loop-init : goal.unit_within-loop-init
unit_within-loop-init t c =
    rw (c.term_unit-unit.ensures, c.split_at.ensures.front, c.split_at.ensures.back, c.part_length.ensures.value) (within_first (known_seen c.args.known.now) c.args.depth c.args.tokens.now c.if-depth-eq0.false)

pub unit_within-returns-in_default : goal.unit_within-returns-in_default
unit_within-returns-in_default t c =
    let known = known_seen c.args.known.now in
    sym (chain_none Sign operation_unit (term_unit (unit_within known (c.args.depth - 1)) known) (length c.args.tokens.now - c.loop.counter) c.loop.unit c.loop.rest.now c.in_default.len_below) ∙ c.loop.invariant

pub unit_within-loop-preserved : goal.unit_within-loop-preserved
unit_within-loop-preserved t c =
    let known = known_seen c.args.known.now in
    let more = chain_with Sign operation_unit (term_unit (unit_within known (c.args.depth - 1)) known) (length c.args.tokens.now) c.loop.counter c.loop.unit c.loop.rest.now c.sign-item.result c.sign-item.is c.loop-test.true c.in-len1-up.len_at_least in
    rw (c.operation_unit-unit.ensures, c.term_unit.ensures, c.split_at-in-loop.ensures.front, c.split_at-in-loop.ensures.back, c.part_length-in-loop.ensures.value) (more ∙ c.loop.invariant)

pub unit_within-returns : goal.unit_within-returns
unit_within-returns t c =
    let known = known_seen c.args.known.now in
    sym (chain_over Sign operation_unit (term_unit (unit_within known (c.args.depth - 1)) known) (length c.args.tokens.now) c.loop.counter c.loop.unit c.loop.rest.now (omega (arith, c.loop-test.false))) ∙ c.loop.invariant

pub multiple_unit-loop-init : goal.multiple_unit-loop-init
multiple_unit-loop-init t c =
    let known = known_seen c.args.known.now in
    rw (c.factor_unit-unit.ensures, c.split_at.ensures.front, c.split_at.ensures.back, c.part_length.ensures.value) (chain_first Factor operation_unit (factor_unit (unit_within known c.args.depth) known) c.args.tokens.now)

pub multiple_unit-loop-preserved : goal.multiple_unit-loop-preserved
multiple_unit-loop-preserved t c =
    let known = known_seen c.args.known.now in
    let more = chain_with Factor operation_unit (factor_unit (unit_within known c.args.depth) known) (length c.args.tokens.now) c.loop.counter c.loop.unit c.loop.rest.now c.operator-item.result c.operator-item.is c.loop-test.true c.in-len1-up.len_at_least in
    rw (c.operation_unit-unit.ensures, c.factor_unit.ensures, c.split_at-in-loop.ensures.front, c.split_at-in-loop.ensures.back, c.part_length-in-loop.ensures.value) (more ∙ c.loop.invariant)

pub multiple_unit-returns-in_default : goal.multiple_unit-returns-in_default
multiple_unit-returns-in_default t c =
    let known = known_seen c.args.known.now in
    let inner = unit_within known c.args.depth in
    sym (chain_none Factor operation_unit (factor_unit inner known) (length c.args.tokens.now - c.loop.counter) c.loop.unit c.loop.rest.now c.in_default.len_below)
    ∙ c.loop.invariant
    ∙ multiple_some inner known c.args.tokens.now (rw (← c.part_length.ensures.value, ← c.split_at.ensures.back) (sym c.is_empty.ensures ∙ c.if-is_empty.false))

pub multiple_unit-returns : goal.multiple_unit-returns
multiple_unit-returns t c =
    let known = known_seen c.args.known.now in
    let inner = unit_within known c.args.depth in
    sym (chain_over Factor operation_unit (factor_unit inner known) (length c.args.tokens.now) c.loop.counter c.loop.unit c.loop.rest.now (omega (arith, c.loop-test.false)))
    ∙ c.loop.invariant
    ∙ multiple_some inner known c.args.tokens.now (rw (← c.part_length.ensures.value, ← c.split_at.ensures.back) (sym c.is_empty.ensures ∙ c.if-is_empty.false))

pub branches_unit-loop-init : goal.branches_unit-loop-init
branches_unit-loop-init t c =
    let part = unit_within (known_seen c.args.known.now) c.args.depth in
    rw (c.unit_within-unit.ensures, c.split_at.ensures.front, c.split_at.ensures.back, c.part_length.ensures.value) (chain_first Branch with_branch part c.args.inside.now)

pub branches_unit-loop-preserved : goal.branches_unit-loop-preserved
branches_unit-loop-preserved t c =
    let part = unit_within (known_seen c.args.known.now) c.args.depth in
    let more = chain_with Branch with_branch part (length c.args.inside.now) c.loop.counter c.loop.unit c.loop.rest.now c.word-item.result c.word-item.is c.loop-test.true c.in-len1-up.len_at_least in
    rw (c.with_branch-unit.ensures, c.unit_within.ensures, c.split_at-in-loop.ensures.front, c.split_at-in-loop.ensures.back, c.part_length-in-loop.ensures.value) (more ∙ c.loop.invariant)

pub branches_unit-returns-in_default : goal.branches_unit-returns-in_default
branches_unit-returns-in_default t c =
    let part = unit_within (known_seen c.args.known.now) c.args.depth in
    sym (chain_none Branch with_branch part (length c.args.inside.now - c.loop.counter) c.loop.unit c.loop.rest.now c.in_default.len_below) ∙ c.loop.invariant

pub branches_unit-returns : goal.branches_unit-returns
branches_unit-returns t c =
    let part = unit_within (known_seen c.args.known.now) c.args.depth in
    sym (chain_over Branch with_branch part (length c.args.inside.now) c.loop.counter c.loop.unit c.loop.rest.now (omega (arith, c.loop-test.false))) ∙ c.loop.invariant
