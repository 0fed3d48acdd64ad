use Rattle.std.proofs.Common.{◌≡◌, ◌∙◌, ap, map, arith}
use Rattle.wd_amounts.specs.Names.{uses_in}
use Rattle.wd_amounts.specs.Seen.{kept_seen, use_seen}
use Rattle.wd_amounts.proofs.KnownFacts.{first_kept, level_kept, seen}
use Rattle.wd_amounts.proofs.levels.units_by_level.Goals as goal

pub loop-levels-init : goal.loop-levels-init
loop-levels-init c =
    first_kept c.add_all.new.self (kept_seen c.new-known.result) c.args.statements.now c.args.tokens.now (map use_seen c.deref.result.now) c.new-known.ensures (ap (map use_seen) c.deref.ensures.value ∙ c.in_ok-columns.ensures) c.in_ok-add_all.ensures

pub loop-levels-preserved : goal.loop-levels-preserved
loop-levels-preserved c =
    level_kept c.loop-levels.known c.add_all-in-loop-levels.new.self c.args.statements.now c.args.tokens.now c.loop-levels.levels (map use_seen c.deref-in-loop-levels.result.now) c.loop-levels.invariant (ap (map use_seen) c.deref-in-loop-levels.ensures.value ∙ c.in_ok-uses.ensures) c.in_ok-add_all-2.ensures

pub returns : goal.returns
returns c =
    let all : c.loop-levels.levels ≡ 65 = omega (arith, c.loop-levels-test.false, c.loop-levels.auto.levels-end) in
    seen c.loop-levels.known (uses_in c.args.statements.now c.args.tokens.now 65) (rw all at c.loop-levels.invariant)
