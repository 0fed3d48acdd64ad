use Rattle.std.proofs.Common.{◌-◌, length}
use Rattle.wd_casts.specs.Terms.{casts_at, casts_from}
use Rattle.wd_casts.proofs.CastFacts.{casts_end, casts_more, casts_over, rest_end, rest_more, rest_over}
use Rattle.wd_casts.proofs.term.push_casts.Goals as goal

pub returns-in_default-clause-casts : goal.returns-in_default-clause-casts
unfolding casts_at
returns-in_default-clause-casts c =
    let tokens = c.args.tokens.now in
    casts_end (length tokens - c.loop.counter) c.loop.rest.now c.loop.casts.items c.args.casts.now.items (casts_from (length tokens) tokens).0 c.in_default.ensures c.loop.invariant.casts

pub returns-in_default-clause-rest : goal.returns-in_default-clause-rest
unfolding casts_at
returns-in_default-clause-rest c =
    let tokens = c.args.tokens.now in
    rest_end (length tokens - c.loop.counter) c.loop.rest.now (casts_from (length tokens) tokens) c.in_default.ensures c.loop.invariant.after

pub loop-preserved : goal.loop-preserved
loop-preserved c =
    let tokens = c.args.tokens.now in
    record {
      casts = casts_more (length tokens) c.loop.counter c.loop.rest.now c.in-Some.after.now c.in-Some.cast c.push.new.self.items c.loop.casts.items c.args.casts.now.items (casts_from (length tokens) tokens).0
          c.loop-test.true c.in-Some.ensures c.in_ok-push.ensures.items c.loop.invariant.casts;
      after = rest_more (length tokens) c.loop.counter c.loop.rest.now c.in-Some.after.now c.in-Some.cast (casts_from (length tokens) tokens) c.loop-test.true c.in-Some.ensures c.loop.invariant.after;
    }

pub returns-clause-casts : goal.returns-clause-casts
unfolding casts_at
returns-clause-casts c =
    let tokens = c.args.tokens.now in
    casts_over (length tokens) c.loop.counter c.loop.rest.now c.loop.casts.items c.args.casts.now.items (casts_from (length tokens) tokens).0 c.loop-test.false c.loop.invariant.casts

pub returns-clause-rest : goal.returns-clause-rest
unfolding casts_at
returns-clause-rest c =
    let tokens = c.args.tokens.now in
    rest_over (length tokens) c.loop.counter c.loop.rest.now (casts_from (length tokens) tokens) c.loop-test.false c.loop.invariant.after
