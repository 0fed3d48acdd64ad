use Rattle.std.proofs.Common.{map}
use Rattle.std.proofs.lemmas.List.{map_push}
use Rattle.wd_clauses.specs.Parts.{most_parts, parts_at}
use Rattle.wd_clauses.proofs.PartFacts.{parts_last, parts_more, parts_over}
use Rattle.wd_clauses.proofs.list.parts.Goals as goal

pub returns-in-None : goal.returns-in-None
returns-in-None c =
    rw (c.in_ok-push.ensures.items, map_push (λ part. part.now) c.loop.parts.items c.split.result.0)
    (parts_last most_parts c.loop.counter (map (λ part. part.now) c.loop.parts.items) c.loop.rest.now c.split.result.0.now c.split.result.1.now (parts_at most_parts c.args.tokens.now) c.loop-test.true c.split.ensures.part c.split.ensures.following c.in-None.ensures c.loop.invariant)

pub loop-preserved : goal.loop-preserved
loop-preserved c =
    rw (c.in_ok-push.ensures.items, map_push (λ part. part.now) c.loop.parts.items c.split.result.0)
    (parts_more most_parts c.loop.counter (map (λ part. part.now) c.loop.parts.items) c.loop.rest.now c.split.result.0.now c.split.result.1.now c.in-Some.after.now (parts_at most_parts c.args.tokens.now) c.loop-test.true c.split.ensures.part c.split.ensures.following c.in-Some.ensures c.loop.invariant)

pub returns : goal.returns
returns c = parts_over most_parts c.loop.counter (map (λ part. part.now) c.loop.parts.items) c.loop.rest.now (parts_at most_parts c.args.tokens.now) c.loop-test.false c.loop.invariant
