use Rattle.std.proofs.Common.{map}
use Rattle.std.proofs.lemmas.List.{map_push}
use Rattle.wd_with.specs.Members.{members_at, most_members}
use Rattle.wd_with.specs.Named.{named_query}
use Rattle.wd_with.proofs.MemberFacts.{members_last, members_more, members_none, members_over}
use Rattle.wd_with.proofs.member.members_at.Goals as goal

pub returns-in_default : goal.returns-in_default
returns-in_default c = members_none most_members c.loop.counter (map named_query c.loop.members.items) c.loop.rest.now (members_at most_members c.args.tokens.now) c.loop-test.true c.in_default.ensures c.loop.invariant

pub returns-in-None : goal.returns-in-None
returns-in-None c =
    rw (c.in_ok-push.ensures.items, map_push named_query c.loop.members.items c.in-Some.member)
    (members_last most_members c.loop.counter (map named_query c.loop.members.items) (named_query c.in-Some.member) c.loop.rest.now c.in-Some.after.now (members_at most_members c.args.tokens.now) c.loop-test.true c.in-Some.ensures c.in-None.ensures c.loop.invariant)

pub loop-preserved : goal.loop-preserved
loop-preserved c =
    rw (c.in_ok-push.ensures.items, map_push named_query c.loop.members.items c.in-Some.member)
    (members_more most_members c.loop.counter (map named_query c.loop.members.items) (named_query c.in-Some.member) c.loop.rest.now c.in-Some.after.now c.in-Some-past_comma.next.now (members_at most_members c.args.tokens.now) c.loop-test.true c.in-Some.ensures c.in-Some-past_comma.ensures c.loop.invariant)

pub returns : goal.returns
returns c = members_over most_members c.loop.counter (map named_query c.loop.members.items) c.loop.rest.now (members_at most_members c.args.tokens.now) c.loop-test.false c.loop.invariant
