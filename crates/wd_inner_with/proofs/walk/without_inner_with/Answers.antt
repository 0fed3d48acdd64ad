use Rattle.std.proofs.Common.{rules, ◌≡◌, ◌++◌, ◌-◌, ◌≤◌, arith, [], length, drop, Some, None}
use Rattle.wd_clauses.specs.Given.{most_tokens}
use Rattle.wd_with.specs.Expanded.{Said, said}
use Rattle.wd_inner_with.specs.Inner.{fewer, most_inner, open_at, opened_below}
use Rattle.wd_inner_with.proofs.BelowFacts.{below_none, below_some}
use Rattle.wd_inner_with.proofs.walk.without_inner_with.Goals as goal

pub loop-place-preserved-in-Some : goal.loop-place-preserved-in-Some
loop-place-preserved-in-Some c =
    let place = c.loop-place.place - 1 in
    let query : Said = record { tokens = c.loop-place.query.items; read_twice = c.loop-place.names.items } in
    let first : Said = record { tokens = c.args.tokens.now; read_twice = [] } in
    let is : c.fewer-left.result ≡ fewer c.loop-place.left (drop place c.loop-place.query.items) = search rules in
    let e : open_at place c.loop-place.query.items ≡ Some (said c.in-Some.next) = search rules in
    let short : length c.in-Some.next.tokens.items ≤ most_tokens = omega arith in
    let names : c.add_names.new.names.items ≡ c.loop-place.names.items ++ c.in-Some.next.read_twice.items = search rules in
    rw names (below_some c.loop-place.left c.loop-place.place c.fewer-left.result query (said c.in-Some.next) (opened_below most_inner (length c.args.tokens.now) first) c.loop-place-test.true c.if-left-eq0.false is e short c.loop-place.invariant)

pub loop-place-preserved : goal.loop-place-preserved
loop-place-preserved c =
    let place = c.loop-place.place - 1 in
    let query : Said = record { tokens = c.loop-place.query.items; read_twice = c.loop-place.names.items } in
    let first : Said = record { tokens = c.args.tokens.now; read_twice = [] } in
    let is : c.fewer-left.result ≡ fewer c.loop-place.left (drop place c.loop-place.query.items) = search rules in
    let e : open_at place c.loop-place.query.items ≡ None = search rules in
    below_none c.loop-place.left c.loop-place.place c.fewer-left.result query (opened_below most_inner (length c.args.tokens.now) first) c.loop-place-test.true c.if-left-eq0.false is e c.loop-place.invariant
