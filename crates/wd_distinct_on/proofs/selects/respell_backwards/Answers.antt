use Rattle.std.proofs.Common.{◌≡◌, ◌-◌, ◌≤◌, arith, List, length, drop, Option, Some, None, Ok, Vec, Global, subst}
use Rattle.wd_lex.specs.declared.token.Token.{Token}
use Rattle.wd_clauses.specs.Given.{most_tokens}
use Rattle.wd_distinct_on.specs.Respelled.{MayWrite}
use Rattle.wd_distinct_on.specs.Selects.{fewer, respelled_below}
use Rattle.wd_distinct_on.proofs.BelowFacts.{below_none, below_some}
use Rattle.wd_distinct_on.proofs.selects.respell_backwards.Goals as goal

pub loop-place-preserved-in-Some : goal.loop-place-preserved-in-Some
loop-place-preserved-in-Some g c =
    let starts = g.S.Selects.starts c.args.selects.now in
    let respell_at = g.S.Selects.respelled c.args.selects.now in
    let place = c.loop-place.place - 1 in
    let is : c.fewer-left.result ≡ fewer starts c.loop-place.left (drop place c.loop-place.query.items) =
    subst (λ (ts : List Token). c.fewer-left.result ≡ fewer starts c.loop-place.left (drop place ts)) c.deref.ensures.value c.fewer-left.ensures in
    let e : respell_at place c.deref-in-loop-place.result.now ≡ Some c.in-Some.next.items =
    subst (λ (o : Option (Vec Token Global)). MayWrite (λ x. x.items) (Ok o) (respell_at place c.deref-in-loop-place.result.now)) c.in-Some.is c.in_ok-next.ensures in
    let f : respell_at place c.loop-place.query.items ≡ Some c.in-Some.next.items =
    subst (λ (ts : List Token). respell_at place ts ≡ Some c.in-Some.next.items) c.deref-in-loop-place.ensures.value e in
    let short : length c.in-Some.next.items ≤ most_tokens = omega arith in
    below_some starts respell_at c.loop-place.left c.loop-place.place c.fewer-left.result c.loop-place.query.items c.in-Some.next.items (respelled_below starts respell_at c.args.most (length c.args.tokens.now) c.args.tokens.now) c.loop-place-test.true c.if-left-eq0.false is f short c.loop-place.invariant

pub loop-place-preserved : goal.loop-place-preserved
loop-place-preserved g c =
    let starts = g.S.Selects.starts c.args.selects.now in
    let respell_at = g.S.Selects.respelled c.args.selects.now in
    let place = c.loop-place.place - 1 in
    let is : c.fewer-left.result ≡ fewer starts c.loop-place.left (drop place c.loop-place.query.items) =
    subst (λ (ts : List Token). c.fewer-left.result ≡ fewer starts c.loop-place.left (drop place ts)) c.deref.ensures.value c.fewer-left.ensures in
    let e : respell_at place c.deref-in-loop-place.result.now ≡ None =
    subst (λ (o : Option (Vec Token Global)). MayWrite (λ x. x.items) (Ok o) (respell_at place c.deref-in-loop-place.result.now)) c.in-None.is c.in_ok-next.ensures in
    let f : respell_at place c.loop-place.query.items ≡ None =
    subst (λ (ts : List Token). respell_at place ts ≡ None) c.deref-in-loop-place.ensures.value e in
    below_none starts respell_at c.loop-place.left c.loop-place.place c.fewer-left.result c.loop-place.query.items (respelled_below starts respell_at c.args.most (length c.args.tokens.now) c.args.tokens.now) c.loop-place-test.true c.if-left-eq0.false is f c.loop-place.invariant
