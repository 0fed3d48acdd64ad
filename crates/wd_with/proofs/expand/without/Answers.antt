use Rattle.std.proofs.Common.{◌≡◌, ◌≤◌, map, subst, length}
use Rattle.std.proofs.lemmas.Result.{err_from_is_err_and}
use Rattle.wd_with.specs.Expanded.{Said, said, taken_out, unchanged, without}
use Rattle.wd_with.specs.Named.{named_query}
use Rattle.wd_with.proofs.LengthFacts.{makes_longer, without_length}
use Rattle.wd_with.proofs.MemberFacts.{without_last}
use Rattle.wd_with.proofs.expand.without.Goals as goal

pub returns-in_err-expanded : goal.returns-in_err-expanded
returns-in_err-expanded c =
    let p = err_from_is_err_and c.from_residual.result c.from_residual.ensures.1 in
    rw (p.1, p.2) (makes_longer c.in_err-expanded.field-0.0 (unchanged c.args.query.now) (without (map named_query c.args.members.items) (unchanged c.args.query.now)) (without_length (map named_query c.args.members.items) (unchanged c.args.query.now)) c.in_err-expanded.ensures)

pub returns-in_err-expanded-2 : goal.returns-in_err-expanded-2
returns-in_err-expanded-2 c =
    let total = without (map named_query c.args.members.items) (unchanged c.args.query.now) in
    let out = taken_out (named_query c.in-Some.member) (said c.loop-member.expanded) in
    let e : without (map named_query c.pop.new.self.items) out ≡ total =
    without_last c.loop-member.members.items c.pop.new.self.items c.in-Some.member (said c.loop-member.expanded) total c.in-Some.ensures.items c.loop-member.invariant in
    let le : length out.tokens ≤ length total.tokens =
    subst (λ (s : Said). length out.tokens ≤ length s.tokens) e (without_length (map named_query c.pop.new.self.items) out) in
    let p = err_from_is_err_and c.from_residual-in_err-expanded-2.result c.from_residual-in_err-expanded-2.ensures.1 in
    rw (p.1, p.2) (makes_longer c.in_err-expanded-2.field-0.0 out total le c.in_err-expanded-2.ensures)

pub loop-member-preserved : goal.loop-member-preserved
loop-member-preserved c =
    let total = without (map named_query c.args.members.items) (unchanged c.args.query.now) in
    subst (λ (s : Said). without (map named_query c.pop.new.self.items) s ≡ total) c.in_ok-expanded-2.ensures
    (without_last c.loop-member.members.items c.pop.new.self.items c.in-Some.member (said c.loop-member.expanded) total c.in-Some.ensures.items c.loop-member.invariant)
