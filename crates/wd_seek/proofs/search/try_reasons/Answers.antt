use Rattle.std.proofs.Common.{filter, get_or, subst, sym, None, arith}
use Rattle.std.proofs.lemmas.List.Elements.{All-nil}
use Rattle.wd_partition.specs.declared.turn.Turn.TheVariants.{Reversed}
use Rattle.wd_plan.specs.Plans.{plan_of}
use Rattle.wd_schema.specs.Schemas.{schema_of}
use Rattle.wd_analyse.specs.declared.analysis.Reason.{Reason}
use Rattle.wd_analyse.specs.declared.decided.Lack.TheVariants.{SecondClass}
use Rattle.wd_candidates.specs.Candidates.{candidates}
use Rattle.wd_seek.specs.Passed.{ArePassed, HavePassed}
use Rattle.wd_seek.specs.Sought.{IsSought, is_meeting}
use Rattle.wd_seek.specs.declared.passed.Passed.{Passed}
use Rattle.wd_seek.proofs.Searching.{nothing_to_try}
use Rattle.wd_seek.proofs.Trying.{found_in_one_more, nothing_in_one_more}
use Rattle.wd_seek.proofs.search.try_reasons.Goals as goal

pub loop-reason-init : goal.loop-reason-init
loop-reason-init c =
    let tables = schema_of c.args.schema.now in
    let plan = plan_of c.args.plan.now in (
      omega arith,
      nothing_to_try Reversed plan 0,
      subst (ArePassed tables plan) (sym c.new-passed.ensures.items) (All-nil (λ (p : Passed). HavePassed tables plan p.tied p.evaluations)),
    )

pub loop-reason-preserved : goal.loop-reason-preserved
loop-reason-preserved c =
    let tables = schema_of c.args.schema.now in
    let plan = plan_of c.args.plan.now in
    let l = c.loop-reason in
    let none : Reason = record { node = 0; call = None; lack = SecondClass } in (
      c.in_ok-found.ensures.few,
      nothing_in_one_more Reversed tables plan (λ (reason : Reason). candidates tables plan reason.node reason.call) c.args.reasons.now l.reason-index none 0 l.spent c.in_ok-found.made c.in_ok-found.ensures.few c.loop-reason-test.true l.invariant.1
          (subst (λ found. IsSought Reversed tables plan (filter (is_meeting tables) (candidates tables plan (get_or c.args.reasons.now l.reason-index none).node (get_or c.args.reasons.now l.reason-index none).call)) l.spent found c.in_ok-found.made) c.in_default.is c.in_ok-found.ensures.sought),
      c.in_ok-found.ensures.passed,
    )

pub returns-in-Some-clause-sought : goal.returns-in-Some-clause-sought
returns-in-Some-clause-sought c =
    let tables = schema_of c.args.schema.now in
    let plan = plan_of c.args.plan.now in
    let l = c.loop-reason in
    let none : Reason = record { node = 0; call = None; lack = SecondClass } in
    found_in_one_more Reversed tables plan (λ (reason : Reason). candidates tables plan reason.node reason.call) c.args.reasons.now l.reason-index none 0 l.spent c.in_ok-found.made c.in_ok-found.ensures.few c.loop-reason-test.true l.invariant.1 c.in-Some.witness
    (subst (λ found. IsSought Reversed tables plan (filter (is_meeting tables) (candidates tables plan (get_or c.args.reasons.now l.reason-index none).node (get_or c.args.reasons.now l.reason-index none).call)) l.spent found c.in_ok-found.made) c.in-Some.is c.in_ok-found.ensures.sought)
