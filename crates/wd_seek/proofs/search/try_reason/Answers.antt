use Rattle.std.proofs.Common.{filter, map, subst, sym}
use Rattle.std.proofs.lemmas.Result.{IfOk-weaker}
use Rattle.wd_partition.specs.declared.turn.Turn.TheVariants.{Reversed}
use Rattle.wd_plan.specs.Plans.{plan_of}
use Rattle.wd_schema.specs.Schemas.{schema_of}
use Rattle.wd_candidates.specs.Candidates.{candidate, candidates, shapes}
use Rattle.wd_candidates.specs.Tied.{ordered_by}
use Rattle.wd_seek.specs.Search.{FindsNothing}
use Rattle.wd_seek.proofs.Searching.{none_left_for, nothing_to_try}
use Rattle.wd_seek.specs.Sought.{IsSought, is_meeting}
use Rattle.wd_seek.proofs.Shown.{none_ordered, some_ordered}
use Rattle.wd_seek.proofs.search.try_reason.Goals as goal

pub returns-then-spent-eq-MOST_EVALUATIONS-clause-sought : goal.returns-then-spent-eq-MOST_EVALUATIONS-clause-sought
returns-then-spent-eq-MOST_EVALUATIONS-clause-sought c =
    let plan = plan_of c.args.plan.now in
    let tables = schema_of c.args.schema.now in
    let instances = filter (is_meeting tables) (candidates tables plan c.args.reason.node c.args.reason.call) in
    subst (λ n. FindsNothing Reversed plan instances n n) (sym c.if-spent-eq-MOST_EVALUATIONS.true) (none_left_for Reversed plan instances)

pub returns-in-None-clause-sought : goal.returns-in-None-clause-sought
returns-in-None-clause-sought c =
    let plan = plan_of c.args.plan.now in
    let tables = schema_of c.args.schema.now in
    rw (none_ordered tables (ordered_by plan c.args.reason.node c.args.reason.call) c.in_ok-tied_columns.field-0 c.in-None.is c.in_ok-tied_columns.ensures) (nothing_to_try Reversed plan c.args.spent)

pub returns-in-Some-clause-sought : goal.returns-in-Some-clause-sought
returns-in-Some-clause-sought c =
    let plan = plan_of c.args.plan.now in
    let tables = schema_of c.args.schema.now in
    let o = some_ordered tables (ordered_by plan c.args.reason.node c.args.reason.call) c.in_ok-tied_columns.field-0 c.in-Some.tied c.in-Some.is c.in_ok-tied_columns.ensures in
    rw o.1 (IfOk-weaker c.try_tied.result _ (λ r. IsSought Reversed tables plan (filter (is_meeting tables) (map (candidate tables plan o.0) shapes)) c.args.spent r.0 r.1) (λ r h. h o.0 o.2) c.try_tied.ensures.sought)
