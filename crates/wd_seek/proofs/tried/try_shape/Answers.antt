use Rattle.std.proofs.Common.{◌∷◌, [], filter, subst, sym}
use Rattle.std.proofs.lemmas.Result.{IfOk-weaker}
use Rattle.wd_partition.specs.declared.turn.Turn.TheVariants.{Reversed}
use Rattle.wd_plan.specs.Plans.{plan_of}
use Rattle.wd_schema.specs.Schemas.{schema_of}
use Rattle.wd_candidates.specs.Candidates.{candidate}
use Rattle.wd_seek.specs.Search.{FindsNothing}
use Rattle.wd_seek.specs.Sought.{IsSought, is_meeting}
use Rattle.wd_seek.specs.Witnesses.{HasFewRows}
use Rattle.wd_seek.proofs.Searching.{none_left_for}
use Rattle.wd_seek.proofs.Over.{few_rows}
use Rattle.wd_seek.proofs.tried.try_shape.Goals as goal

pub returns-clause-sought : goal.returns-clause-sought
returns-clause-sought c =
    let tables = schema_of c.args.schema.now in
    let plan = plan_of c.args.plan.now in
    IfOk-weaker c.try_lighter.result _ _ (λ r h. λ o tied.
    let is = c.in_ok-instance.ensures plan o c.requires.outline tied in
    subst (λ i. HasFewRows tables plan i → IsSought Reversed tables plan (filter (is_meeting tables) (i ∷ [])) c.args.spent r.0 r.1) is h (few_rows tables plan o c.args.shape c.requires.small)) c.try_lighter.ensures.sought

pub returns-then-spent-eq-MOST_EVALUATIONS-clause-sought : goal.returns-then-spent-eq-MOST_EVALUATIONS-clause-sought
returns-then-spent-eq-MOST_EVALUATIONS-clause-sought c = λ o tied.
    let tables = schema_of c.args.schema.now in
    let plan = plan_of c.args.plan.now in
    let instances = filter (is_meeting tables) (candidate tables plan o c.args.shape ∷ []) in
    subst (λ n. FindsNothing Reversed plan instances n n) (sym c.if-spent-eq-MOST_EVALUATIONS.true) (none_left_for Reversed plan instances)
