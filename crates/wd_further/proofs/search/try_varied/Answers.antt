use Rattle.std.proofs.Common.{◌∷◌, [], filter, subst, sym}
use Rattle.std.proofs.lemmas.Result.{IfOk-weaker}
use Rattle.wd_plan.specs.Plans.{plan_of}
use Rattle.wd_schema.specs.Schemas.{schema_of}
use Rattle.wd_varied.specs.Varied.{varied}
use Rattle.wd_seek.specs.Search.{FindsNothing}
use Rattle.wd_seek.specs.Sought.{IsSought, is_meeting}
use Rattle.wd_seek.specs.Witnesses.{HasFewRows}
use Rattle.wd_seek.proofs.Searching.{none_left_for}
use Rattle.wd_further.proofs.Trying.{few_rows}
use Rattle.wd_further.proofs.search.try_varied.Goals as goal

pub returns-clause-sought : goal.returns-clause-sought
returns-clause-sought c =
    let tables = schema_of c.args.schema.now in
    let plan = plan_of c.args.plan.now in
    let is = c.in_ok-instance.ensures plan c.requires.outline c.requires.suggested in
    IfOk-weaker c.try_candidate.result _ _ (λ r h.
    subst (λ i. HasFewRows tables plan i → IsSought c.args.turn tables plan (filter (is_meeting tables) (i ∷ [])) c.args.spent r.0 r.1) is h (few_rows tables plan c.args.rows c.args.number c.requires.small)) c.try_candidate.ensures.sought

pub returns-then-spent-eq-MOST_EVALUATIONS-clause-sought : goal.returns-then-spent-eq-MOST_EVALUATIONS-clause-sought
returns-then-spent-eq-MOST_EVALUATIONS-clause-sought c =
    let tables = schema_of c.args.schema.now in
    let plan = plan_of c.args.plan.now in
    let instances = filter (is_meeting tables) (varied tables plan c.args.rows c.args.number ∷ []) in
    subst (λ n. FindsNothing c.args.turn plan instances n n) (sym c.if-spent-eq-MOST_EVALUATIONS.true) (none_left_for c.args.turn plan instances)
