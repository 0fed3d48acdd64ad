use Rattle.std.proofs.Common.{◌<◌, ◌≤◌, get_or, length, subst}
use Rattle.wd_plan.specs.Plans.{plan_of}
use Rattle.wd_schema.specs.Schemas.{schema_of}
use Rattle.wd_varied.specs.Sizes.{sizes}
use Rattle.wd_further.specs.Finds.{IsSoughtBy, of_size}
use Rattle.wd_further.proofs.Trying.{found_in_one_more, none_in_all, none_in_one_more}
use Rattle.wd_further.proofs.search.search_sizes.Goals as goal

pub search_turned-requires-clause-small : goal.search_turned-requires-clause-small
search_turned-requires-clause-small c = c.requires.small c.loop-rows.rows-index 0 c.loop-rows-test.true

pub loop-rows-preserved : goal.loop-rows-preserved
loop-rows-preserved c =
    let tables = schema_of c.args.schema.now in
    let plan = plan_of c.args.plan.now in
    let i = c.loop-rows.rows-index in
    let within = subst (λ s. i < length s) c.requires.sizes c.loop-rows-test.true in
    let here = subst (λ s. IsSoughtBy c.in_ok-found.found tables plan (of_size (length s) (get_or s i 0))) c.requires.sizes c.in_ok-found.ensures in
    none_in_one_more tables plan (of_size (length (sizes plan))) (sizes plan) i c.loop-rows.invariant within
    (subst (λ found. IsSoughtBy found tables plan (of_size (length (sizes plan)) (get_or (sizes plan) i 0))) c.in_default.is here)

pub returns-in-Some : goal.returns-in-Some
returns-in-Some c =
    let tables = schema_of c.args.schema.now in
    let plan = plan_of c.args.plan.now in
    let i = c.loop-rows.rows-index in
    let within = subst (λ s. i < length s) c.requires.sizes c.loop-rows-test.true in
    let here = subst (λ s. IsSoughtBy c.in_ok-found.found tables plan (of_size (length s) (get_or s i 0))) c.requires.sizes c.in_ok-found.ensures in
    found_in_one_more tables plan (of_size (length (sizes plan))) (sizes plan) i c.loop-rows.invariant within c.in-Some.smallest
    (subst (λ found. IsSoughtBy found tables plan (of_size (length (sizes plan)) (get_or (sizes plan) i 0))) c.in-Some.is here)

pub returns : goal.returns
returns c =
    let plan = plan_of c.args.plan.now in
    let i = c.loop-rows.rows-index in
    let all : length (sizes plan) ≤ i = subst (λ s. length s ≤ i) c.requires.sizes c.loop-rows-test.false in
    none_in_all (schema_of c.args.schema.now) plan (of_size (length (sizes plan))) (sizes plan) i c.loop-rows.invariant all
