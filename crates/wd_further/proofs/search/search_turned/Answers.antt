use Rattle.std.proofs.Common.{ℕ, ◌/◌, drop, inl, subst}
use Rattle.std.proofs.lemmas.Result.{IfOk-weaker}
use Rattle.wd_partition.specs.declared.turn.Turn.TheVariants.{Reversed}
use Rattle.wd_plan.specs.Plans.{plan_of}
use Rattle.wd_schema.specs.Schemas.{schema_of}
use Rattle.wd_further.specs.Finds.{EndsWith, Search, of_size}
use Rattle.wd_further.proofs.Trying.{then_others}
use Rattle.wd_further.proofs.search.search_turned.Goals as goal

abbrev reversed : ℕ → ℕ → Search
reversed count rows = record { rows = rows; turn = Reversed; most = 1000 / count }

pub returns-in-Some : goal.returns-in-Some
returns-in-Some c = inl (subst (λ o. EndsWith o (schema_of c.args.schema.now) (plan_of c.args.plan.now) (reversed c.args.count c.args.rows)) c.in-Some.is c.in_ok-turned.ensures)

pub returns-in-None : goal.returns-in-None
returns-in-None c =
    let tables = schema_of c.args.schema.now in
    let plan = plan_of c.args.plan.now in
    let one = reversed c.args.count c.args.rows in
    let none = subst (λ o. EndsWith o tables plan one) c.in-None.is c.in_ok-turned.ensures in
    IfOk-weaker c.search_neighbours.result _ _ (λ o h. then_others tables plan o one (drop 1 (of_size c.args.count c.args.rows)) none h) c.search_neighbours.ensures
