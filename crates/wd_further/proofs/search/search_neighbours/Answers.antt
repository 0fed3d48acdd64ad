use Rattle.std.proofs.Common.{ℕ, ◌/◌, ◌∷◌, [], inl, subst}
use Rattle.std.proofs.lemmas.Result.{IfOk-weaker}
use Rattle.wd_partition.specs.declared.turn.Turn.TheVariants.{Exchanged, Rotated}
use Rattle.wd_plan.specs.Plans.{plan_of}
use Rattle.wd_schema.specs.Schemas.{schema_of}
use Rattle.wd_further.specs.Finds.{EndsWith, Search}
use Rattle.wd_further.proofs.Trying.{then_none, then_others}
use Rattle.wd_further.proofs.search.search_neighbours.Goals as goal

abbrev rotated : ℕ → ℕ → Search
rotated count rows = record { rows = rows; turn = Rotated; most = 500 / count }

abbrev exchanged : ℕ → ℕ → Search
exchanged count rows = record { rows = rows; turn = Exchanged; most = 500 / count }

pub returns-in-Some : goal.returns-in-Some
returns-in-Some c = inl (subst (λ o. EndsWith o (schema_of c.args.schema.now) (plan_of c.args.plan.now) (rotated c.args.count c.args.rows)) c.in-Some.is c.in_ok-rotated.ensures)

pub returns-in-None : goal.returns-in-None
returns-in-None c =
    let tables = schema_of c.args.schema.now in
    let plan = plan_of c.args.plan.now in
    let one = rotated c.args.count c.args.rows in
    let other = exchanged c.args.count c.args.rows in
    let none = subst (λ o. EndsWith o tables plan one) c.in-None.is c.in_ok-rotated.ensures in
    IfOk-weaker c.search_tries-in-None.result _ _ (λ o h. then_others tables plan o one (other ∷ []) none (then_none tables plan o other h)) c.search_tries-in-None.ensures
