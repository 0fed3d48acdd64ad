use Rattle.std.proofs.Common.{None}
use Rattle.std.proofs.lemmas.Result.{IfOk-weaker}
use Rattle.wd_plan.specs.Plans.{plan_of}
use Rattle.wd_schema.specs.Schemas.{schema_of}
use Rattle.wd_value.specs.Rows.{instance_of}
use Rattle.wd_seek.proofs.Lighter.{probed_alike}
use Rattle.wd_seek.proofs.OneAnswer.{nothing_found}
use Rattle.wd_seek.proofs.probed.probe_searched.Goals as goal

pub returns-then-all_agree-clause-tried : goal.returns-then-all_agree-clause-tried
returns-then-all_agree-clause-tried c =
    let plan = plan_of c.args.plan.now in
    let searched = plan_of c.args.searched.plan.now in
    let instance = instance_of c.args.instance.now.items in
    let one = c.requires.searched.one (c.all_agree.ensures.one c.if-all_agree.true) in
    let bounded = c.all_agree.ensures.bounded c.if-all_agree.true in
    let alike = c.requires.searched.lighter.alike instance c.requires.meets in
    probed_alike c.args.turn plan searched instance c.requires.searched.lighter.orderings alike c.args.spent c.all_made.result None
    (nothing_found c.args.turn (schema_of c.args.schema.now) searched instance one c.requires.meets bounded c.args.spent c.all_made.result c.requires.few c.all_made.ensures)

pub returns-clause-tried : goal.returns-clause-tried
returns-clause-tried c =
    let plan = plan_of c.args.plan.now in
    let searched = plan_of c.args.searched.plan.now in
    let instance = instance_of c.args.instance.now.items in
    let alike = c.requires.searched.lighter.alike instance c.requires.meets in
    IfOk-weaker c.probe.result _ _ (λ r h. probed_alike c.args.turn plan searched instance c.requires.searched.lighter.orderings alike c.args.spent r.1 r.0 h) c.probe.ensures.tried
