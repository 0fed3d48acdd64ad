use Rattle.wd_decide.proofs.Plain.{plain_are_decided as law}
use Rattle.wd_decide.proofs.laws.plain_are_decided.Goals as goal

pub returns : goal.returns
returns c = law c.one_meaning.ensures c.one_plan.ensures c.plans_fit.ensures c.open_is_found.ensures c.queries_are_plain.ensures
