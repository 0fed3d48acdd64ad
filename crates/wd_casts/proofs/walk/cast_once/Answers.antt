use Rattle.std.proofs.Common.{◌∙◌, Option, Some, ap}
use Rattle.wd_casts.specs.declared.equation.Form.{Form}
use Rattle.wd_casts.specs.Equations.{equation}
use Rattle.wd_casts.proofs.GrowFacts.{same_form}
use Rattle.wd_casts.proofs.walk.cast_once.Goals as goal

pub returns-in-Some-Same : goal.returns-in-Some-Same
returns-in-Some-Same c = same_form c.args.cast.at c.args.operand.items (equation c.args.known c.args.cast.kind) c.equation.result c.equation.ensures (c.in-Some-Same.is ∙ ap (λ (f : Form). let found : Option Form = Some f in found) c.in-Some-Same.field-0-is)
