use Rattle.std.proofs.Common.{IfSome, subst, sym}
use Rattle.wd_least.specs.First.{IsMended}
use Rattle.wd_help.specs.Helps.{IsHelp}
use Rattle.wd_help.proofs.Verdict.{is_help}
use Rattle.wd_help.proofs.help.help_for.Goals as goal

pub returns-in-Some-clause-helps : goal.returns-in-Some-clause-helps
returns-in-Some-clause-helps c =
    let schema = c.args.schema.now in
    let query = c.args.query.now in
    let mended = subst (λ found. IfSome found (IsMended schema query)) c.in-Some.is c.in_ok-mended.ensures.mended in
    subst (IsHelp schema query) (sym c.help_of.ensures) (is_help schema query c.in-Some.mended mended)
