use Rattle.std.proofs.Common.{List, [], map, None, refl, sym, ap, ◌∙◌}
use Rattle.std.proofs.lemmas.List.{append-nil}
use Rattle.std.proofs.lemmas.Result.{IfOk-weaker}
use Rattle.wd_certificate.specs.Certificates.{node_of}
use Rattle.wd_plan.specs.Plans.{plan_of}
use Rattle.wd_analyse.specs.Entry.{entry_by}
use Rattle.wd_analyse.specs.Evidence.{Closing, closing_of}
use Rattle.wd_analyse.specs.Findings.{Finding}
use Rattle.wd_analyse.proofs.Says.{bare_said}
use Rattle.wd_analyse.proofs.entry.plain_entry.Goals as goal

pub returns : goal.returns
returns c =
    let claims : List Closing = map closing_of c.args.here.now.claims.items in
    IfOk-weaker c.bare_entry.result _ _
    (λ n is.
    let f : Finding = record { claims = claims; entry = node_of n; reasons = []; marks = [] } in
    record {
      finding = f;
      said = bare_said c.args.here.now.facts (plan_of c.args.plan.now) c.args.here.now.node f c.requires.is (record { entry = is ∙ ap (λ w. entry_by w claims [] [] None) c.width.ensures; reasons = refl; marks = refl });
      claims_are = refl;
      entry_is = refl;
      reasons = sym (append-nil c.args.findings.now.reasons.items);
      marks = sym (append-nil c.args.findings.now.marks.items);
    })
    c.bare_entry.ensures
