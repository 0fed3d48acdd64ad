use Rattle.std.proofs.Common.{◌≡◌, true, List, ◌++◌, map, nat_lt, refl, sym, subst, ap, ◌∙◌}
use Rattle.std.specs.List.{list_all}
use Rattle.wd_value.specs.Keys.{key_columns}
use Rattle.wd_schema.specs.Schemas.{schema_of}
use Rattle.wd_certificate.specs.Certificates.{node_of}
use Rattle.wd_plan.specs.Fits.{width}
use Rattle.wd_plan.specs.Plans.{limit_of, plan_of}
use Rattle.wd_analyse.specs.Evidence.{Closing, closing_of}
use Rattle.wd_analyse.specs.Findings.{Finding, entry_by_keys, lacking, marks_by_keys, reasons_by_keys}
use Rattle.wd_analyse.proofs.Founds.{limit_keys_low}
use Rattle.wd_analyse.proofs.Says.{all_three, limit_said}
use Rattle.wd_analyse.proofs.entry.limit_entry.Goals as goal

pub close-requires : goal.close-requires
close-requires c =
    subst (λ X. list_all (λ k. nat_lt k c.args.here.now.facts.columns) X ≡ true)
    (sym (c.deref-2.ensures.value ∙ c.in_ok-columns.ensures ∙ ap key_columns c.deref.ensures.value))
    (limit_keys_low (schema_of c.args.schema.now) (plan_of c.args.plan.now) (plan_of c.args.input.now) (limit_of c.args.limit.now) c.args.here.now.facts.columns c.requires.is c.requires.fits c.requires.admits.wide)

pub returns : goal.returns
returns c =
    let claims : List Closing = map closing_of c.args.here.now.claims.items in
    let limit = limit_of c.args.limit.now in
    let keys : Closing = closing_of c.in_ok-closed.closed in
    let node = c.args.here.now.node in
    let columns = c.width.ensures in
    all_three c.keys_entry.result _ _ _ _
    (λ n entry reasons marks.
    let f : Finding = record { claims = claims; entry = node_of n; reasons = reasons_by_keys node limit (lacking (width (plan_of c.args.input.now)) keys); marks = marks_by_keys node limit (lacking (width (plan_of c.args.input.now)) keys) } in
    record {
      finding = f;
      said = limit_said c.args.here.now.facts (plan_of c.args.plan.now) (plan_of c.args.input.now) node f limit c.requires.is
          (record {
            keys = keys;
            closing = c.in_ok-closed.ensures.closing;
            columns = c.in_ok-closed.ensures.from ∙ c.deref-2.ensures.value ∙ c.in_ok-columns.ensures ∙ ap key_columns c.deref.ensures.value;
            entry = entry ∙ ap (λ w. entry_by_keys w claims keys (lacking w keys)) columns;
            reasons = refl;
            marks = refl;
          });
      claims_are = refl;
      entry_is = refl;
      reasons = reasons ∙ ap (λ w. c.args.findings.now.reasons.items ++ reasons_by_keys node limit (lacking w keys)) columns;
      marks = marks ∙ ap (λ w. c.args.findings.now.marks.items ++ marks_by_keys node limit (lacking w keys)) columns;
    })
    c.keys_entry.ensures.entry c.keys_entry.ensures.reasons c.keys_entry.ensures.marks
