use Rattle.std.proofs.Common.{rules, ◌≡◌, ◌++◌, true, List, length, map, nat_lt, None, refl, sym, subst, ap, ◌∙◌, arith}
use Rattle.std.specs.List.{list_all}
use Rattle.std.proofs.lemmas.List.{length-map}
use Rattle.std.proofs.lemmas.Result.{IfOk-weaker}
use Rattle.wd_schema.specs.Schemas.{schema_of}
use Rattle.wd_certificate.specs.Certificates.{node_of}
use Rattle.wd_plan.specs.Fits.{width}
use Rattle.wd_plan.specs.Plans.{class_of, plan_of, window_of}
use Rattle.wd_plan.specs.Sorting.{class_columns}
use Rattle.wd_analyse.specs.Decisions.{decided_calls, rules_in}
use Rattle.wd_analyse.specs.Entry.{entry_by}
use Rattle.wd_analyse.specs.Evidence.{Closing, closing_of}
use Rattle.wd_analyse.specs.Findings.{Finding, decided_at, marks_of, reasons_of}
use Rattle.wd_analyse.proofs.Entries.{decided_long}
use Rattle.wd_analyse.proofs.Founds.{window_classes, window_narrow}
use Rattle.wd_analyse.proofs.Says.{window_said}
use Rattle.wd_analyse.proofs.entry.window_entry.Goals as goal

pub close_classes-requires-clause-within : goal.close_classes-requires-clause-within
close_classes-requires-clause-within c =
    subst (λ cs. list_all (λ class. list_all (λ k. nat_lt k c.args.here.now.facts.columns) (class_columns class)) (map class_of cs) ≡ true) (sym c.deref.ensures.value)
    (window_classes (schema_of c.args.schema.now) (plan_of c.args.plan.now) (plan_of c.args.input.now) (window_of c.args.window.now) c.args.here.now.facts.columns c.requires.is c.requires.fits c.requires.admits.wide)

pub say_calls-requires : goal.say_calls-requires
say_calls-requires c =
    let classes : List Closing = map closing_of c.deref-2.result.now in
    let few = window_narrow (schema_of c.args.schema.now) (plan_of c.args.plan.now) (plan_of c.args.input.now) (window_of c.args.window.now) c.requires.is c.requires.fits in
    omega (arith, few, ap length (c.deref-3.ensures.value ∙ c.in_ok-decided.ensures), decided_long classes c.len-first.result c.width-2.result None (window_of c.args.window.now).calls)

pub returns : goal.returns
returns c =
    let facts = c.args.here.now.facts in
    let claims : List Closing = map closing_of c.args.here.now.claims.items in
    let classes : List Closing = map closing_of c.in_ok-classes.classes.items in
    let w = window_of c.args.window.now in
    let columns = width (plan_of c.args.input.now) in
    let number : c.len-first.result ≡ length c.args.here.now.claims.items = search rules in
    let first : c.len-first.result ≡ length claims = number ∙ sym (length-map c.args.here.now.claims.items closing_of) in
    let decided : c.in_ok-decided.decided.items ≡ decided_calls classes (length claims) columns None w.calls =
    c.in_ok-decided.ensures ∙ (λ i. decided_calls (map closing_of (c.deref-2.ensures.value i)) (first i) (c.width-2.ensures i) None w.calls) in
    let said = c.deref-3.ensures.value ∙ decided in
    let rules_are : c.in_ok-rules.rules.items ≡ rules_in (decided_calls classes (length claims) columns None w.calls) = c.in_ok-rules.ensures ∙ ap rules_in (c.deref-4.ensures.value ∙ decided) in
    IfOk-weaker c.make_entry.result _ _
    (λ n is.
    let f : Finding = record {
      claims = claims;
      entry = node_of n;
      reasons = reasons_of c.args.here.now.node 0 (decided_at w (plan_of c.args.input.now) claims classes);
      marks = marks_of c.args.here.now.node 0 (decided_at w (plan_of c.args.input.now) claims classes);
    } in
    record {
      finding = f;
      said = window_said facts (plan_of c.args.plan.now) (plan_of c.args.input.now) c.args.here.now.node f w c.requires.is
          (record {
            classes = classes;
            closings = c.in_ok-classes.ensures.closings;
            columns = c.in_ok-classes.ensures.starts ∙ ap (λ cs. map class_columns (map class_of cs)) c.deref.ensures.value;
            entry = is ∙ (λ i. entry_by ((c.width-3.ensures ∙ ap width c.requires.is) i) (map closing_of (c.deref-5.ensures.value i)) (map closing_of (c.deref-6.ensures.value i)) (rules_are i) None);
            reasons = refl;
            marks = refl;
          });
      claims_are = refl;
      entry_is = refl;
      reasons = c.in_ok-say_calls.ensures.reasons ∙ ap (λ ds. c.args.findings.now.reasons.items ++ reasons_of c.args.here.now.node 0 ds) said;
      marks = c.in_ok-say_calls.ensures.marks ∙ ap (λ ds. c.args.findings.now.marks.items ++ marks_of c.args.here.now.node 0 ds) said;
    })
    c.make_entry.ensures
