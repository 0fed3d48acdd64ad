-- The answer, by what is found at all nodes.
use Rattle.std.proofs.Common.{◌≡◌, ◌≢◌, List, [], ◌++◌, length, sym, ◌∙◌, ap, subst}
use Rattle.wd_schema.specs.Tables.{TableRule}
use Rattle.wd_plan.specs.Plans.{PlanTree}
use Rattle.wd_step_facts.specs.Facts.{Fact}
use Rattle.wd_certificate.specs.declared.certificate.Version.{Version}
use Rattle.wd_rules.specs.Validity.{IsValidCertificate, version_needed}
use Rattle.wd_analyse.specs.declared.analysis.Analysis.TheVariants.{Certified, Open}
use Rattle.wd_analyse.specs.declared.nodes.Found.{Found}
use Rattle.wd_analyse.specs.Analysis.{IsAnswer}
use Rattle.wd_analyse.specs.Findings.{AreFindings, Finding, entries_in, facts_kept, in_postorder, marks_in, reasons_in}
use Rattle.wd_analyse.specs.Steps.{Finds, entries_of}
use Rattle.wd_analyse.proofs.Sound.{are_analysed}
use Rattle.wd_analyse.proofs.Tops.{is_valid}

module _ (tables : List TableRule) (plan : PlanTree) (old new : Found) (facts : List Fact) (none : entries_of old ≡ []) (no_reasons : old.findings.reasons.items ≡ []) (no_marks : old.findings.marks.items ≡ []) (f : Finds tables plan old new facts) where
  abbrev all : List Finding
  all = in_postorder f.found

  from_first : AreFindings tables plan 0 f.found
  from_first = subst (λ n. AreFindings tables plan n f.found) (ap length none) f.are

  reasons_are : new.findings.reasons.items ≡ reasons_in all
  reasons_are = f.reasons ∙ ap (λ l. l ++ reasons_in all) no_reasons

  pub certified : (version : Version) → version ≡ version_needed plan → new.findings.reasons.items ≡ [] → IsAnswer tables plan (Certified (record { nodes = new.nodes; version = version }))
  certified version needed e =
      let silent : reasons_in all ≡ [] = sym reasons_are ∙ e in
      let entries : entries_of new ≡ entries_in all = f.entries ∙ ap (λ l. l ++ entries_in all) none in
      record {
        sound = subst (λ v. IsValidCertificate tables plan (record { nodes = entries_of new; version = v })) (sym needed)
            (subst (λ nodes. IsValidCertificate tables plan (record { nodes = nodes; version = version_needed plan })) (sym entries) (is_valid tables plan (entries_in all) (facts_kept plan f.found.top) (reasons_in all) (are_analysed tables plan [] [] f.found from_first) silent));
        exact = record { found = f.found; are = from_first; tells = (silent, entries, needed) };
      }

  pub opened : new.findings.reasons.items ≢ [] → IsAnswer tables plan (Open new.findings.reasons new.findings.marks)
  opened e = record {
    sound = e;
    exact = record { found = f.found; are = from_first; tells = (e, reasons_are, f.marks ∙ ap (λ l. l ++ marks_in all) no_marks) };
  }
