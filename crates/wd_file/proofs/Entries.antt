-- What a lock has of statements, one after another.
use Rattle.std.proofs.Common.{◌≡◌, ℕ, List, [], ◌∷◌, ◌++◌, refl, sym, subst, inl}
use Rattle.wd_schema.specs.Schemas.{schema_of}
use Rattle.wd_plan.specs.Plans.{plan_of}
use Rattle.wd_certificate.specs.declared.certificate.Certificate.{Certificate}
use Rattle.wd_analyse.specs.Analysis.{IsAnswer}
use Rattle.wd_analyse.specs.declared.analysis.Analysis.{Analysis}
use Rattle.wd_analyse.specs.declared.analysis.Analysis.TheVariants as analysis
use Rattle.wd_query.proofs.ForReadings.{for_reading}
use Rattle.wd_decide.specs.Verdicts.{IsExamined, IsVerdictOf}
use Rattle.wd_decide.specs.declared.verdict.Examined.{Examined}
use Rattle.wd_decide.specs.declared.verdict.Verdict.TheVariants.{Deterministic}
use Rattle.wd_judged.specs.Judgements.{statement_of}
use Rattle.wd_lex.specs.declared.token.Span.{Span}
use Rattle.wd_lock.specs.declared.entry.Entry.{Entry}
use Rattle.wd_lock.specs.declared.entry.Entry.TheVariants.{Open, Certified}
use Rattle.wd_file.specs.Locked.{AreEntriesOf, IsEntryOf, IsOpen, entry_of}

pub one_more : (schema text : List ℕ) (spans : List Span) (entries : List Entry) (span : Span) (entry : Entry) → AreEntriesOf schema text spans entries → IsEntryOf schema (statement_of text span) entry
    → AreEntriesOf schema text (spans ++ span ∷ []) (entries ++ entry ∷ [])
one_more schema text [] [] span entry h is = (is, tt)
one_more schema text [] (e ∷ entries) span entry h is = absurd h
one_more schema text (s ∷ spans) [] span entry h is = absurd h
one_more schema text (s ∷ spans) (e ∷ entries) span entry h is = (h.0, one_more schema text spans entries span entry h.1 is)

-- what is certified is what the verdict is worth
certified : (schema query : List ℕ) (examined : Examined) (certificate : Certificate) → IsExamined schema query examined → examined.analysis ≡ analysis.Certified certificate
    → IsEntryOf schema query (Certified certificate)
certified schema query examined certificate is e =
    for_reading schema query examined.planned is.read (λ tables plan. (a : Analysis) × IsAnswer tables plan a × IsVerdictOf tables plan a (Deterministic certificate))
    (analysis.Certified certificate, subst (λ a. IsAnswer (schema_of examined.planned.schema) (plan_of examined.planned.resolved.plan) a) e is.analysed, refl)

-- where something is open, there is none
still_open : (schema query : List ℕ) (examined : Examined) (a : Analysis) → IsExamined schema query examined → examined.analysis ≡ a → IsOpen a → IsEntryOf schema query Open
still_open schema query examined a is e o = inl (examined, is, subst (λ x. IsOpen x) (sym e) o)

pub of_examined : (schema query : List ℕ) (examined : Examined) (a : Analysis) → IsExamined schema query examined → examined.analysis ≡ a → IsEntryOf schema query (entry_of a)
of_examined schema query examined (analysis.Certified certificate) is e = certified schema query examined certificate is e
of_examined schema query examined (analysis.Open reasons marks) is e = still_open schema query examined (analysis.Open reasons marks) is e tt
