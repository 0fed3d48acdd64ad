-- What an accepted certificate implies for each reading of the texts.
use Rattle.std.proofs.Common.{◌≡◌, ◌≢◌, ℕ, List, Option, Some, None, ◌∙◌, ap, subst, sym, true, is_some, inl, inr, refl}
use Rattle.std.proofs.lemmas.Bool.{false≢true}
use Rattle.wd_schema.specs.Laws.{HasOneMeaning}
use Rattle.wd_schema.specs.Tables.{TableRule}
use Rattle.wd_plan.specs.Plans.{PlanTree}
use Rattle.wd_certificate.specs.Certificates.{NodeRecord}
use Rattle.wd_certificate.specs.Json.{Spells}
use Rattle.wd_certificate.specs.Laws.{IsReadBack}
use Rattle.wd_certificate.specs.Refusals.{number_of}
use Rattle.wd_certificate.specs.declared.certificate.Version.{Version}
use Rattle.wd_certificate.specs.declared.error.CertError.{CertError}
use Rattle.wd_certificate.specs.declared.error.CertError.TheVariants as why
use Rattle.wd_resolve.specs.Answers.{Answer}
use Rattle.wd_query.specs.Causes.{text_number}
use Rattle.wd_query.specs.Laws.{HasMeaningOrCause, HasOnePlan}
use Rattle.wd_resolve.specs.Laws.{PlansFit, Reads}
use Rattle.wd_rules.specs.Laws.{ValidHasOne}
use Rattle.wd_rules.specs.Validity.{first_refusal}
use Rattle.wd_rules.proofs.Valid.{not_refused}
use Rattle.wd_accept.specs.Acceptance.{RefusesPlan, SpellsValid}
use Rattle.wd_accept.specs.Laws.{AcceptedHasOne, AcceptedIsTaken, NotBoth}
use Rattle.wd_accept.specs.declared.error.VerifyError.TheVariants as error

-- what holds of one reading holds of each
pub each_answer : HasOneMeaning → HasOnePlan → (schema query : List ℕ) (P : List TableRule → Answer → Type 0) (first second : Answer) (a : Reads schema query first) (b : Reads schema query second) → P a.tables first → P b.tables second
each_answer one_meaning one_plan schema query P first second a b h =
    subst (λ tables. P tables second) (one_meaning schema a.tables b.tables a.declares b.declares)
    (subst (λ (read : Answer). P a.tables read) (one_plan schema query first second a b) h)

pub every : HasOneMeaning → HasOnePlan → (schema query : List ℕ) (P : List TableRule → PlanTree → Type 0) (first second : Answer) (a : Reads schema query first) (b : Reads schema query second) → P a.tables first.plan → P b.tables second.plan
every one_meaning one_plan schema query P first second a b h = each_answer one_meaning one_plan schema query (λ tables read. P tables read.plan) first second a b h

pub accepted_has_one : HasOneMeaning → HasOnePlan → PlansFit → ValidHasOne → AcceptedHasOne
accepted_has_one one_meaning one_plan plans_fit valid_has_one schema query certificate accepted read reads =
    let valid = every one_meaning one_plan schema query (SpellsValid certificate) accepted.0 read accepted.1 reads accepted.2 in
    valid_has_one reads.tables read.plan valid.0 (plans_fit reads.tables reads.tree read reads.means) valid.2

no_refusal : (o : Option CertError) (refusal : CertError) → o ≡ None → o ≡ Some refusal → ⊥
no_refusal o refusal e f = false≢true (ap is_some (sym e ∙ f))

pub not_both : HasOneMeaning → HasOnePlan → IsReadBack → NotBoth
not_both one_meaning one_plan is_read_back schema query certificate refusal accepted some refused =
    by (every one_meaning one_plan schema query (SpellsValid certificate) accepted.0 refused.0 accepted.1 refused.1 accepted.2) refused.2
  where
    tables : List TableRule
    tables = refused.1.tables

    plan : PlanTree
    plan = refused.0.plan

    by : SpellsValid certificate tables plan → RefusesPlan refusal certificate tables plan → ⊥
    by valid (inl cause) = false≢true (subst (λ e. is_some (number_of e) ≡ true) ((is_read_back certificate valid.0 valid.1).1 refusal cause) some)
    by valid (inr cause) = no_refusal (first_refusal tables plan cause.0) refusal (subst (λ said. first_refusal tables plan said ≡ None) (sym ((is_read_back certificate valid.0 valid.1).0 cause.0 cause.1)) (not_refused tables plan valid.0 valid.2)) cause.2

-- what refuses the certificate that a text spells refuses the text, and so does a want of memory
pub refuses : (certificate : List ℕ) (tables : List TableRule) (plan : PlanTree) (nodes : List NodeRecord) (version : Version) (e : CertError)
    → Spells (record { nodes = nodes; version = version }) certificate → (e ≢ why.OutOfMemory → first_refusal tables plan (record { nodes = nodes; version = version }) ≡ Some e)
    → RefusesPlan e certificate tables plan
refuses certificate tables plan nodes version why.NotJson s h = inr (_, s, h (λ e. absurd (cc)))
refuses certificate tables plan nodes version why.Shape s h = inr (_, s, h (λ e. absurd (cc)))
refuses certificate tables plan nodes version why.Version s h = inr (_, s, h (λ e. absurd (cc)))
refuses certificate tables plan nodes version why.Count s h = inr (_, s, h (λ e. absurd (cc)))
refuses certificate tables plan nodes version (why.UnreachedUse node) s h = inr (_, s, h (λ e. absurd (cc)))
refuses certificate tables plan nodes version (why.UnreachedClaim node) s h = inr (_, s, h (λ e. absurd (cc)))
refuses certificate tables plan nodes version (why.UnjustifiedCall node) s h = inr (_, s, h (λ e. absurd (cc)))
refuses certificate tables plan nodes version (why.SecondExchange node) s h = inr (_, s, h (λ e. absurd (cc)))
refuses certificate tables plan nodes version (why.UnjustifiedLimit node) s h = inr (_, s, h (λ e. absurd (cc)))
refuses certificate tables plan nodes version (why.OutOfRange node) s h = inr (_, s, h (λ e. absurd (cc)))
refuses certificate tables plan nodes version why.OutOfMemory s h = inl tt

-- ---- what is accepted is taken

-- an error without a number says that memory ran out
pub no_number : (number : Option ℕ) → (is_some number ≡ true → ⊥) → number ≡ None
no_number None h = refl
no_number (Some n) h = absurd (h refl)

pub accepted_is_taken : HasMeaningOrCause → NotBoth → AcceptedIsTaken
accepted_is_taken meaning_or_cause not_both schema query certificate (error.Texts refusal) meaning accepted cause = no_number (text_number refusal) (λ some. meaning_or_cause schema query refusal meaning some cause)
accepted_is_taken meaning_or_cause not_both schema query certificate (error.Certificate refusal) meaning accepted cause = no_number (number_of refusal) (λ some. not_both schema query certificate refusal accepted some cause)
accepted_is_taken meaning_or_cause not_both schema query certificate error.Unlisted meaning accepted cause = absurd cause
