-- What a certificate implies by which the answer's Limit goes by `keys`.
use Rattle.std.proofs.Common.{◌≡◌, ℕ, Bool, true, false, cond, List, length, Option, None, is_some, refl, sym, ◌∙◌, ap, inl, inr}
use Rattle.std.proofs.lemmas.Bool.{false≢true}
use Rattle.wd_schema.specs.Laws.{HasOneMeaning}
use Rattle.wd_schema.specs.Tables.{TableRule}
use Rattle.wd_plan.specs.Plans.{PlanTree, node_count}
use Rattle.wd_certificate.specs.Certificates.{CertificateRecord, NodeRecord}
use Rattle.wd_certificate.specs.Laws.{IsReadBack}
use Rattle.wd_certificate.specs.declared.certificate.Version.{Version}
use Rattle.wd_resolve.specs.Laws.{EndsInLimit, OrderedEndInLimit, PlansFit}
use Rattle.wd_query.specs.Laws.{HasOnePlan}
use Rattle.wd_rules.specs.Lists.{ListedHasOne, final_limit, goes_by_keys}
use Rattle.wd_rules.specs.Validity.{IsValidCertificate}
use Rattle.wd_accept.specs.Acceptance.{HasCause}
use Rattle.wd_accept.specs.declared.error.VerifyError.{VerifyError}
use Rattle.wd_accept.specs.declared.error.VerifyError.TheVariants as error
use Rattle.wd_accept.specs.Laws.{AcceptedIsTaken}
use Rattle.wd_accept.specs.Lists.{HasListCause, IsListAccepted, ListedHasOneList, ListedIsTaken, OrderedHaveLimit, SpellsListed, answer_limit}
use Rattle.wd_accept.proofs.Verdicts.{each_answer}

-- a valid certificate has an entry for each node
pub valid_long : (tables : List TableRule) (plan : PlanTree) (nodes : List NodeRecord) (version : Version) → IsValidCertificate tables plan (record { nodes = nodes; version = version }) → length nodes ≡ node_count plan
valid_long tables plan nodes version v = v.count

-- what refuses a certificate refuses it as a list's
pub list_cause : (schema query certificate : List ℕ) (e : VerifyError) → HasCause schema query certificate e → HasListCause schema query certificate e
list_cause schema query certificate (error.Texts refusal) h = h
list_cause schema query certificate (error.Certificate refusal) h = h
list_cause schema query certificate error.Unlisted h = absurd h

-- the answer's Limit is the plan's last one
by_order : (nodes : List NodeRecord) (limit : Option ℕ) (b : Bool) → goes_by_keys nodes (cond b limit None) ≡ true → goes_by_keys nodes limit ≡ true
by_order nodes limit true e = e
by_order nodes limit false e = absurd (false≢true e)

pub listed_has_one_list : HasOneMeaning → HasOnePlan → PlansFit → ListedHasOne → ListedHasOneList
listed_has_one_list one_meaning one_plan plans_fit listed_has_one schema query certificate (first, a, (said, spells, valid, keys)) = (
  (first, a, (said, spells, valid)),
  λ read reads.
      let there : SpellsListed true certificate reads.tables read = each_answer one_meaning one_plan schema query (SpellsListed true certificate) first read a reads (said, spells, valid, keys) in
      listed_has_one reads.tables read.plan there.0 (plans_fit reads.tables reads.tree read reads.means) there.2 (by_order there.0.nodes (final_limit read.plan 0) read.ordered there.3),
)

-- a valid certificate does not go both ways
not_both : HasOneMeaning → HasOnePlan → IsReadBack → (schema query certificate : List ℕ) → IsListAccepted schema query certificate → HasListCause schema query certificate error.Unlisted → ⊥
not_both one_meaning one_plan is_read_back schema query certificate (first, a, listed) (second, b, unlisted) =
    let there : SpellsListed true certificate b.tables second = each_answer one_meaning one_plan schema query (SpellsListed true certificate) first second a b listed in
    let same : unlisted.0 ≡ there.0 = (is_read_back certificate there.0 there.1).0 unlisted.0 unlisted.1 in
    false≢true (sym unlisted.3 ∙ ap (λ (said : CertificateRecord). goes_by_keys said.nodes (answer_limit second)) same ∙ there.3)

pub listed_is_taken : HasOneMeaning → HasOnePlan → IsReadBack → ListedHasOneList → AcceptedIsTaken → ListedIsTaken
listed_is_taken one_meaning one_plan is_read_back listed taken schema query certificate (error.Texts refusal) meaning accepted cause = taken schema query certificate (error.Texts refusal) meaning (listed schema query certificate accepted).0 cause
listed_is_taken one_meaning one_plan is_read_back listed taken schema query certificate (error.Certificate refusal) meaning accepted cause = taken schema query certificate (error.Certificate refusal) meaning (listed schema query certificate accepted).0 cause
listed_is_taken one_meaning one_plan is_read_back listed taken schema query certificate error.Unlisted meaning accepted cause = absurd (not_both one_meaning one_plan is_read_back schema query certificate accepted cause)

-- a plan that ends in a Limit has a last one
has_last : (plan : PlanTree) → EndsInLimit plan → is_some (final_limit plan 0) ≡ true
has_last plan (limit, input, inl is) = ap (λ p. is_some (final_limit p 0)) is
has_last plan (limit, input, inr (outputs, is)) = ap (λ p. is_some (final_limit p 0)) is

pub ordered_have_limit : OrderedEndInLimit → OrderedHaveLimit
ordered_have_limit ends schema query read reads = by read.ordered (λ o. has_last read.plan (ends reads.tables reads.tree read reads.means o))
  where
    by : (b : Bool) → (b ≡ true → is_some (final_limit read.plan 0) ≡ true) → is_some (cond b (final_limit read.plan 0) None) ≡ b
    by true h = h refl
    by false h = refl
