-- A node's entry after those of its inputs, and the entries of a whole plan.
use Rattle.std.proofs.Common.{◌≡◌, ℕ, ◌≤◌, Bool, true, false, not, cond, List, [], ◌∷◌, ◌++◌, length, map, refl, sym, ◌∙◌, ap, arith, subst, eq-eqb, nat_eq}
use Rattle.wd_schema.specs.Tables.{TableRule}
use Rattle.wd_plan.specs.Fits.{fits, width}
use Rattle.wd_plan.specs.Plans.{Filter, Map, Group, Window, Distinct, Limit, PlanTree, Scan, Join, Over, node_count}
use Rattle.wd_certificate.specs.Certificates.{NodeRecord, node_of}
use Rattle.wd_certificate.specs.declared.certificate.Node.{Node}
use Rattle.wd_certificate.specs.declared.certificate.Version.TheVariants.{One, Two}
use Rattle.wd_certificate.specs.declared.error.CertError.TheVariants as refused
use Rattle.wd_step_facts.specs.Facts.{Fact, FactList}
use Rattle.wd_facts.specs.Given.{given}
use Rattle.wd_facts.specs.Laws.{AreOfChildren, ArePlain}
use Rattle.wd_rules.specs.Rules.{entry_refusal, or_else, refuse_unless}
use Rattle.wd_rules.specs.Validity.{IsValidCertificate, has_group, is_read_for, version_needed}
use Rattle.wd_rules.proofs.Valid.{valid}
use Rattle.wd_analyse.specs.Evidence.{Closing}
use Rattle.wd_analyse.specs.Kept.{kept_fact}
use Rattle.wd_analyse.specs.Steps.{Admits}
use Rattle.wd_analyse.proofs.Valid.{AreClaims, IsAnalysed, IsFound, IsTop}
use Rattle.wd_analyse.specs.declared.analysis.Reason.{Reason}
use Rattle.wd_analyse.proofs.Entries.{map_append}
use Rattle.wd_analyse.proofs.Keeps.{claims_plain}
use Rattle.wd_analyse.proofs.Named.{given_named, given_split}

given_wide : (tables : List TableRule) (plan : PlanTree) (kept more : List Fact) → width plan ≤ (given tables plan kept more).columns
given_wide tables (Scan table columns) kept more = omega arith
given_wide tables (Join condition left right) kept more = omega arith
given_wide tables (Over (Filter condition) input) kept more = omega arith
given_wide tables (Over (Map outputs) input) kept more = omega arith
given_wide tables (Over (Window w) input) kept more = omega arith
given_wide tables (Over (Group g) input) kept more = omega arith
given_wide tables (Over Distinct input) kept more = omega arith
given_wide tables (Over (Limit limit) input) kept more = omega arith

pub given_admits : (tables : List TableRule) (plan : PlanTree) (kept more : List Fact) (facts : FactList) → facts ≡ given tables plan kept more → fits tables plan ≡ true → AreOfChildren plan kept more → Admits facts (width plan)
given_admits tables plan kept more facts is f h =
    subst (λ t. Admits t (width plan)) (sym is) (record { split = given_split tables plan kept more; named = given_named tables plan kept more f h; wide = given_wide tables plan kept more })

pub top_found : (tables : List TableRule) (plan : PlanTree) (kept more : List Fact) (facts : FactList) (node : ℕ) (claims : List Closing) (entry : NodeRecord) (old new : List NodeRecord) (before after : List Reason) (result : List Fact)
    → facts ≡ given tables plan kept more → AreClaims facts (width plan) claims → IsFound facts plan node claims entry before after → node ≡ length old → new ≡ old ++ entry ∷ [] → result ≡ map (kept_fact (width plan)) claims
    → IsTop tables plan kept more old new before after result
top_found tables plan kept more facts node claims entry old new before after result is c found number grows r = record {
  entry = entry;
  is = grows;
  keeps = found.keeps ∙ sym r;
  plain = subst (ArePlain (width plan)) (sym r) (claims_plain facts (width plan) claims c.claims);
  settled = λ e. let own = found.settled e in (own.0, record { passed = (λ i. entry_refusal (sym number i) (sym is i) plan entry) ∙ own.1; limit = own.2; calls = own.3 });
}

-- the least version for a plan is read for it
needed_read : (plan : PlanTree) → is_read_for plan (version_needed plan) ≡ true
needed_read plan = by (has_group plan) refl
  where
    by : (b : Bool) → has_group plan ≡ b → is_read_for plan (version_needed plan) ≡ true
    by true e = ap (λ b. is_read_for plan (cond b Two One)) e
    by false e = ap (λ b. is_read_for plan (cond b Two One)) e ∙ ap not e

-- a plan without reasons has a valid certificate, of the least version for it
pub is_valid : (tables : List TableRule) (plan : PlanTree) (nodes : List NodeRecord) (facts : List Fact) (reasons : List Reason) → IsAnalysed tables plan [] nodes [] reasons facts → reasons ≡ [] → IsValidCertificate tables plan (record { nodes = nodes; version = version_needed plan })
is_valid tables plan nodes facts reasons a none =
    let entries = (a.settled none).1 in
    let count : nat_eq (length nodes) (node_count plan) ≡ true = eq-eqb (length nodes) (node_count plan) (omega (arith, a.long)) in
    valid tables plan (record { nodes = nodes; version = version_needed plan }) (λ i. or_else (refuse_unless (needed_read plan i) refused.Version)
    (or_else (or_else (refuse_unless (count i) refused.Count) (or_else (refuse_unless (entries.limits i) refused.Shape) (refuse_unless (entries.calls i) refused.Count))) (entries.passed i)))

pub pushed : (nodes : List Node) (node : Node) → map node_of (nodes ++ node ∷ []) ≡ map node_of nodes ++ node_of node ∷ []
pushed nodes node = map_append node_of nodes (node ∷ [])
