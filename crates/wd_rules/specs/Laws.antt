-- What a valid certificate shows.
use Rattle.std.specs.Prelude.{◌≡◌, ℕ, ◌+◌, ◌↔◌, true, List, drop, None, ⊤}
use Rattle.wd_value.specs.Rows.{Instance}
use Rattle.wd_schema.specs.Meets.{Meets}
use Rattle.wd_schema.specs.Tables.{TableRule}
use Rattle.wd_plan.specs.Choices.{AtRows, IsValidChoice}
use Rattle.wd_plan.specs.Fits.{fits, width}
use Rattle.wd_plan.specs.Outcomes.{Agree, outcome}
use Rattle.wd_plan.specs.Plans.{PlanTree, Scan, Join, Over, node_count, ordering_count}
use Rattle.wd_plan.specs.Settled.{IsSettledPlan}
use Rattle.wd_laws.specs.Laws.{SameTables}
use Rattle.wd_certificate.specs.Certificates.{CertificateRecord, NodeRecord}
use Rattle.wd_facts.specs.Laws.{AreKept, GivenHold}
use Rattle.wd_rules.specs.Rules.{kept_facts}
use Rattle.wd_rules.specs.Validity.{IsValidCertificate, first_refusal, kept_below, kept_right, top_at}

-- the facts that the entry of a plan's top node keeps hold in the plan's rows, where it has rows
abbrev pub KeptHold : PlanTree → Instance → List (List ℕ) → ℕ → List NodeRecord → Type 0
KeptHold plan instance choice first nodes = AtRows (outcome plan instance choice) (AreKept (width plan) (kept_facts (top_at plan first nodes))) ⊤

-- and its given facts hold there
abbrev pub GivenHoldAt : List TableRule → PlanTree → Instance → List (List ℕ) → ℕ → List NodeRecord → Type 0
GivenHoldAt tables plan instance choice first nodes = GivenHold tables plan instance choice (kept_below plan first nodes) (kept_right plan first nodes)

abbrev pub BothHold : List TableRule → PlanTree → Instance → List (List ℕ) → ℕ → List NodeRecord → Type 0
BothHold tables plan instance choice first nodes = GivenHoldAt tables plan instance choice first nodes × KeptHold plan instance choice first nodes

-- the given and the kept facts of each node of a plan hold in the rows of that node
abbrev pub FactsHold : List TableRule → PlanTree → Instance → List (List ℕ) → ℕ → List NodeRecord → Type 0
FactsHold tables (Scan table columns) instance choice first nodes = BothHold tables (Scan table columns) instance choice first nodes
FactsHold tables (Join condition left right) instance choice first nodes =
    BothHold tables (Join condition left right) instance choice first nodes
    × FactsHold tables left instance choice first nodes
    × FactsHold tables right instance (drop (ordering_count left) choice) (first + node_count left) nodes
FactsHold tables (Over step input) instance choice first nodes = BothHold tables (Over step input) instance choice first nodes × FactsHold tables input instance choice first nodes

-- over an instance, under a choice: each given and each kept fact holds, and each call and each limit is settled
pub record Shows (tables : List TableRule) (plan : PlanTree) (nodes : List NodeRecord) (instance : Instance) (choice : List (List ℕ)) : Type 0 where
  pub facts : FactsHold tables plan instance choice 0 nodes
  pub settled : IsSettledPlan plan instance choice

-- this is so over every instance that meets the schema, under every valid choice
abbrev pub AlwaysShows : List TableRule → PlanTree → List NodeRecord → Type 0
AlwaysShows tables plan nodes = (instance : Instance) (choice : List (List ℕ)) → Meets tables instance → IsValidChoice plan instance choice → Shows tables plan nodes instance choice

-- a plan has one answer over every instance that meets the schema: in any row order, under any valid choices
abbrev pub HasOneAnswer : List TableRule → PlanTree → Type 0
HasOneAnswer tables plan = (instance other : Instance) (c1 c2 : List (List ℕ))
    → Meets tables instance → SameTables instance other → IsValidChoice plan instance c1 → IsValidChoice plan other c2 → Agree (outcome plan instance c1) (outcome plan other c2)

-- a certificate is valid exactly where it is not refused
abbrev pub ValidIsNotRefused : Type 0
ValidIsNotRefused = (tables : List TableRule) (plan : PlanTree) (certificate : CertificateRecord) → IsValidCertificate tables plan certificate ↔ (first_refusal tables plan certificate ≡ None)

-- what a valid certificate keeps and uses is true, if the plan fits
abbrev pub ValidShows : Type 0
ValidShows = (tables : List TableRule) (plan : PlanTree) (certificate : CertificateRecord) → fits tables plan ≡ true → IsValidCertificate tables plan certificate → AlwaysShows tables plan certificate.nodes

-- a plan that fits and has a valid certificate has one answer
abbrev pub ValidHasOne : Type 0
ValidHasOne = (tables : List TableRule) (plan : PlanTree) (certificate : CertificateRecord) → fits tables plan ≡ true → IsValidCertificate tables plan certificate → HasOneAnswer tables plan

-- two valid choices over an instance that meets the schema, whose outcomes do not agree
pub record IsTrueWitness (tables : List TableRule) (plan : PlanTree) (instance : Instance) (c1 c2 : List (List ℕ)) : Type 0 where
  pub meets : Meets tables instance
  pub first : IsValidChoice plan instance c1
  pub second : IsValidChoice plan instance c2
  pub differ : ¬ Agree (outcome plan instance c1) (outcome plan instance c2)

-- no plan that fits a schema has both a valid certificate and a true witness
abbrev pub NeverBoth : Type 0
NeverBoth = (tables : List TableRule) (plan : PlanTree) (certificate : CertificateRecord) (instance : Instance) (c1 c2 : List (List ℕ))
    → fits tables plan ≡ true → IsValidCertificate tables plan certificate → ¬ IsTrueWitness tables plan instance c1 c2
