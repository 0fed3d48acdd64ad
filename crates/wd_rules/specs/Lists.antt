-- When outcomes agree as lists, and which plans have one list of rows.
use Rattle.std.specs.Prelude.{◌≡◌, ℕ, Bool, true, false, List, Option, Some, None, is_some, Ok, Err, ⊤}
use Rattle.wd_value.specs.Rows.{Instance}
use Rattle.wd_schema.specs.Meets.{Meets}
use Rattle.wd_schema.specs.Tables.{TableRule}
use Rattle.wd_plan.specs.Choices.{AtRows, IsValidChoice}
use Rattle.wd_plan.specs.Facts.{DeterminesAll, HasWidth}
use Rattle.wd_plan.specs.Fits.{fits}
use Rattle.wd_plan.specs.Outcomes.{RowsOrFault, outcome}
use Rattle.wd_plan.specs.Plans.{PlanTree, Over, Map, Limit}
use Rattle.wd_plan.specs.Settled.{IsSettledPlan}
use Rattle.wd_plan.specs.Sorting.{limit_class, order_columns}
use Rattle.wd_laws.specs.Laws.{SameTables}
use Rattle.wd_certificate.specs.Certificates.{CertificateRecord, NodeRecord}
use Rattle.wd_rules.specs.Validity.{IsValidCertificate, entry_at, top_number}

-- outcomes agree as lists where they are one fault, or equal lists of rows
abbrev pub AgreeAsLists : RowsOrFault → RowsOrFault → Type 0
AgreeAsLists (Ok rows) (Ok others) = rows ≡ others
AgreeAsLists (Ok rows) (Err g) = ⊥
AgreeAsLists (Err f) (Ok others) = ⊥
AgreeAsLists (Err f) (Err g) = f ≡ g

-- The number of the Limit that orders a plan's rows: the last Limit in postorder, which is the plan's top node, or the first node below
-- the top that is no Map, since a Map keeps the order. None where that node is no Limit. The plan's nodes are numbered from the given
-- number on.
abbrev pub final_limit : PlanTree → ℕ → Option ℕ
final_limit (Over (Map outputs) input) first = final_limit input first
final_limit (Over (Limit limit) input) first = Some (top_number (Over (Limit limit) input) first)
final_limit plan first = None

-- there is such a Limit, and its entry names a trace, so it goes by `keys`
abbrev pub goes_by_keys : List NodeRecord → Option ℕ → Bool
goes_by_keys nodes None = false
goes_by_keys nodes (Some n) = is_some (entry_at nodes n).limit

-- the sort keys of that Limit determine every column of the rows that it reads
abbrev pub IsListedPlan : PlanTree → Instance → List (List ℕ) → Type 0
IsListedPlan (Over (Map outputs) input) instance choice = IsListedPlan input instance choice
IsListedPlan (Over (Limit limit) input) instance choice = AtRows (outcome input instance choice) (λ rows. (width : ℕ) × HasWidth width rows × DeterminesAll rows width (order_columns (limit_class limit))) ⊤
IsListedPlan plan instance choice = ⊥

-- The list law: a plan that is settled under one valid choice, and whose last Limit has sort keys that determine every column, has
-- outcomes that agree as lists under every valid choice, over the same tables in any row order, faults included.
abbrev pub PlanHasOneList : Type 0
PlanHasOneList = (plan : PlanTree) (instance other : Instance) (c1 c2 : List (List ℕ))
    → SameTables instance other → IsValidChoice plan instance c1 → IsValidChoice plan other c2 → IsSettledPlan plan instance c1 → IsListedPlan plan instance c1
    → AgreeAsLists (outcome plan instance c1) (outcome plan other c2)

-- a plan has one list over every instance that meets the schema: in any row order, under any valid choices
abbrev pub HasOneList : List TableRule → PlanTree → Type 0
HasOneList tables plan = (instance other : Instance) (c1 c2 : List (List ℕ))
    → Meets tables instance → SameTables instance other → IsValidChoice plan instance c1 → IsValidChoice plan other c2 → AgreeAsLists (outcome plan instance c1) (outcome plan other c2)

-- a plan that fits and has a valid certificate that justifies its last Limit by `keys` has one list
abbrev pub ListedHasOne : Type 0
ListedHasOne = (tables : List TableRule) (plan : PlanTree) (certificate : CertificateRecord)
    → fits tables plan ≡ true → IsValidCertificate tables plan certificate → goes_by_keys certificate.nodes (final_limit plan 0) ≡ true → HasOneList tables plan
