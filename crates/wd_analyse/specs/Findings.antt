-- What is found at the nodes of a plan.
use Rattle.std.specs.Prelude.{◌≡◌, ℕ, ◌+◌, List, [], ◌∷◌, ◌++◌, flat_map, length, map, Option, None, Some, is_some, if◌then◌else◌}
use Rattle.wd_value.specs.Keys.{key_columns}
use Rattle.wd_schema.specs.Tables.{TableRule}
use Rattle.wd_plan.specs.Fits.{width}
use Rattle.wd_plan.specs.Plans.{LimitRule, PlanTree, WindowRule, Scan, Join, Over, Window, Limit}
use Rattle.wd_plan.specs.Sorting.{class_columns}
use Rattle.wd_certificate.specs.Certificates.{NodeRecord}
use Rattle.wd_certificate.specs.declared.certificate.Rule.{Rule}
use Rattle.wd_certificate.specs.declared.certificate.Rule.TheVariants as rule
use Rattle.wd_step_facts.specs.Facts.{Fact, FactList}
use Rattle.wd_facts.specs.Given.{given}
use Rattle.wd_step_facts.specs.Steps.{all_columns}
use Rattle.wd_rules.specs.Rules.{is_whole_or_ties}
use Rattle.wd_analyse.specs.declared.analysis.Mark.{Mark}
use Rattle.wd_analyse.specs.declared.analysis.Reason.{Reason}
use Rattle.wd_analyse.specs.declared.analysis.RuleName.{RuleName}
use Rattle.wd_analyse.specs.declared.analysis.RuleName.TheVariants as name
use Rattle.wd_analyse.specs.declared.decided.Decided.{Decided}
use Rattle.wd_analyse.specs.declared.decided.Decided.TheVariants.{By, Open}
use Rattle.wd_analyse.specs.declared.decided.Lack.TheVariants as lack
use Rattle.wd_analyse.specs.Decisions.{decided_calls, missing_of, rules_in}
use Rattle.wd_analyse.specs.Entry.{entry_by}
use Rattle.wd_analyse.specs.Evidence.{Closing, IsClosing}
use Rattle.wd_analyse.specs.Kept.{kept_fact}
use Rattle.wd_analyse.specs.Sources.{AreClosings, Keeps, sources, starts}

abbrev pub name_of : Rule → RuleName
name_of rule.Peers = name.Peers
name_of (rule.Unique n) = name.Unique
name_of (rule.Values n) = name.Values
name_of (rule.Exchange n) = name.Exchange

-- the reason for the call with a number, at the node with a number
abbrev pub reason_of : ℕ → ℕ → Decided → List Reason
reason_of node call (By r) = []
reason_of node call (Open lacking) = record { node = node; call = Some call; lack = lacking } ∷ []

abbrev pub mark_of : ℕ → ℕ → Decided → List Mark
mark_of node call (By r) = record { node = node; call = Some call; rule = name_of r } ∷ []
mark_of node call (Open lacking) = []

-- the reasons for the calls from a number on
abbrev pub reasons_of : ℕ → ℕ → List Decided → List Reason
reasons_of node call [] = []
reasons_of node call (d ∷ ds) = reason_of node call d ++ reasons_of node (call + 1) ds

abbrev pub marks_of : ℕ → ℕ → List Decided → List Mark
marks_of node call [] = []
marks_of node call (d ∷ ds) = mark_of node call d ++ marks_of node (call + 1) ds

-- the reason for the limit of the node with a number
abbrev pub limit_reason : ℕ → ℕ → Reason
limit_reason node column = record { node = node; call = None; lack = lack.Column column }

abbrev pub limit_mark : ℕ → RuleName → Mark
limit_mark node rule = record { node = node; call = None; rule = rule }

-- ---- what is found at a node

-- what the node keeps, its entry, and the reasons and marks of its calls or its limit
pub record Finding : Type 0 where
  pub claims : List Closing
  pub entry : NodeRecord
  pub reasons : List Reason
  pub marks : List Mark

-- what is found at a node with `width` columns that has neither calls nor a limit
pub record IsBare (width : ℕ) (f : Finding) : Type 0 where
  pub entry : f.entry ≡ entry_by width f.claims [] [] None
  pub reasons : f.reasons ≡ []
  pub marks : f.marks ≡ []

-- what is decided of a Window's calls, by what the node keeps and what its classes' columns determine
abbrev pub decided_at : WindowRule → PlanTree → List Closing → List Closing → List Decided
decided_at w input claims classes = decided_calls classes (length claims) (width input) None w.calls

pub record IsOfWindow (facts : FactList) (w : WindowRule) (input : PlanTree) (node : ℕ) (f : Finding) : Type 0 where
  pub classes : List Closing
  pub closings : AreClosings facts classes
  pub columns : starts classes ≡ map class_columns w.classes
  pub entry : f.entry ≡ entry_by (width (Over (Window w) input)) f.claims classes (rules_in (decided_at w input f.claims classes)) None
  pub reasons : f.reasons ≡ reasons_of node 0 (decided_at w input f.claims classes)
  pub marks : f.marks ≡ marks_of node 0 (decided_at w input f.claims classes)

-- a limit without a count keeps all rows
abbrev pub whole_or_ties : LimitRule → RuleName
whole_or_ties limit = if is_some limit.count then name.Ties else name.Whole

-- a limit's entry, by the least column that the sort keys do not determine, if there is one
abbrev pub entry_by_keys : ℕ → List Closing → Closing → Option ℕ → NodeRecord
entry_by_keys width claims keys None = entry_by width claims (keys ∷ []) [] (Some (length claims))
entry_by_keys width claims keys (Some column) = entry_by width claims [] [] None

-- without such a column the limit goes by `keys`; else by `whole` or `ties`, where it keeps all rows, or all that tie
abbrev pub reasons_by_keys : ℕ → LimitRule → Option ℕ → List Reason
reasons_by_keys node limit None = []
reasons_by_keys node limit (Some column) = if is_whole_or_ties limit then [] else limit_reason node column ∷ []

abbrev pub marks_by_keys : ℕ → LimitRule → Option ℕ → List Mark
marks_by_keys node limit None = limit_mark node name.Keys ∷ []
marks_by_keys node limit (Some column) = if is_whole_or_ties limit then limit_mark node (whole_or_ties limit) ∷ [] else []

-- the least of the first `columns` columns that others do not determine
abbrev pub lacking : ℕ → Closing → Option ℕ
lacking columns c = missing_of c.has (all_columns columns)

-- `keys` comes first at each Limit
pub record IsOfLimit (facts : FactList) (limit : LimitRule) (input : PlanTree) (node : ℕ) (f : Finding) : Type 0 where
  pub keys : Closing
  pub closing : IsClosing facts keys
  pub columns : keys.from ≡ key_columns limit.keys
  pub entry : f.entry ≡ entry_by_keys (width (Over (Limit limit) input)) f.claims keys (lacking (width input) keys)
  pub reasons : f.reasons ≡ reasons_by_keys node limit (lacking (width input) keys)
  pub marks : f.marks ≡ marks_by_keys node limit (lacking (width input) keys)

-- the entry, the reasons and the marks of a plan's top node, which has this number and these given facts, by what it keeps
abbrev pub IsSaid : FactList → PlanTree → ℕ → Finding → Type 0
IsSaid facts (Over (Window w) input) node f = IsOfWindow facts w input node f
IsSaid facts (Over (Limit limit) input) node f = IsOfLimit facts limit input node f
IsSaid facts plan node f = IsBare (width plan) f

-- what is found at a plan's top node, whose children keep these
pub record IsFinding (tables : List TableRule) (plan : PlanTree) (kept more : List Fact) (node : ℕ) (f : Finding) : Type 0 where
  pub keeps : Keeps (given tables plan kept more) (width plan) (sources plan (given tables plan kept more).list kept more) f.claims
  pub said : IsSaid (given tables plan kept more) plan node f

-- ---- what is found at the nodes of a plan

-- the facts that a plan's top node keeps
abbrev pub facts_kept : PlanTree → Finding → List Fact
facts_kept plan f = map (kept_fact (width plan)) f.claims

-- what is found at a plan's nodes in postorder: at those below its top node, and there
pub record PlanFindings : Type 0 where
  pub below : List Finding
  pub top : Finding

abbrev pub in_postorder : PlanFindings → List Finding
in_postorder found = found.below ++ found.top ∷ []

-- these are found below a plan's top node, and then what is found there, over what its children keep
pub record IsFoundOver (tables : List TableRule) (plan : PlanTree) (first : ℕ) (below : List Finding) (kept more : List Fact) (found : PlanFindings) : Type 0 where
  pub before : found.below ≡ below
  pub finding : IsFinding tables plan kept more (first + length below) found.top

-- what is found at a plan's nodes, where the first has this number: at those of its inputs, the left one first, then at its top node
abbrev pub AreFindings : List TableRule → PlanTree → ℕ → PlanFindings → Type 0
AreFindings tables (Scan table columns) first found = (found.below ≡ []) × IsFinding tables (Scan table columns) [] [] first found.top
AreFindings tables (Join condition left right) first found =
    (on_left on_right : PlanFindings)
    × AreFindings tables left first on_left
    × AreFindings tables right (first + length (in_postorder on_left)) on_right
    × IsFoundOver tables (Join condition left right) first (in_postorder on_left ++ in_postorder on_right) (facts_kept left on_left.top) (facts_kept right on_right.top) found
AreFindings tables (Over step input) first found =
    (inner : PlanFindings) × AreFindings tables input first inner × IsFoundOver tables (Over step input) first (in_postorder inner) (facts_kept input inner.top) [] found

abbrev pub entries_in : List Finding → List NodeRecord
entries_in fs = map (λ (f : Finding). f.entry) fs

abbrev pub reasons_in : List Finding → List Reason
reasons_in fs = flat_map (λ (f : Finding). f.reasons) fs

abbrev pub marks_in : List Finding → List Mark
marks_in fs = flat_map (λ (f : Finding). f.marks) fs
