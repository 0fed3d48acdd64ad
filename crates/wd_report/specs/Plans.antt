-- What is printed of a plan: its nodes in postorder, and the rules of its calls and limits.
use Rattle.std.specs.Prelude.{◌≡◌, ℕ, Bool, ◌+◌, ◌&&◌, List, [], ◌∷◌, ◌++◌, codes, nat_eq, slice_get, Option, Some, None, is_some, option_map, if◌then◌else◌}
use Rattle.std.specs.Fmt.{decimal}
use Rattle.std.specs.List.{find}
use Rattle.std.specs.Option.{option_eq}
use Rattle.wd_schema.specs.Schemas.{schema_of}
use Rattle.wd_schema.specs.Tables.{TableRule}
use Rattle.wd_plan.specs.Fits.{width}
use Rattle.wd_plan.specs.Functions as functions
use Rattle.wd_plan.specs.Plans.{LimitRule, PlanTree, Scan, Join, Over, Filter, Map, Group, Window, Distinct, Limit, node_count, plan_of}
use Rattle.wd_plan.specs.declared.window.Call.{Call}
use Rattle.wd_certificate.specs.Certificates.{nodes_of}
use Rattle.wd_rules.specs.Validity.{entry_at, top_number}
use Rattle.wd_analyse.specs.Findings as rules
use Rattle.wd_analyse.specs.declared.analysis.Analysis.{Analysis}
use Rattle.wd_analyse.specs.declared.analysis.Analysis.TheVariants.{Certified, Open}
use Rattle.wd_analyse.specs.declared.analysis.Mark.{Mark}
use Rattle.wd_analyse.specs.declared.analysis.RuleName.{RuleName}
use Rattle.wd_analyse.specs.declared.analysis.RuleName.TheVariants.{Whole, Ties, Keys}
use Rattle.wd_decide.specs.Verdicts.{IsVerdictOf}
use Rattle.wd_decide.specs.declared.verdict.Examined.{Examined}
use Rattle.wd_decide.specs.declared.verdict.Verdict.{Verdict}
use Rattle.wd_report.specs.Verdicts.{verdict_status}
use Rattle.wd_report.specs.Words.{line, rule_word, verdict_word}

-- ---- rules

-- the mark is that of a node's call, or of its limit
abbrev pub is_mark_of : ℕ → Option ℕ → Mark → Bool
is_mark_of node call mark = nat_eq mark.node node && option_eq nat_eq mark.call call

-- the rule of the first mark of a call or a limit
abbrev pub rule_marked : ℕ → Option ℕ → List Mark → Option RuleName
rule_marked node call marks = option_map (λ (mark : Mark). mark.rule) (find (is_mark_of node call) marks)

-- the rule of a call: that of the certificate, or that of its mark
abbrev pub call_rule : Analysis → ℕ → ℕ → Option RuleName
call_rule (Certified certificate) node call = option_map rules.name_of (slice_get (entry_at (nodes_of certificate) node).calls call)
call_rule (Open reasons marks) node call = rule_marked node (Some call) marks.items

-- a limit with a trace has the rule `keys`; without one it takes all rows, or all that tie
abbrev pub limit_name : LimitRule → Option ℕ → RuleName
limit_name limit (Some trace) = Keys
limit_name limit None = if is_some limit.count then Ties else Whole

-- the rule of a limit
abbrev pub limit_rule : Analysis → ℕ → LimitRule → Option RuleName
limit_rule (Certified certificate) node limit = Some (limit_name limit (entry_at (nodes_of certificate) node).limit)
limit_rule (Open reasons marks) node limit = rule_marked node None marks.items

-- ---- lines

-- two blanks, the call's number, its function, its class, its rule
abbrev pub call_line : Analysis → ℕ → ℕ → Call → List ℕ
call_line analysis node number call =
    line (codes "  call " ++ decimal number ++ codes " " ++ functions.word (functions.name_of call.function) ++ codes " class " ++ decimal call.class ++ codes " " ++ rule_word (call_rule analysis node number))

-- the lines of the calls from a number on
abbrev pub call_lines : Analysis → ℕ → ℕ → List Call → List ℕ
call_lines analysis node number [] = []
call_lines analysis node number (call ∷ calls) = call_line analysis node number call ++ call_lines analysis node (number + 1) calls

-- a node's number, its kind, and the number of its output columns
abbrev pub node_words : ℕ → List ℕ → ℕ → List ℕ
node_words node kind columns = decimal node ++ codes " " ++ kind ++ codes " " ++ decimal columns

abbrev pub table_name : Option TableRule → List ℕ
table_name None = []
table_name (Some table) = table.name

-- the lines of a plan's top node, which has this number: a Scan's with its table, a Window's with a line for each call, a Limit's with
-- its rule
abbrev pub top_lines : List TableRule → Analysis → ℕ → PlanTree → List ℕ
top_lines tables analysis node (Scan table columns) = line (node_words node (codes "Scan " ++ table_name (slice_get tables table)) columns)
top_lines tables analysis node (Join condition left right) = line (node_words node (codes "Join") (width (Join condition left right)))
top_lines tables analysis node (Over (Filter condition) input) = line (node_words node (codes "Filter") (width (Over (Filter condition) input)))
top_lines tables analysis node (Over (Map outputs) input) = line (node_words node (codes "Map") (width (Over (Map outputs) input)))
top_lines tables analysis node (Over (Group rule) input) = line (node_words node (codes "Group") (width (Over (Group rule) input)))
top_lines tables analysis node (Over (Window w) input) = line (node_words node (codes "Window") (width (Over (Window w) input))) ++ call_lines analysis node 0 w.calls
top_lines tables analysis node (Over Distinct input) = line (node_words node (codes "Distinct") (width (Over Distinct input)))
top_lines tables analysis node (Over (Limit limit) input) = line (node_words node (codes "Limit") (width (Over (Limit limit) input)) ++ codes " " ++ rule_word (limit_rule analysis node limit))

-- the lines of a plan's nodes in postorder, numbered from here on
abbrev pub plan_lines : List TableRule → Analysis → ℕ → PlanTree → List ℕ
plan_lines tables analysis first (Scan table columns) = top_lines tables analysis first (Scan table columns)
plan_lines tables analysis first (Join condition left right) =
    plan_lines tables analysis first left ++ plan_lines tables analysis (first + node_count left) right ++ top_lines tables analysis (top_number (Join condition left right) first) (Join condition left right)
plan_lines tables analysis first (Over step input) = plan_lines tables analysis first input ++ top_lines tables analysis (top_number (Over step input) first) (Over step input)

-- a plan with its rules, and the verdict's word
abbrev pub explanation : List TableRule → PlanTree → Analysis → Verdict → List ℕ
explanation tables plan analysis verdict = plan_lines tables analysis 0 plan ++ line (verdict_word verdict)

-- what is printed of a plan and the findings on it, with the status of the verdict
pub record Explains (examined : Examined) (text : List ℕ) (status : ℕ) : Type 0 where
  pub verdict : Verdict
  pub given : IsVerdictOf (schema_of examined.planned.schema) (plan_of examined.planned.resolved.plan) examined.analysis verdict
  pub is : text ≡ explanation (schema_of examined.planned.schema) (plan_of examined.planned.resolved.plan) examined.analysis verdict
  pub ends : status ≡ verdict_status verdict
