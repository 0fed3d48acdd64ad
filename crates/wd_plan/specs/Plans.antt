-- Plans as pure data, and how contracts see those of the code.
use Rattle.std.specs.Prelude.{ℕ, ◌+◌, ◌<◌, ◌≤◌, Bool, ◌||◌, List, [], ◌∷◌, map, length, take, drop, nat_eq, Option, option_map, ⊤}
use Rattle.std.specs.List.{AllByRecursion, list_any}
use Rattle.std.specs.declared.alloc.Global.{Global}
use Rattle.std.specs.declared.vec.Vec.{Vec}
use Rattle.wd_value.specs.declared.order.SortColumn.{SortColumn}
use Rattle.wd_plan.specs.declared.plan.Plan.{Plan}
use Rattle.wd_plan.specs.declared.plan.Plan.TheVariants as code
use Rattle.wd_plan.specs.declared.plan.Limit.{Limit as CodeLimit}
use Rattle.wd_plan.specs.declared.function.Aggregate.{Aggregate}
use Rattle.wd_plan.specs.declared.group.Group.{Group as CodeGroup}
use Rattle.wd_plan.specs.declared.group.GroupCall.{GroupCall as CodeGroupCall}
use Rattle.wd_plan.specs.declared.group.GroupCall.TheVariants as shown
use Rattle.wd_plan.specs.declared.window.Window.{Window as CodeWindow}
use Rattle.wd_plan.specs.declared.window.Call.{Call}
use Rattle.wd_plan.specs.declared.window.Class.{Class}
use Rattle.wd_plan.specs.Expressions.{Expression, expression_of}

-- a class: the columns of its partition, and its sort keys
pub record ClassRule : Type 0 where
  pub partition : List ℕ
  pub order : List SortColumn

abbrev pub class_of : Class → ClassRule
class_of class = record { partition = class.partition.items; order = class.order.items }

-- what a Window computes: calls, each of a class by its number
pub record WindowRule : Type 0 where
  pub classes : List ClassRule
  pub calls : List Call

abbrev pub window_of : CodeWindow → WindowRule
window_of window = record { classes = map class_of window.classes.items; calls = window.calls.items }

-- what a Group shows of a group besides its grouping columns: an aggregate of its rows, or which of these grouping columns are not in its
-- set
pub data GroupCall : Type 0 where
  OfRows : Aggregate → GroupCall
  Grouping : List ℕ → GroupCall

abbrev pub group_call_of : CodeGroupCall → GroupCall
group_call_of (shown.OfRows aggregate) = OfRows aggregate
group_call_of (shown.Grouping columns) = Grouping columns.items

-- the parts of a Group: the first `columns` columns of its input are the grouping columns, and each set is a list of these
pub record GroupRule : Type 0 where
  pub columns : ℕ
  pub sets : List (List ℕ)
  pub calls : List GroupCall

-- the sets that a list of the code shows
abbrev pub sets_of : List (Vec ℕ Global) → List (List ℕ)
sets_of sets = map (λ set. set.items) sets

abbrev pub grouping_of : CodeGroup → GroupRule
grouping_of group = record { columns = group.columns; sets = sets_of group.sets.items; calls = map group_call_of group.calls.items }

-- whether a grouping set has a column
abbrev pub has : List ℕ → ℕ → Bool
has set c = list_any (nat_eq c) set

-- the parts of a Limit: its sort keys, how many rows it leaves out, how many it then keeps at most, and whether with ties
pub record LimitRule : Type 0 where
  pub keys : List SortColumn
  pub offset : ℕ
  pub count : Option ℕ
  pub ties : Bool

abbrev pub limit_of : CodeLimit → LimitRule
limit_of limit = record { keys = limit.keys.items; offset = limit.offset; count = limit.count; ties = limit.ties }

-- what a node with one input makes of the rows of its input
pub data Step : Type 0 where
  Filter : Expression → Step
  Map : List Expression → Step
  Group : GroupRule → Step
  Window : WindowRule → Step
  Distinct : Step
  Limit : LimitRule → Step

pub data PlanTree : Type 0 where
  -- a table of the schema by its number, with its number of columns
  Scan : (table columns : ℕ) → PlanTree
  Join : Option Expression → PlanTree → PlanTree → PlanTree
  Over : Step → PlanTree → PlanTree

-- the plan that a value of the code shows
abbrev pub plan_of : Plan → PlanTree
plan_of (code.Scan table columns) = Scan table columns
plan_of (code.Join' p left q right condition) = Join (option_map expression_of condition) (plan_of left) (plan_of right)
plan_of (code.Filter' p input condition) = Over (Filter (expression_of condition)) (plan_of input)
plan_of (code.Map' p input outputs) = Over (Map (map expression_of outputs.items)) (plan_of input)
plan_of (code.Group' p input group) = Over (Group (grouping_of group)) (plan_of input)
plan_of (code.Window' p input window) = Over (Window (window_of window)) (plan_of input)
plan_of (code.Distinct' p input) = Over Distinct (plan_of input)
plan_of (code.Limit' p input limit) = Over (Limit (limit_of limit)) (plan_of input)

-- the class of a limit: all rows are one partition
abbrev pub limit_class : LimitRule → ClassRule
limit_class limit = record { partition = []; order = limit.keys }

-- the classes by which a step orders the rows of its input
abbrev pub step_classes : Step → List ClassRule
step_classes (Window rule) = rule.classes
step_classes (Limit rule) = limit_class rule ∷ []
step_classes step = []

-- how many orderings a choice for a plan has: one for each class of each step
abbrev pub ordering_count : PlanTree → ℕ
ordering_count (Scan table columns) = 0
ordering_count (Join condition left right) = ordering_count left + ordering_count right
ordering_count (Over step input) = ordering_count input + length (step_classes step)

-- the orderings of the step over a plan: they stand after those of the nodes below it
abbrev pub own_orderings : Step → PlanTree → List (List ℕ) → List (List ℕ)
own_orderings step input choice = take (length (step_classes step)) (drop (ordering_count input) choice)

-- how many nodes a plan has
abbrev pub node_count : PlanTree → ℕ
node_count (Scan table columns) = 1
node_count (Join condition left right) = node_count left + node_count right + 1
node_count (Over step input) = node_count input + 1

-- whether a plan scans the table with a number
abbrev pub is_scanned : PlanTree → ℕ → Bool
is_scanned (Scan of columns) table = nat_eq of table
is_scanned (Join condition left right) table = is_scanned left table || is_scanned right table
is_scanned (Over step input) table = is_scanned input table

-- GROUPING has at most 31 grouping columns
abbrev pub HasMask : GroupCall → Type 0
HasMask (OfRows aggregate) = ⊤
HasMask (Grouping columns) = length columns ≤ 31

-- each GROUPING of a Group has at most 31 columns
abbrev pub HaveMasks : GroupRule → Type 0
HaveMasks g = AllByRecursion (λ (call : GroupCall). HasMask call) g.calls

-- each call names one of the given number of classes
abbrev pub NameBelow : ℕ → List Call → Type 0
NameBelow classes calls = AllByRecursion (λ (call : Call). call.class < classes) calls

-- each call of a Window names one of its classes
abbrev pub NamesClasses : WindowRule → Type 0
NamesClasses w = NameBelow (length w.classes) w.calls

-- each call of a step names one of its classes, and each GROUPING has its mask
abbrev pub StepNamesClasses : Step → Type 0
StepNamesClasses (Window rule) = NamesClasses rule
StepNamesClasses (Group rule) = HaveMasks rule
StepNamesClasses step = ⊤

-- in each Window of a plan each call names one of its classes, and each Group has its masks
abbrev pub EachNamesClasses : PlanTree → Type 0
EachNamesClasses (Scan table columns) = ⊤
EachNamesClasses (Join condition left right) = EachNamesClasses left × EachNamesClasses right
EachNamesClasses (Over step input) = EachNamesClasses input × StepNamesClasses step
