-- Which rule justifies a call, by what the columns of its class determine, or what is lacking.
use Rattle.std.specs.Prelude.{ℕ, ◌+◌, Bool, true, false, not, ◌&&◌, List, [], ◌∷◌, nat_eq, slice_get, Option, Some, None, is_some, if◌then◌else◌}
use Rattle.wd_plan.specs.declared.window.Call.{Call}
use Rattle.wd_plan.specs.Frames.{is_stable}
use Rattle.wd_plan.specs.Settled.{is_by_peers}
use Rattle.wd_certificate.specs.declared.certificate.Rule.{Rule}
use Rattle.wd_certificate.specs.declared.certificate.Rule.TheVariants.{Peers, Unique, Values, Exchange}
use Rattle.wd_step_facts.specs.declared.facts.Member.{Member}
use Rattle.wd_step_facts.specs.declared.facts.Member.TheVariants as member
use Rattle.wd_step_facts.specs.Steps.{all_columns}
use Rattle.wd_rules.specs.Rules.{is_exchange, taken_column}
use Rattle.wd_analyse.specs.declared.decided.Decided.{Decided}
use Rattle.wd_analyse.specs.declared.decided.Decided.TheVariants.{By, Open}
use Rattle.wd_analyse.specs.declared.decided.Lack.{Lack}
use Rattle.wd_analyse.specs.declared.decided.Lack.TheVariants as lack
use Rattle.wd_analyse.specs.Evidence.{Closing}

-- the least of some columns that is not determined
abbrev pub missing_of : (Member → Bool) → List ℕ → Option ℕ
missing_of has [] = None
missing_of has (c ∷ columns) = if has (member.Column c) then missing_of has columns else Some c

abbrev pub gives_all : (Member → Bool) → ℕ → Bool
gives_all has columns = not (is_some (missing_of has (all_columns columns)))

abbrev pub has_taken : (Member → Bool) → Option ℕ → Bool
has_taken has None = false
has_taken has (Some c) = has (member.Column c)

-- the value that FIRST_VALUE, LAST_VALUE or NTH_VALUE takes over a stable frame is determined
abbrev pub gives_value : (Member → Bool) → Call → Bool
gives_value has call = is_stable call.frame && has_taken has (taken_column call.function)

-- the rule `exchange` goes to the first class of a node that takes it
abbrev pub by_exchange : Option ℕ → ℕ → ℕ → Decided
by_exchange None class number = By (Exchange number)
by_exchange (Some first) class number = if nat_eq first class then By (Exchange number) else Open lack.SecondClass

abbrev pub lack_of_column : Option ℕ → Lack
lack_of_column None = lack.Row
lack_of_column (Some c) = lack.Column c

-- what a call lacks whose class determines neither the row nor every column
abbrev pub lack_of : Call → Lack
lack_of call = if is_stable call.frame then lack_of_column (taken_column call.function) else lack.Row

-- the first rule that justifies a call, whose class determines these members and is shown by the trace with this number, over an input
-- with `columns` columns, where a class may have `exchange` already
abbrev pub decide : (Member → Bool) → ℕ → ℕ → Option ℕ → Call → Decided
decide has number columns exchange call =
    if is_by_peers call.frame call.function then By Peers
    else if has member.Row then By (Unique number)
    else if gives_value has call then By (Values number)
    else if gives_all has columns then by_exchange exchange call.class number
    else Open (lack_of call)

abbrev pub decide_of : Option Closing → ℕ → ℕ → Option ℕ → Call → Decided
decide_of None number columns exchange call = Open lack.Row
decide_of (Some c) number columns exchange call = decide c.has number columns exchange call

abbrev pub takes_exchange : Decided → Bool
takes_exchange (By rule) = is_exchange rule
takes_exchange (Open lacking) = false

abbrev pub next_exchange : Option ℕ → ℕ → Decided → Option ℕ
next_exchange (Some first) class decided = Some first
next_exchange None class decided = if takes_exchange decided then Some class else None

-- the calls of a Window in their order; the classes' traces are numbered from `first` on
abbrev pub decided_calls : List Closing → ℕ → ℕ → Option ℕ → List Call → List Decided
decided_calls classes first columns exchange [] = []
decided_calls classes first columns exchange (call ∷ calls) =
    let decided = decide_of (slice_get classes call.class) (first + call.class) columns exchange call in
    decided ∷ decided_calls classes first columns (next_exchange exchange call.class decided) calls

-- ---- what is decided

abbrev pub is_by : Decided → Bool
is_by (By rule) = true
is_by (Open lacking) = false

abbrev pub all_by : List Decided → Bool
all_by [] = true
all_by (d ∷ ds) = is_by d && all_by ds

abbrev pub with_rule : Decided → List Rule → List Rule
with_rule (By rule) rules = rule ∷ rules
with_rule (Open lacking) rules = rules

-- the rules of the calls that have one
abbrev pub rules_in : List Decided → List Rule
rules_in [] = []
rules_in (d ∷ ds) = with_rule d (rules_in ds)
