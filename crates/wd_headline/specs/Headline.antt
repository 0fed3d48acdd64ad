-- The headline: if `verify` accepts a certificate for a schema and a query, then for every instance that meets the schema, in any order
-- of its rows, under all lawful orderings, the query has one multiset of answer rows or one named fault, and every answer of `run` is
-- that one. (`verify` and `run` may refuse because memory runs out, and `run` where a step has more than 10,000,000 rows: then the laws
-- say nothing of their answer. The outcomes of the definitions have no such limit.)
use Rattle.std.specs.Prelude.{ℕ, List}
use Rattle.wd_value.specs.Rows.{Instance}
use Rattle.wd_schema.specs.Meets.{Meets}
use Rattle.wd_plan.specs.Choices.{IsValidChoice}
use Rattle.wd_plan.specs.Outcomes.{Agree, RowsOrFault, outcome}
use Rattle.wd_plan.specs.Plans.{PlanTree}
use Rattle.wd_laws.specs.Laws.{SameTables}
use Rattle.wd_resolve.specs.Answers.{Answer}
use Rattle.wd_resolve.specs.Laws.{Reads}
use Rattle.wd_rules.specs.Lists.{AgreeAsLists}
use Rattle.wd_accept.specs.Acceptance.{IsAccepted}
use Rattle.wd_accept.specs.Lists.{IsListAccepted}
use Rattle.wd_refute.specs.Refutation.{IsRefuted}
use Rattle.wd_run.specs.Runs.{IsAnswer}

-- A certificate is accepted for the texts; the plan is the one that reads them. Over an instance that meets the schema (types, NOT
-- NULL and keys) and one with the same tables in another order of their rows, under a valid choice of orderings each, the outcomes
-- agree: the same fault, or rows with each row equally often.
abbrev pub Headline : Type 0
Headline = (schema query certificate : List ℕ) → IsAccepted schema query certificate
    → (read : Answer) (reads : Reads schema query read)
    → (instance other : Instance) (c1 c2 : List (List ℕ)) → Meets reads.tables instance → SameTables instance other
    → IsValidChoice read.plan instance c1 → IsValidChoice read.plan other c2
    → Agree (outcome read.plan instance c1) (outcome read.plan other c2)

-- What `run` answers over data agrees with each outcome of the plan over the data's instance, its rows in any order, under any
-- valid choice.
abbrev pub RunsGiveIt : Type 0
RunsGiveIt = (schema query certificate : List ℕ) (given : List (List ℕ × List ℕ)) (names : List (List ℕ)) (answer : RowsOrFault)
    → IsAccepted schema query certificate → (run : IsAnswer schema query given names answer)
    → (other : Instance) (choice : List (List ℕ)) → SameTables run.instance other → IsValidChoice run.read.plan other choice
    → Agree answer (outcome run.read.plan other choice)

-- The list headline: if `verify_list` accepts a certificate for the texts, then under the premises of the headline the outcomes agree
-- as lists: the same fault, or equal lists of rows.
abbrev pub ListHeadline : Type 0
ListHeadline = (schema query certificate : List ℕ) → IsListAccepted schema query certificate
    → (read : Answer) (reads : Reads schema query read)
    → (instance other : Instance) (c1 c2 : List (List ℕ)) → Meets reads.tables instance → SameTables instance other
    → IsValidChoice read.plan instance c1 → IsValidChoice read.plan other c2
    → AgreeAsLists (outcome read.plan instance c1) (outcome read.plan other c2)

-- What `run` answers over data is the query's one list or fault.
abbrev pub RunsGiveTheList : Type 0
RunsGiveTheList = (schema query certificate : List ℕ) (given : List (List ℕ × List ℕ)) (names : List (List ℕ)) (answer : RowsOrFault)
    → IsListAccepted schema query certificate → (run : IsAnswer schema query given names answer)
    → (other : Instance) (choice : List (List ℕ)) → SameTables run.instance other → IsValidChoice run.read.plan other choice
    → AgreeAsLists answer (outcome run.read.plan other choice)

-- No schema and query have both a certificate that is accepted and a witness that is accepted.
abbrev pub AcceptedIsNotRefuted : Type 0
AcceptedIsNotRefuted = (schema query certificate witness : List ℕ) → IsAccepted schema query certificate → IsRefuted schema query witness → ⊥

-- The headline is not empty: every plan has a valid choice over every instance, and so an answer.
abbrev pub IsNotEmpty : Type 0
IsNotEmpty = (plan : PlanTree) (instance : Instance) → (choice : List (List ℕ)) × IsValidChoice plan instance choice
