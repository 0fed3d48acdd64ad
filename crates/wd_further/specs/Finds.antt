-- What a further search answers.
use Rattle.std.specs.Prelude.{◌≡◌, ◌⊎◌, ℕ, ◌-◌, ◌/◌, List, [], ◌∷◌, filter, flat_map, length, Option, Some, None, IsSome}
use Rattle.wd_value.specs.Rows.{Instance}
use Rattle.wd_schema.specs.Tables.{TableRule}
use Rattle.wd_plan.specs.Plans.{PlanTree}
use Rattle.wd_partition.specs.declared.turn.Turn.{Turn}
use Rattle.wd_partition.specs.declared.turn.Turn.TheVariants.{Reversed, Rotated, Exchanged}
use Rattle.wd_query.specs.Causes.{HasTextCause, text_number}
use Rattle.wd_query.specs.Readings.{ForReading}
use Rattle.wd_query.specs.declared.error.TextError.{TextError}
use Rattle.wd_further.specs.declared.judge.Found.{Found}
use Rattle.wd_refute.specs.Refutation.{IsRefuted}
use Rattle.wd_witness_text.specs.Json.{Spells}
use Rattle.wd_witness_text.specs.Witnesses.{witness_of}
use Rattle.wd_witness_text.specs.declared.witness.Witness.{Witness}
use Rattle.wd_seek.specs.Evaluations.{most_evaluations}
use Rattle.wd_seek.specs.Sought.{IsSought, is_meeting}
use Rattle.wd_varied.specs.Sizes.{sizes}
use Rattle.wd_further.specs.Tries.{candidates}

-- a witness and its text, which spells a true witness of the plan that reads the texts of the schema and the query
pub record IsFound (schema query : List ℕ) (found : Found) : Type 0 where
  pub spelled : Spells (witness_of found.witness) found.text.items
  pub refuted : IsRefuted schema query found.text.items

-- ---- the search

-- the candidates of a size that meet the schema
abbrev pub to_try : List TableRule → PlanTree → ℕ → List Instance
to_try tables plan rows = filter (is_meeting tables) (candidates tables plan rows)

-- a search among them: the number of rows in each table, the turn, by which one ordering takes rows that tie, and the most evaluations
pub record Search : Type 0 where
  pub rows : ℕ
  pub turn : Turn
  pub most : ℕ

-- the searches of one size, of `count` sizes: the size's share of 1,000 evaluations with rows that tie in reverse order, of 500 with
-- the first of them last, and of 500 with neighbours exchanged
abbrev pub of_size : ℕ → ℕ → List Search
of_size count rows =
    record { rows = rows; turn = Reversed; most = 1000 / count }
    ∷ record { rows = rows; turn = Rotated; most = 500 / count }
    ∷ record { rows = rows; turn = Exchanged; most = 500 / count }
    ∷ []

-- the searches of all sizes, the smallest first
abbrev pub searches : PlanTree → List Search
searches plan = flat_map (of_size (length (sizes plan))) (sizes plan)

-- a search gives a witness over the first candidate that shows two answers, or none where none does
abbrev pub EndsWith : Option Witness → List TableRule → PlanTree → Search → Type 0
EndsWith found tables plan s = (end : ℕ) × IsSought s.turn tables plan (to_try tables plan s.rows) (most_evaluations - s.most) found end

-- the witness is that of the first search that gives one
abbrev pub IsSoughtBy : Option Witness → List TableRule → PlanTree → List Search → Type 0
IsSoughtBy found tables plan [] = found ≡ None
IsSoughtBy None tables plan (s ∷ ss) = EndsWith None tables plan s × IsSoughtBy None tables plan ss
IsSoughtBy (Some w) tables plan (s ∷ ss) = EndsWith (Some w) tables plan s ⊎ (EndsWith None tables plan s × IsSoughtBy (Some w) tables plan ss)

abbrev pub IsSoughtIn : Option Witness → List TableRule → PlanTree → Type 0
IsSoughtIn found tables plan = IsSoughtBy found tables plan (searches plan)

-- a text is refused with a number
pub record AreRefused (schema query : List ℕ) : Type 0 where
  pub error : TextError
  pub cause : HasTextCause schema query error
  pub numbered : IsSome (text_number error)

-- the witness that the searches give for the plan that reads the texts; none also where a text is refused
abbrev pub IsSoughtFurther : List ℕ → List ℕ → Option Found → Type 0
IsSoughtFurther schema query None = AreRefused schema query ⊎ ForReading schema query (IsSoughtIn None)
IsSoughtFurther schema query (Some found) = ForReading schema query (IsSoughtIn (Some found.witness))
