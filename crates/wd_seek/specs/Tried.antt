-- The result for one instance.
use Rattle.std.specs.Prelude.{ℕ, List, [], ◌∷◌, Option, Some, None}
use Rattle.wd_value.specs.Rows.{Instance}
use Rattle.wd_schema.specs.Tables.{TableRule}
use Rattle.wd_plan.specs.Plans.{PlanTree}
use Rattle.wd_partition.specs.declared.turn.Turn.{Turn}
use Rattle.wd_witness_text.specs.Witnesses.{WitnessRecord, witness_of}
use Rattle.wd_witness_text.specs.declared.witness.Witness.{Witness}
use Rattle.wd_candidates.specs.declared.outline.Outline.{Outline}
use Rattle.wd_seek.specs.Search.{FindsNothing, FindsTwo}
use Rattle.wd_seek.specs.Witnesses.{HasScannedRows, NamesDiffer}

-- two choices over the instance, with the rows of its scanned tables
pub record IsFoundOver (turn : Turn) (tables : List TableRule) (plan : PlanTree) (outline : Outline) (instance : Instance) (start end : ℕ) (w : WitnessRecord) : Type 0 where
  pub differ : NamesDiffer tables
  pub two : FindsTwo turn plan (instance ∷ []) start end instance w.first w.second
  pub rows : HasScannedRows tables outline instance w.tables

-- nothing, or two such choices
abbrev pub IsTried : Turn → List TableRule → PlanTree → Outline → Instance → ℕ → Option Witness → ℕ → Type 0
IsTried turn tables plan outline instance start None end = FindsNothing turn plan (instance ∷ []) start end
IsTried turn tables plan outline instance start (Some w) end = IsFoundOver turn tables plan outline instance start end (witness_of w)
