-- Laws of data, over the definitions alone.
use Rattle.std.specs.Prelude.{ℕ, List}
use Rattle.wd_value.specs.Rows.{Instance}
use Rattle.wd_schema.specs.Meets.{Meets}
use Rattle.wd_schema.specs.Tables.{TableRule}
use Rattle.wd_run.specs.Runs.{HoldsData}

-- The rows of the data meet the schema: an instance of `run` is one of the schema.
abbrev pub DataMeets : Type 0
DataMeets = (tables : List TableRule) (given : List (List ℕ × List ℕ)) (instance : Instance) → HoldsData tables given instance → Meets tables instance
