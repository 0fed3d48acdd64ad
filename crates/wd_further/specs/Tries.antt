-- The tries of a further search: for each size of the tables a number of candidates.
use Rattle.std.specs.Prelude.{ℕ, ◌*◌, ◌/◌, List, length, map, max, min}
use Rattle.wd_value.specs.Bags.{positions}
use Rattle.wd_value.specs.Rows.{Instance}
use Rattle.wd_schema.specs.Tables.{TableRule}
use Rattle.wd_plan.specs.Plans.{PlanTree}
use Rattle.wd_seek.specs.Evaluations.{evaluations}
use Rattle.wd_varied.specs.Sizes.{paired, sizes}
use Rattle.wd_varied.specs.Varied.{varied}
use Rattle.wd_varied.specs.Work.{row_work}

-- the most tries in a turn, and the most work of all their evaluations, in units of about five nanoseconds
abbrev pub most_tries : ℕ
most_tries = 600

abbrev pub most_work : ℕ
most_work = 60000000

-- what the evaluations of one try cost: for each row to which the tables pair at least 250
abbrev pub cost : PlanTree → ℕ → ℕ
cost plan rows = (paired rows plan * evaluations plan) * max 250 (row_work plan)

-- how many tries a size has: its share of the most tries, or fewer where its share of the most work is not enough for them
abbrev pub tries : PlanTree → ℕ → ℕ
tries plan rows = min (most_tries / length (sizes plan)) (most_work / (cost plan rows * length (sizes plan)))

-- the candidates of a size: tables of `rows` rows, filled anew in each try
abbrev pub candidates : List TableRule → PlanTree → ℕ → List Instance
candidates tables plan rows = map (varied tables plan rows) (positions (tries plan rows))
