-- How contracts see the tasks of the code.
use Rattle.std.specs.Prelude.{ℕ, List, map}
use Rattle.std.specs.Borrow.{Bor}
use Rattle.std.specs.declared.alloc.Global.{Global}
use Rattle.std.specs.declared.vec.Vec.{Vec}
use Rattle.wd_command.specs.Words.{Task, TaskOf, Usage, Check, Explain, Verify, Refute, Run}
use Rattle.wd_command.specs.declared.task.Table.{Table}
use Rattle.wd_command.specs.declared.task.Task.{Task as CodeTask}
use Rattle.wd_command.specs.declared.task.Task.TheVariants as code

-- a table's name, and what stands for its file by f
abbrev pub table_by : {I T : Type 0} → (I → T) → Table I → List ℕ × T
table_by f table = (table.name.now, f table.file)

-- the task of the code, for whose inputs f gives what stands
abbrev pub task_by : {I T : Type 0} → (I → T) → CodeTask I → TaskOf T
task_by f code.Usage = Usage
task_by f (code.Check listed schema query) = Check listed (f schema) (f query)
task_by f (code.Explain schema query) = Explain (f schema) (f query)
task_by f (code.Verify listed schema query certificate) = Verify listed (f schema) (f query) (f certificate)
task_by f (code.Refute schema query witness) = Refute (f schema) (f query) (f witness)
task_by f (code.Run schema query tables) = Run (f schema) (f query) (map (table_by f) tables.items)

-- by its paths
abbrev pub task_of_paths : CodeTask (Bor (List ℕ)) → Task
task_of_paths task = task_by (λ path. path.now) task

-- by its texts
abbrev pub task_of_texts : CodeTask (Vec ℕ Global) → Task
task_of_texts task = task_by (λ text. text.items) task
