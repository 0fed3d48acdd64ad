-- What contracts see of the machine's files.
use Rattle.std.specs.Prelude.{ℕ}
use Rattle.wd_command.specs.declared.files.MachineFiles.{MachineFiles}

-- how many reads have failed
abbrev pub failures_of : {R : Type 0} → MachineFiles R → ℕ
failures_of files = files.failures
