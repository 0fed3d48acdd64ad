-- What contracts see of files in memory.
use Rattle.std.specs.Prelude.{ℕ, ◌&&◌, nat_le, bytes_eq, List, [], length, map, position, slice_index_or, Option}
use Rattle.std.specs.Borrow.{Bor}
use Rattle.wd_command.specs.Files.{File}
use Rattle.wd_run.specs.Runs.{data_of}
use Rattle.wd_command.specs.declared.files.TheConstants.{MOST_BYTES}
use Rattle.wd_command.specs.declared.memory.MemoryFiles.{MemoryFiles}

-- the file with a number
abbrev pub file_at : List File → ℕ → File
file_at files i = slice_index_or files i ([], [])

-- how many reads have failed
abbrev pub failures_of : MemoryFiles → ℕ
failures_of files = files.failures

-- the files that were supplied, in their order
abbrev pub handed_of : MemoryFiles → List File
handed_of files = map (file_at (data_of files.files.now)) files.handed.items

-- the files that are kept
abbrev pub files_of : MemoryFiles → List File
files_of files = data_of files.files.now

-- how many reads are left until they fail
abbrev pub reads_left : MemoryFiles → Option ℕ
reads_left files = files.until_failure

-- the number of the first file at the path that is not longer than `MOST_BYTES`
abbrev pub first_at : List ℕ → List (Bor (List ℕ) × Bor (List ℕ)) → Option ℕ
first_at path given = position (λ g. bytes_eq g.0.now path && nat_le (length g.1.now) MOST_BYTES) given
