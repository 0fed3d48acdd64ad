-- What reads of files supply, and how many of them failed.
use Rattle.std.specs.Prelude.{◌≡◌, ◌+◌, ℕ, List, [], ◌∷◌, ◌++◌, map, Option, Some, None, Result, Ok, Err, ⊤}
use Rattle.std.specs.IoError.{error_kind, raw_os_error}
use Rattle.std.specs.declared.io.Error.{Error}
use Rattle.std.specs.declared.io.ErrorKind.TheVariants as kind
use Rattle.wd_command.specs.Words.{Task, TaskOf, inputs_of, with_inputs}
use Rattle.wd_command.specs.declared.files.ReadFault.{ReadFault}
use Rattle.wd_command.specs.declared.files.ReadFault.TheVariants.{Failed, OutOfMemory}

-- a file: its path and its bytes
abbrev pub File : Type 0
File = List ℕ × List ℕ

-- a task of files by the paths of its inputs, and by their texts
abbrev pub paths_of : TaskOf File → Task
paths_of task = with_inputs (λ f. f.0) task

abbrev pub texts_of : TaskOf File → Task
texts_of task = with_inputs (λ f. f.1) task

-- if it is known what was supplied so far: exactly these files were supplied after that
abbrev pub HandsOver : Option (List File) → Option (List File) → List File → Type 0
HandsOver None new files = ⊤
HandsOver (Some before) new files = new ≡ Some (before ++ files)

-- the paths begin with those of the files, and then comes this one
abbrev pub StandsNext : List (List ℕ) → List File → List ℕ → Type 0
StandsNext paths files path = (rest : List (List ℕ)) × (paths ≡ map (λ f. f.0) files ++ path ∷ rest)

-- what is known of reads: the files that were supplied, in their order, where that is known, and how many reads failed
pub record Reads : Type 0 where
  pub handed : Option (List File)
  pub failures : ℕ

abbrev pub reads : Option (List File) → ℕ → Reads
reads handed failures = record { handed = handed; failures = failures }

-- these files were supplied, and no read failed
pub record AllRead (before after : Reads) (files : List File) : Type 0 where
  pub handed : HandsOver before.handed after.handed files
  pub none_failed : after.failures ≡ before.failures

-- the files of a task by its paths were read, in the order of the words, and these are their texts
pub record AreTexts (before after : Reads) (paths texts : Task) : Type 0 where
  pub task : TaskOf File
  pub named : paths_of task ≡ paths
  pub read : AllRead before after (inputs_of task)
  pub are : texts_of task ≡ texts

-- and so of tables alone, each with its name
pub record AreTableTexts (before after : Reads) (paths texts : List (List ℕ × List ℕ)) : Type 0 where
  pub tables : List (List ℕ × File)
  pub named : map (λ t. (t.0, t.1.0)) tables ≡ paths
  pub read : AllRead before after (map (λ t. t.1) tables)
  pub are : map (λ t. (t.0, t.1.1)) tables ≡ texts

-- nothing was supplied, and no read failed
abbrev pub ReadsNothing : Reads → Reads → Type 0
ReadsNothing before after = AllRead before after []

-- one read failed, of a path that comes next after the files that were supplied before it
pub record StopsAt (IsNext : List File → List ℕ → Type 0) (before after : Reads) (path : List ℕ) : Type 0 where
  pub files : List File
  pub read : HandsOver before.handed after.handed files
  pub one_failed : after.failures ≡ before.failures + 1
  pub next : IsNext files path

-- how many reads failed, out of one
abbrev pub failed_reads : {T : Type 0} → Result T ReadFault → ℕ
failed_reads (Ok bytes) = 0
failed_reads (Err Failed) = 1
failed_reads (Err OutOfMemory) = 0

-- memory runs out in the program itself; where the operating system reports it, it is a failure of the file
abbrev pub IsOwnShortage : Error → Type 0
IsOwnShortage error = (error_kind error ≡ kind.OutOfMemory) × (raw_os_error error ≡ None)
