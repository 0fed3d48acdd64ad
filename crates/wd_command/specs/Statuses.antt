-- How the program ends.
use Rattle.std.specs.Prelude.{◌≡◌, ℕ, List, Option}
use Rattle.std.specs.Io.KnownBytes.{Appends, Keeps}
use Rattle.wd_command.specs.Commands.{IsOutput}
use Rattle.wd_command.specs.Failures.{HasReason, Shows, status_of}
use Rattle.wd_command.specs.Files.{AllRead, File, Reads}
use Rattle.wd_command.specs.Streams.{AppendsPart}
use Rattle.wd_command.specs.declared.failure.Failure.{Failure}
use Rattle.wd_command.specs.declared.failure.Failure.TheVariants.{CannotWrite}

-- the world of the program: what was read, and what was written on standard output and on standard error, each where it is known
pub record World : Type 0 where
  pub reads : Reads
  pub out : Option (List ℕ)
  pub err : Option (List ℕ)

abbrev pub world : Option (List File) → ℕ → Option (List ℕ) → Option (List ℕ) → World
world handed failures out err = record { reads = record { handed = handed; failures = failures }; out = out; err = err }

-- the output of the words, over the files that were supplied, was made, and this part of it was written
pub record Writes (words : List (List ℕ)) (before after : Reads) (IsWritten : List ℕ → Type 0) (status : ℕ) : Type 0 where
  pub files : List File
  pub text : List ℕ
  pub read : AllRead before after files
  pub written : IsWritten text
  pub output : IsOutput words files text status

abbrev pub WritesWhole : List (List ℕ) → Reads → Reads → Option (List ℕ) → Option (List ℕ) → ℕ → Type 0
WritesWhole words before after out out_after status = Writes words before after (Appends out out_after) status

-- the program wrote its whole output, and nothing on standard error
pub record Succeeds (words : List (List ℕ)) (before after : World) (status : ℕ) : Type 0 where
  pub whole : WritesWhole words before.reads after.reads before.out after.out status
  pub silent : Keeps before.err after.err

-- the output could not be made, and nothing of it was written; or it could not be written, and a beginning of it was
abbrev pub IsEnding : List (List ℕ) → Reads → Reads → Option (List ℕ) → Option (List ℕ) → Failure → Type 0
IsEnding words before after out out_after CannotWrite = (status : ℕ) × Writes words before after (AppendsPart out out_after) status
IsEnding words before after out out_after failure = HasReason words before after failure × Keeps out out_after

-- the program ended with the status of a failure, whose line is on standard error
pub record Fails (words : List (List ℕ)) (before after : World) (status : ℕ) : Type 0 where
  pub failure : Failure
  pub ends : status ≡ status_of failure
  pub ending : IsEnding words before.reads after.reads before.out after.out failure
  pub shown : Shows before.err after.err failure
