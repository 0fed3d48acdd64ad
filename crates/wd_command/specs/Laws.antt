-- What plain words ask for.
use Rattle.std.specs.Prelude.{◌≡◌, ◌∷◌, ◌<◌, ◌^◌, ℕ, ⊤, List, All, length}
use Rattle.wd_command.specs.CommandLine.{AreReadAs, AskFor}
use Rattle.wd_command.specs.Failures.{HasReason, IsBy, no_cause}
use Rattle.wd_command.specs.Files.{Reads}
use Rattle.wd_command.specs.Words.{ArePlain, IsCut, IsPlain, Task, arguments_of, run_words, words_of}
use Rattle.wd_command.specs.declared.failure.Failure.{Failure}

-- words none of which begins with a hyphen, except for the flag after the command's name, are read as they stand
abbrev pub PlainWordsAreLines : Type 0
PlainWordsAreLines = (words line : List (List ℕ)) → ArePlain words → AreReadAs words line → words ≡ line

-- where none of a task's arguments begins with a hyphen, the words of the task ask for it, and so do those of `run` with words that are
-- not NAME=PATH
pub record PlainLinesAreTaken : Type 0 where
  pub tasks : (task : Task) → IsCut task → All IsPlain (arguments_of task) → length (arguments_of task) < 2 ^ 64 → AskFor (words_of task) task
  pub uncut : (schema query : List ℕ) (tables : List (List ℕ)) → All IsPlain (schema ∷ query ∷ tables) → length (schema ∷ query ∷ tables) < 2 ^ 64
      → AreReadAs (run_words schema query tables) (run_words schema query tables)

-- the failure is not about the words
abbrev pub IsPastWords : Failure → Type 0
IsPastWords failure = IsBy (record no_cause { refused = λ refusal. ⊤; fault = λ fault. ⊤; unread = λ path. ⊤ }) failure

-- the words of a task none of whose arguments begins with a hyphen are no reason for a failure
abbrev pub PlainTasksAreJudged : Type 0
PlainTasksAreJudged = (task : Task) (before after : Reads) (failure : Failure) → All IsPlain (arguments_of task) → length (arguments_of task) < 2 ^ 64
    → HasReason (words_of task) before after failure → IsPastWords failure
