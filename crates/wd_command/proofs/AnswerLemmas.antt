-- What is answered to the texts of a task is answered to the words that ask for it.
use Rattle.std.proofs.Common.{◌≡◌, ℕ, List, refl, subst, sym}
use Rattle.wd_run.specs.Causes.{HasCause}
use Rattle.wd_run.specs.declared.error.RunError.{RunError}
use Rattle.wd_report.specs.declared.verdict.Output.{Output}
use Rattle.wd_command.specs.CommandLine.{AskFor}
use Rattle.wd_command.specs.Commands.{HasAnswer}
use Rattle.wd_command.specs.Failures.{ComesOfFiles, HasReason, IsFaulty, IsRefusal, IsRefused, IsUnanswered, SaysRun}
use Rattle.wd_command.specs.Files.{AreTexts, Reads}
use Rattle.wd_command.specs.Outputs.{Makes}
use Rattle.wd_command.specs.Words.{Task, Run, inputs_of}
use Rattle.wd_command.specs.declared.failure.Failure.{Failure}
use Rattle.wd_command.specs.declared.failure.Failure.TheVariants.{CommandLine, NotText, Unassigned, Refused, Fault, CannotRead, CannotWrite, OutOfMemory}

module _ (words : List (List ℕ)) (before after : Reads) (paths texts : Task) (asked : AskFor words paths) (read : AreTexts before after paths texts) where
  comes : (Holds : Task → Type 0) → Holds texts → ComesOfFiles words before after Holds
  comes Holds holds = record {
    task = read.task;
    asked = subst (AskFor words) (sym read.named) asked;
    read = read.read;
    holds = subst Holds (sym read.are) holds;
  }

  pub reason_from : (failure : Failure) → IsUnanswered texts failure → HasReason words before after failure
  reason_from (CommandLine error) h = absurd h
  reason_from NotText h = absurd h
  reason_from (Unassigned word) h = absurd h
  reason_from (Refused refusal) h = comes (λ task. IsRefused task refusal) h
  reason_from (Fault fault) h = comes (λ task. IsFaulty task fault) h
  reason_from (CannotRead path) h = absurd h
  reason_from CannotWrite h = absurd h
  reason_from OutOfMemory h = tt

  pub output_from : (output : Output) → HasAnswer texts output.text.items output.status → Makes words before after output
  output_from output h = record {
    files = inputs_of read.task;
    read = read.read;
    is = record {
      task = read.task;
      asked = subst (AskFor words) (sym read.named) asked;
      supplied = refl;
      answered = subst (λ task. HasAnswer task output.text.items output.status) (sym read.are) h;
    };
  }

-- a refusal of `run` over these tables
pub run_unanswered : (schema query : List ℕ) (given tables : List (List ℕ × List ℕ)) (error : RunError) → given ≡ tables → HasCause schema query given error
    → (failure : Failure) → IsRefusal (SaysRun error) failure → IsUnanswered (Run schema query tables) failure
run_unanswered schema query given tables error same cause (CommandLine e) h = absurd h
run_unanswered schema query given tables error same cause NotText h = absurd h
run_unanswered schema query given tables error same cause (Unassigned word) h = absurd h
run_unanswered schema query given tables error same cause (Refused refusal) h = (error, subst (λ ts. HasCause schema query ts error) same cause, h)
run_unanswered schema query given tables error same cause (Fault fault) h = absurd h
run_unanswered schema query given tables error same cause (CannotRead path) h = absurd h
run_unanswered schema query given tables error same cause CannotWrite h = absurd h
run_unanswered schema query given tables error same cause OutOfMemory h = tt
