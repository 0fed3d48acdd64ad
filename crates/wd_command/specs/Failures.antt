-- Why the program ends without its output: the exit status, the line on standard error, and what holds after a failure.
use Rattle.std.specs.Prelude.{◌≡◌, ◌≢◌, ℕ, ⊤, true, false, List, [], ◌++◌, codes, Option, Some, None, IfSome}
use Rattle.std.specs.Fmt.{decimal}
use Rattle.clap.specs.Values.{kind_of}
use Rattle.clap.specs.declared.error.Error.{Error}
use Rattle.clap.specs.declared.error.kind.ErrorKind.TheVariants as kind
use Rattle.wd_value.specs.declared.value.Fault.{Fault as QueryFault}
use Rattle.wd_value.specs.declared.value.Fault.TheVariants.{DivisionByZero, OutOfRange}
use Rattle.wd_query.specs.declared.error.TextError.{TextError}
use Rattle.wd_query.specs.declared.error.TextError.TheVariants as text
use Rattle.wd_run.specs.Causes as runs
use Rattle.wd_run.specs.declared.error.RunError.{RunError}
use Rattle.wd_run.specs.declared.error.RunError.TheVariants as run
use Rattle.wd_accept.specs.Acceptance as acceptance
use Rattle.wd_accept.specs.Lists as lists
use Rattle.wd_accept.specs.declared.error.VerifyError.{VerifyError}
use Rattle.wd_accept.specs.declared.error.VerifyError.TheVariants as verify
use Rattle.wd_refute.specs.Refutation as refutation
use Rattle.wd_refute.specs.declared.error.Refusal.TheVariants as witness_refusal
use Rattle.wd_refute.specs.declared.error.WitnessError.{WitnessError}
use Rattle.wd_refute.specs.declared.error.WitnessError.TheVariants as refute
use Rattle.wd_decide.specs.Verdicts as verdicts
use Rattle.wd_decide.specs.declared.error.DecideError.{DecideError}
use Rattle.wd_decide.specs.declared.error.DecideError.TheVariants as decide
use Rattle.wd_report.specs.Words.{line}
use Rattle.wd_command.specs.CommandLine.{AreOtherWords, AreReadAs, AskFor}
use Rattle.wd_command.specs.Commands.{HasFault}
use Rattle.wd_command.specs.Files.{AllRead, File, Reads, ReadsNothing, StandsNext, StopsAt, paths_of, texts_of}
use Rattle.wd_command.specs.Streams.{AppendsPart}
use Rattle.wd_command.specs.Words.{HasUncut, Task, TaskOf, Usage, Check, Explain, Verify, Refute, Run, inputs_of}
use Rattle.wd_command.specs.declared.failure.Failure.{Failure}
use Rattle.wd_command.specs.declared.failure.Failure.TheVariants.{CommandLine, NotText, Unassigned, Refused, Fault, CannotRead, CannotWrite, OutOfMemory}
use Rattle.wd_command.specs.declared.failure.Input.{Input}
use Rattle.wd_command.specs.declared.failure.Input.TheVariants as input
use Rattle.wd_command.specs.declared.failure.Refusal.{Refusal}

-- the exit status for a failure
abbrev pub status_of : Failure → ℕ
status_of (CommandLine error) = 3
status_of NotText = 3
status_of (Unassigned word) = 3
status_of (Refused refusal) = 3
status_of (Fault fault) = 4
status_of (CannotRead path) = 5
status_of CannotWrite = 5
status_of OutOfMemory = 5

-- ---- the line on standard error

-- WHERE: the input that a refusal is about
abbrev pub where_of : Input → List ℕ
where_of input.Schema = codes "schema"
where_of input.Query = codes "query"
where_of input.Certificate = codes "certificate"
where_of input.Witness = codes "witness"
where_of (input.Data name) = codes "data " ++ name
where_of input.Run = codes "run"

-- ` at PLACE`, where there is a place
abbrev pub at_place : Option ℕ → List ℕ
at_place None = []
at_place (Some place) = codes " at " ++ decimal place

-- `WHERE: refused N` or `WHERE: refused N at PLACE`
abbrev pub refusal_line : Refusal → List ℕ
refusal_line refusal = where_of refusal.input ++ codes ": refused " ++ decimal refusal.number ++ line (at_place refusal.place)

-- the line of a fault of the query
abbrev pub fault_line : QueryFault → List ℕ
fault_line DivisionByZero = line (codes "fault F1: division by zero")
fault_line OutOfRange = line (codes "fault F2: out of range")

-- the line on standard error; a fault of the command line has the text of `clap` instead
abbrev pub line_of : Failure → Option (List ℕ)
line_of (CommandLine error) = None
line_of NotText = Some (line (codes "error: invalid UTF-8 was detected in one or more arguments"))
line_of (Unassigned word) = Some (codes "data " ++ word.now ++ line (codes ": refused 707"))
line_of (Refused refusal) = Some (refusal_line refusal)
line_of (Fault fault) = Some (fault_line fault)
line_of (CannotRead path) = Some (line (codes "cannot read " ++ path.now))
line_of CannotWrite = Some (line (codes "cannot write"))
line_of OutOfMemory = Some (line (codes "out of memory"))

-- standard error has grown by the failure's line or, where a write to it failed, by a beginning of that line
abbrev pub Shows : Option (List ℕ) → Option (List ℕ) → Failure → Type 0
Shows err err_after failure = IfSome (line_of failure) (AppendsPart err err_after)

-- ---- what a failure is by

-- a cause for each kind of failure; memory may run out at any time
pub record Causes : Type 1 where
  pub words : Error → Type 0
  pub not_text : Type 0
  pub unassigned : List ℕ → Type 0
  pub refused : Refusal → Type 0
  pub fault : QueryFault → Type 0
  pub unread : List ℕ → Type 0
  pub unwritten : Type 0

abbrev pub no_cause : Causes
no_cause = record {
  words = λ error. ⊥;
  not_text = ⊥;
  unassigned = λ word. ⊥;
  refused = λ refusal. ⊥;
  fault = λ fault. ⊥;
  unread = λ path. ⊥;
  unwritten = ⊥;
}

-- the failure's cause holds
abbrev pub IsBy : Causes → Failure → Type 0
IsBy causes (CommandLine error) = causes.words error
IsBy causes NotText = causes.not_text
IsBy causes (Unassigned word) = causes.unassigned word.now
IsBy causes (Refused refusal) = causes.refused refusal
IsBy causes (Fault fault) = causes.fault fault
IsBy causes (CannotRead path) = causes.unread path.now
IsBy causes CannotWrite = causes.unwritten
IsBy causes OutOfMemory = ⊤

-- ---- refusals

-- what a refusal says: the input that it is about, its number and its place
abbrev pub Says : Input → Option ℕ → Option ℕ → Refusal → Type 0
Says input number place refusal = (refusal.input ≡ input) × (Some refusal.number ≡ number) × (refusal.place ≡ place)

-- the input that a refusal of a schema and a query is about
abbrev pub text_input : TextError → Input
text_input (text.Schema error) = input.Schema
text_input (text.Query error) = input.Query

-- the input that a run's refusal is about
abbrev pub run_input : RunError → Input
run_input (run.Texts error) = text_input error
run_input (run.Given name) = input.Data name
run_input (run.Data name error) = input.Data name
run_input (run.Evaluation error) = input.Run
run_input run.OutOfMemory = input.Run

-- the input that a refusal of a certificate is about
abbrev pub verify_input : VerifyError → Input
verify_input (verify.Texts error) = text_input error
verify_input (verify.Certificate error) = input.Certificate
verify_input verify.Unlisted = input.Certificate

-- the input that a refusal of a witness is about; 802 is about the run
abbrev pub witness_input : WitnessError → Input
witness_input (refute.Texts error) = text_input error
witness_input (refute.Witness witness_refusal.TooManyRows) = input.Run
witness_input (refute.Witness refusal) = input.Witness

-- the input that a refusal of `check` and `explain` is about
abbrev pub decide_input : DecideError → Input
decide_input (decide.Texts error) = text_input error
decide_input decide.OutOfMemory = input.Run

-- what the refusal of a schema and a query, of a run, of a certificate and of a witness says
abbrev pub SaysDecide : DecideError → Refusal → Type 0
SaysDecide error = Says (decide_input error) (verdicts.decide_number error) (verdicts.decide_place error)

abbrev pub SaysRun : RunError → Refusal → Type 0
SaysRun error = Says (run_input error) (runs.run_number error) (runs.run_place error)

abbrev pub SaysVerify : VerifyError → Refusal → Type 0
SaysVerify error = Says (verify_input error) (acceptance.verify_number error) (acceptance.verify_place error)

abbrev pub SaysWitness : WitnessError → Refusal → Type 0
SaysWitness error = Says (witness_input error) (refutation.number_of error) (refutation.place_of error)

-- the failure is a refusal that says so; memory runs out where there is no number
abbrev pub IsRefusal : (Refusal → Type 0) → Failure → Type 0
IsRefusal says failure = IsBy (record no_cause { refused = says }) failure

-- ---- what holds after a failure

-- `clap` refuses the words
abbrev pub IsFaultOfWords : Error → Failure → Type 0
IsFaultOfWords fault failure = IsBy (record no_cause { words = λ error. kind_of fault ≢ kind.OutOfMemory }) failure

-- a word is no text
abbrev pub IsOfArguments : Failure → Type 0
IsOfArguments failure = IsBy (record no_cause { not_text = ⊤ }) failure

-- a word has no `=`
abbrev pub IsUncut : (List ℕ → Type 0) → Failure → Type 0
IsUncut IsWord failure = IsBy (record no_cause { unassigned = IsWord }) failure

-- one read failed, of a path that comes next after the files that were supplied
abbrev pub IsUnread : (List File → List ℕ → Type 0) → Reads → Reads → Failure → Type 0
IsUnread IsNext before after failure = IsBy (record no_cause { unread = StopsAt IsNext before after }) failure

-- what a refusal says is said of an error for which there is a cause
abbrev pub IsFor : {E : Type 0} → (E → Type 0) → (E → Refusal → Type 0) → Refusal → Type 0
IsFor {E = E} HasCause SaysError refusal = (error : E) × HasCause error × SaysError error refusal

-- what a task's refusal says, by the texts of its inputs
abbrev pub IsRefused : Task → Refusal → Type 0
IsRefused Usage refusal = ⊥
IsRefused (Check listed schema query) refusal = IsFor (verdicts.HasCause schema query) SaysDecide refusal
IsRefused (Explain schema query) refusal = IsFor (verdicts.HasCause schema query) SaysDecide refusal
IsRefused (Verify false schema query certificate) refusal = IsFor (acceptance.HasCause schema query certificate) SaysVerify refusal
IsRefused (Verify true schema query certificate) refusal = IsFor (lists.HasListCause schema query certificate) SaysVerify refusal
IsRefused (Refute schema query witness) refusal = IsFor (refutation.HasCause schema query witness) SaysWitness refusal
IsRefused (Run schema query tables) refusal = IsFor (runs.HasCause schema query tables) SaysRun refusal

-- a task's query has this fault, by the texts of its inputs
abbrev pub IsFaulty : Task → QueryFault → Type 0
IsFaulty (Run schema query tables) fault = HasFault schema query tables fault
IsFaulty task fault = ⊥

-- a task by the texts of its inputs has no answer
abbrev pub IsUnanswered : Task → Failure → Type 0
IsUnanswered task failure = IsBy (record no_cause { refused = IsRefused task; fault = IsFaulty task }) failure

-- the files that the words ask for were read, and this holds of the task by their texts
pub record ComesOfFiles (words : List (List ℕ)) (before after : Reads) (Holds : Task → Type 0) : Type 0 where
  pub task : TaskOf File
  pub asked : AskFor words (paths_of task)
  pub read : AllRead before after (inputs_of task)
  pub holds : Holds (texts_of task)

-- the words ask for the paths of these files, in their order, and then for this one
abbrev pub AskNext : List (List ℕ) → List File → List ℕ → Type 0
AskNext words files path = (task : Task) × AskFor words task × StandsNext (inputs_of task) files path

-- the words are those of `run`, and this one has the place of NAME=PATH and no `=`
abbrev pub IsUncutWord : List (List ℕ) → List ℕ → Type 0
IsUncutWord words word = (line : List (List ℕ)) × AreReadAs words line × HasUncut line word

-- The reason of a failure to make the output. A fault of the command line and a word without an `=` come before any file is read.
-- `CannotRead` means that one read failed, of a path that the words ask for, and that exactly the files that the words ask for before
-- that one were supplied. A refusal or a fault is about the files' contents.
abbrev pub HasReason : List (List ℕ) → Reads → Reads → Failure → Type 0
HasReason words before after failure = IsBy (record no_cause {
  words = λ error. AreOtherWords words × ReadsNothing before after;
  unassigned = λ word. IsUncutWord words word × ReadsNothing before after;
  refused = λ refusal. ComesOfFiles words before after (λ task. IsRefused task refusal);
  fault = λ fault. ComesOfFiles words before after (λ task. IsFaulty task fault);
  unread = StopsAt (AskNext words) before after;
}) failure
