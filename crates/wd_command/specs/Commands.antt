-- What the program's output is, for the words of its command line and the files that were supplied to it.
use Rattle.std.specs.Prelude.{◌≡◌, ℕ, true, false, List, ◌++◌, codes, Ok, Err}
use Rattle.wd_value.specs.Rows.{Row}
use Rattle.wd_value.specs.declared.value.Fault.{Fault}
use Rattle.wd_tables.specs.Answers.{answer_text}
use Rattle.wd_run.specs.Runs.{IsAnswer}
use Rattle.wd_accept.specs.Acceptance.{IsAccepted}
use Rattle.wd_accept.specs.Lists.{IsListAccepted}
use Rattle.wd_refute.specs.Refutation.{IsRefuted}
use Rattle.wd_decide.specs.Lists.{IsListVerdict}
use Rattle.wd_decide.specs.Verdicts.{IsExamined, IsVerdict}
use Rattle.wd_decide.specs.declared.list.ListVerdict.{ListVerdict}
use Rattle.wd_decide.specs.declared.verdict.Examined.{Examined}
use Rattle.wd_decide.specs.declared.verdict.Verdict.{Verdict}
use Rattle.wd_report.specs.Plans.{Explains}
use Rattle.wd_report.specs.Verdicts.{list_status, list_text, verdict_status, verdict_text}
use Rattle.wd_report.specs.Words.{line}
use Rattle.wd_command.specs.CommandLine.{AskFor}
use Rattle.wd_command.specs.Files.{File, paths_of, texts_of}
use Rattle.wd_command.specs.Words.{Task, TaskOf, Usage, Check, Explain, Verify, Refute, Run, inputs_of}

-- the forms of the command line, one on each line
abbrev pub usage_text : List ℕ
usage_text = line (codes "wdcheck check [--list] SCHEMA QUERY") ++ line (codes "wdcheck explain SCHEMA QUERY")
    ++ line (codes "wdcheck verify [--list] SCHEMA QUERY CERT") ++ line (codes "wdcheck refute SCHEMA QUERY WITNESS")
    ++ line (codes "wdcheck run SCHEMA QUERY [NAME=PATH]...")

-- ---- answers

-- the text is that of an answer to a query over data
pub record IsAnswerText (schema query : List ℕ) (given : List (List ℕ × List ℕ)) (text : List ℕ) : Type 0 where
  pub names : List (List ℕ)
  pub rows : List Row
  pub answer : IsAnswer schema query given names (Ok rows)
  pub spelled : text ≡ answer_text names rows

-- a query has this fault over data
pub record HasFault (schema query : List ℕ) (given : List (List ℕ × List ℕ)) (fault : Fault) : Type 0 where
  pub names : List (List ℕ)
  pub answer : IsAnswer schema query given names (Err fault)

-- what is printed for a task by the texts of its inputs, and the exit status
abbrev pub HasAnswer : Task → List ℕ → ℕ → Type 0
HasAnswer Usage text status = (text ≡ usage_text) × (status ≡ 0)
HasAnswer (Check false schema query) text status = (verdict : Verdict) × IsVerdict schema query verdict × (text ≡ verdict_text verdict) × (status ≡ verdict_status verdict)
HasAnswer (Check true schema query) text status = (verdict : ListVerdict) × IsListVerdict schema query verdict × (text ≡ list_text verdict) × (status ≡ list_status verdict)
HasAnswer (Explain schema query) text status = (examined : Examined) × IsExamined schema query examined × Explains examined text status
HasAnswer (Verify false schema query certificate) text status = IsAccepted schema query certificate × (text ≡ line (codes "ACCEPTED")) × (status ≡ 0)
HasAnswer (Verify true schema query certificate) text status = IsListAccepted schema query certificate × (text ≡ line (codes "ACCEPTED")) × (status ≡ 0)
HasAnswer (Refute schema query witness) text status = IsRefuted schema query witness × (text ≡ line (codes "REFUTED")) × (status ≡ 1)
HasAnswer (Run schema query tables) text status = IsAnswerText schema query tables text × (status ≡ 0)

-- ---- outputs

-- The output for the words, when these files were supplied: the words ask for a task by the paths of its files, these are the files, in
-- the order of the words, and the output is the task's answer by their texts.
pub record IsOutput (words : List (List ℕ)) (files : List File) (text : List ℕ) (status : ℕ) : Type 0 where
  pub task : TaskOf File
  pub asked : AskFor words (paths_of task)
  pub supplied : files ≡ inputs_of task
  pub answered : HasAnswer (texts_of task) text status
