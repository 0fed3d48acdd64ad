-- What the lock of a file has of its statements.
use Rattle.std.specs.Prelude.{◌⊎◌, ℕ, List, [], ◌∷◌, IsSome}
use Rattle.wd_analyse.specs.declared.analysis.Analysis.{Analysis}
use Rattle.wd_analyse.specs.declared.analysis.Analysis.TheVariants as analysis
use Rattle.wd_decide.specs.Verdicts.{HasCause, IsExamined, IsVerdict, decide_number}
use Rattle.wd_decide.specs.declared.error.DecideError.{DecideError}
use Rattle.wd_decide.specs.declared.verdict.Examined.{Examined}
use Rattle.wd_decide.specs.declared.verdict.Verdict.TheVariants.{Deterministic}
use Rattle.wd_judged.specs.Judgements.{statement_of}
use Rattle.wd_lex.specs.declared.token.Span.{Span}
use Rattle.wd_lock.specs.declared.entry.Entry.{Entry}
use Rattle.wd_lock.specs.declared.entry.Entry.TheVariants.{Open, Certified}
use Rattle.wd_lock.specs.declared.lock.Lock.{Lock}
use Rattle.wd_source.specs.Statements.{AreStatements}

-- an analysis that does not justify each call and each limit
abbrev pub IsOpen : Analysis → Type 0
IsOpen (analysis.Certified certificate) = ⊥
IsOpen (analysis.Open reasons marks) = Unit {0}

-- a certificate is that of the verdict; there is none if something is open, or if the texts are refused with a number
abbrev pub IsEntryOf : List ℕ → List ℕ → Entry → Type 0
IsEntryOf schema query (Certified certificate) = IsVerdict schema query (Deterministic certificate)
IsEntryOf schema query Open = ((examined : Examined) × IsExamined schema query examined × IsOpen examined.analysis) ⊎ ((error : DecideError) × IsSome (decide_number error) × HasCause schema query error)

-- what a lock has of an analysis
abbrev pub entry_of : Analysis → Entry
entry_of (analysis.Certified certificate) = Certified certificate
entry_of (analysis.Open reasons marks) = Open

-- an entry for each statement of a text
abbrev pub AreEntriesOf : List ℕ → List ℕ → List Span → List Entry → Type 0
AreEntriesOf schema text [] [] = Unit {0}
AreEntriesOf schema text [] (entry ∷ entries) = ⊥
AreEntriesOf schema text (span ∷ spans) [] = ⊥
AreEntriesOf schema text (span ∷ spans) (entry ∷ entries) = IsEntryOf schema (statement_of text span) entry × AreEntriesOf schema text spans entries

-- the lock of a text
abbrev pub IsLockOf : List ℕ → List ℕ → Lock → Type 0
IsLockOf schema text lock = (spans : List Span) × AreStatements text spans × AreEntriesOf schema text spans lock.entries.items
