-- The judgement of a statement.
use Rattle.std.specs.Prelude.{◌≡◌, ℕ, List, length, slice_range, IfSome}
use Rattle.wd_lex.specs.declared.token.Span.{Span}
use Rattle.wd_decide.specs.Verdicts.{HasCause}
use Rattle.wd_finding.specs.Findings.{IsFinding}
use Rattle.wd_help.specs.Helps.{IsHelp}
use Rattle.wd_help.specs.declared.help.Help.{Help}
use Rattle.wd_lines.specs.declared.count.Kind.{Kind}
use Rattle.wd_lines.specs.declared.count.Kind.TheVariants.{NotRead}
use Rattle.wd_block.specs.Kinds.{kind_of}
use Rattle.wd_fix.specs.declared.fix.Fix.{Fix}
use Rattle.wd_judged.specs.declared.judged.Judged.{Judged}
use Rattle.wd_judged.specs.declared.judged.Judgement.{Judgement}
use Rattle.wd_judged.specs.declared.judged.Judgement.TheVariants.{Found, Refused}

-- the text of the statement that has this span
abbrev pub statement_of : List ℕ → Span → List ℕ
statement_of text span = slice_range text span.start span.end

-- a finding is one of the two texts and counts as its verdict, its simpler plan and the further search say; a refusal has its cause in
-- the texts and counts as not read
abbrev pub IsJudgement : List ℕ → List ℕ → Kind → Judgement → Type 0
IsJudgement schema query kind (Found finding) = IsFinding schema query finding × (kind ≡ kind_of finding.verdict finding.certain finding.further)
IsJudgement schema query kind (Refused error) = HasCause schema query error × (kind ≡ NotRead)

-- how many places are reported
abbrev pub places_told : Judgement → ℕ
places_told (Found finding) = length finding.places.items
places_told (Refused error) = 1

-- The judgement of a query's text, which has this span in its file: what is found of it, helps that are valid for it, and a block for
-- each place.
pub record IsJudgedAs (schema query : List ℕ) (span : Span) (judged : Judged) : Type 0 where
  pub stands : judged.span ≡ span
  pub judgement : IsJudgement schema query judged.kind judged.judgement
  pub help : IfSome judged.help (IsHelp schema query)
  pub alike : IfSome judged.alike (IsHelp schema query)
  pub told : length judged.blocks.items ≡ places_told judged.judgement

-- the judgement of the statement of a text that has this span
abbrev pub IsJudged : List ℕ → List ℕ → Span → Judged → Type 0
IsJudged schema text span judged = IsJudgedAs schema (statement_of text span) span judged

-- a statement as a help mends it
abbrev pub fix_of : Span → Help → Fix
fix_of span help = record { span = span; text = help.text }
