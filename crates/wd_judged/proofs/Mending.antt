-- What takes the place of a statement that is judged.
use Rattle.std.proofs.Common.{◌≡◌, ℕ, List, Option, Some, None, option_map, IfSome, refl}
use Rattle.wd_lex.specs.declared.token.Span.{Span}
use Rattle.wd_fix.specs.declared.fix.Fix.{Fix}
use Rattle.wd_help.specs.Helps.{IsHelp}
use Rattle.wd_help.specs.declared.help.Help.{Help}
use Rattle.wd_judged.specs.Judgements.{IsJudged, fix_of, statement_of}
use Rattle.wd_judged.specs.Mended.{IsMended}
use Rattle.wd_judged.specs.declared.judged.Judged.{Judged}

-- a help for a statement mends it
pub mended_help : (schema text : List ℕ) (span : Span) (help : Option Help) → IfSome help (IsHelp schema (statement_of text span))
    → IfSome (option_map (fix_of span) help) (IsMended schema text)
mended_help schema text span None is = tt
mended_help schema text span (Some help) is = record { help = help; is_help = is; takes = refl }

-- and so does what is made of a statement that is judged
pub mended_fix : (schema text : List ℕ) (span : Span) (judged : Judged) (fix : Option Fix) → IsJudged schema text span judged
    → fix ≡ option_map (fix_of judged.span) judged.help → IfSome fix (IsMended schema text)
mended_fix schema text span judged fix is made = rw made (rw is.stands (mended_help schema text span judged.help is.help))
