-- A file whose statements are mended.
use Rattle.std.specs.Prelude.{◌≡◌, ℕ, ◌<◌, List, length, map, All}
use Rattle.wd_source.specs.Statements.{StandInOrder}
use Rattle.wd_help.specs.Helps.{IsHelp}
use Rattle.wd_help.specs.declared.help.Help.{Help}
use Rattle.wd_fix.specs.Fixes.{IsFixed, span_of}
use Rattle.wd_fix.specs.declared.fix.Fix.{Fix}
use Rattle.wd_judged.specs.Judgements.{statement_of}

-- the text that replaces a statement is that of a help for it: the statement with sort keys put in, whose verdict is DETERMINISTIC
pub record IsMended (schema text : List ℕ) (fix : Fix) : Type 0 where
  pub help : Help
  pub is_help : IsHelp schema (statement_of text fix.span) help
  pub takes : fix.text ≡ help.text

-- statements of a text, one after the other, each of them mended
pub record AreMended (schema text : List ℕ) (fixes : List Fix) : Type 0 where
  pub ordered : StandInOrder 0 (map span_of fixes) (length text)
  pub mended : All (IsMended schema text) fixes

-- this is the text with at least one of its statements mended, and all else as it was
pub record IsMendedText (schema text after : List ℕ) : Type 0 where
  pub fixes : List Fix
  pub some : 0 < length fixes
  pub mended : AreMended schema text fixes
  pub fixed : IsFixed text fixes after
