use Rattle.std.proofs.Common.{length}
use denote.Text.{Utf8}
use denote.Shadow.{shadow}
use Rattle.wd_lex.proofs.Progress.{IsReadUpTo}
use Rattle.wd_lex.proofs.lexer.tokens_of.Given as goal

abbrev pub invariant-loop-rest : goal.invariant-loop-rest
invariant-loop-rest l = record {
  utf8 : shadow (Utf8 l.rest);
  read : IsReadUpTo l.text l.tokens.items l.rest;
}

abbrev pub decreases-loop-rest : goal.decreases-loop-rest
decreases-loop-rest l = length l.rest
