use Rattle.std.proofs.Common.{◌≡◌, take}
use Rattle.wd_lex.specs.Lexed.{kinds_of}
use Rattle.wd_token_text.proofs.kinds.say_the_same.Given as goal

abbrev pub invariant-loop-number : goal.invariant-loop-number
invariant-loop-number l = kinds_of (take l.number l.tokens) ≡ kinds_of (take l.number l.others)
