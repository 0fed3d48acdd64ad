use Rattle.std.proofs.Common.{◌≡◌, ◌-◌}
use Rattle.wd_lex.specs.Lexed.{kinds_of}
use Rattle.wd_syntax.specs.View.{view, tested}
use Rattle.wd_read_expression.specs.Reading.{tests}
use Rattle.wd_read_expression.proofs.null_test.tests.Given as goal

-- what is still read from the tree so far is what was to be read
abbrev pub invariant-loop : goal.invariant-loop
invariant-loop l = tests (200 - l.counter) (tested (view l.operand.value) l.items.items) (kinds_of l.rest) ≡ tests 200 (view l.fn.operand.value) (kinds_of l.fn.tokens)
