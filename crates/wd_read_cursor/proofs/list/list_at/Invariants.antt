use Rattle.std.proofs.Common.{◌≡◌, ◌-◌, map}
use Rattle.wd_lex.specs.Lexed.{kinds_of}
use Rattle.wd_read_cursor.specs.Cursor.{after, list_at, many, with_front}
use Rattle.wd_read_cursor.proofs.list.list_at.Given as goal

abbrev pub invariant-loop : goal.invariant-loop
invariant-loop g l = with_front (map g.R.Reader.tree l.items.items) (many (after l.separator (g.R.Reader.item l.reader)) (l.end - l.counter) (kinds_of l.rest)) ≡ list_at l.separator (g.R.Reader.item l.reader) (kinds_of l.fn.tokens)
