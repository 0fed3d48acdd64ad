use Rattle.std.proofs.Common.{◌≡◌, ◌-◌, ◌+◌, ◌*◌, length, map}
use Rattle.wd_lex.specs.Lexed.{kinds_of}
use Rattle.wd_syntax.specs.View.{view_joined}
use Rattle.wd_read_expression.specs.Reading.{read}
use Rattle.wd_parse.specs.Reading.{inside_of, join_at}
use Rattle.wd_read_cursor.specs.Cursor.{many}
use Rattle.wd_read_cursor.specs.Cursor.{with_front}
use Rattle.wd_parse.proofs.query.+select.Given as goal

-- A level is worth 10, and a helper stands between its caller and what it calls.
abbrev pub decreases-select : goal.decreases-select
decreases-select l = 10 * l.depth + 6

abbrev pub decreases-from_and_tail : goal.decreases-from_and_tail
decreases-from_and_tail l = 10 * l.depth + 5

abbrev pub decreases-from : goal.decreases-from
decreases-from l = 10 * l.depth + 4

abbrev pub decreases-joins : goal.decreases-joins
decreases-joins l = 10 * l.depth + 3

abbrev pub decreases-join : goal.decreases-join
decreases-join l = 10 * l.depth + 2

abbrev pub decreases-inner : goal.decreases-inner
decreases-inner l = 10 * l.depth + 1

abbrev pub decreases-table : goal.decreases-table
decreases-table l = 10 * l.depth

-- what is still read, after what was read so far, is what was to be read
abbrev pub invariant-joins-loop : goal.invariant-joins-loop
invariant-joins-loop l = with_front (map view_joined l.items.items) (many (join_at (inside_of 200 l.depth) (read 200 l.depth 8)) (length l.tokens - l.counter) (kinds_of l.rest)) ≡ many (join_at (inside_of 200 l.depth) (read 200 l.depth 8)) (length (kinds_of l.fn.tokens)) (kinds_of l.fn.tokens)
