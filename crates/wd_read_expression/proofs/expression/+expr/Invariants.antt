use Rattle.std.proofs.Common.{◌≡◌, ◌-◌, ◌+◌, ◌*◌, map}
use Rattle.wd_lex.specs.Lexed.{kinds_of}
use Rattle.wd_syntax.specs.Tokens.{rank}
use Rattle.wd_lex.specs.declared.token.Terminal.TheVariants as m
use Rattle.wd_syntax.specs.View.{view, view_link, chained, view_arm, view_key}
use Rattle.wd_read_expression.specs.Reading.{read, links, arm_at, key_at}
use Rattle.wd_read_cursor.specs.Cursor.{many, after, list_at}
use Rattle.wd_read_cursor.specs.Cursor.{with_front}
use Rattle.wd_read_expression.proofs.expression.+expr.Given as goal

-- A level is worth 60, a height 3, and a helper stands between its caller and what it calls.
abbrev pub decreases-at : goal.decreases-at
decreases-at l = 60 * l.depth + 3 * rank l.height + 20

abbrev pub decreases-chain : goal.decreases-chain
decreases-chain l = 60 * l.depth + 3 * rank l.height + 19

abbrev pub decreases-links : goal.decreases-links
decreases-links l = 60 * l.depth + 3 * rank l.height + 18

abbrev pub decreases-comparison : goal.decreases-comparison
decreases-comparison l = 60 * l.depth + 31

abbrev pub decreases-test : goal.decreases-test
decreases-test l = 60 * l.depth + 34

abbrev pub decreases-negation : goal.decreases-negation
decreases-negation l = 60 * l.depth + 37

abbrev pub decreases-signed_operand : goal.decreases-signed_operand
decreases-signed_operand l = 60 * l.depth + 22

abbrev pub decreases-primary : goal.decreases-primary
decreases-primary l = 60 * l.depth + 19

abbrev pub decreases-primary_by_terminal : goal.decreases-primary_by_terminal
decreases-primary_by_terminal l = 60 * l.depth + 18

abbrev pub decreases-primary_by_name : goal.decreases-primary_by_name
decreases-primary_by_name l = 60 * l.depth + 18

abbrev pub decreases-call : goal.decreases-call
decreases-call l = 60 * l.depth + 17

abbrev pub decreases-over : goal.decreases-over
decreases-over l = 60 * l.depth + 16

abbrev pub decreases-bracket : goal.decreases-bracket
decreases-bracket l = 60 * l.depth + 45

abbrev pub decreases-list : goal.decreases-list
decreases-list l = 60 * l.depth + 45

abbrev pub decreases-arguments : goal.decreases-arguments
decreases-arguments l = 60 * l.depth + 46

abbrev pub decreases-arm : goal.decreases-arm
decreases-arm l = 60 * l.depth + 45

abbrev pub decreases-arms : goal.decreases-arms
decreases-arms l = 60 * l.depth + 46

abbrev pub decreases-otherwise : goal.decreases-otherwise
decreases-otherwise l = 60 * l.depth + 45

abbrev pub decreases-case : goal.decreases-case
decreases-case l = 60 * l.depth + 47

abbrev pub decreases-key : goal.decreases-key
decreases-key l = 60 * l.depth + 45

abbrev pub decreases-keys : goal.decreases-keys
decreases-keys l = 60 * l.depth + 46

abbrev pub decreases-order_at : goal.decreases-order_at
decreases-order_at l = 60 * l.depth + 47

abbrev pub decreases-partition : goal.decreases-partition
decreases-partition l = 60 * l.depth + 46

abbrev pub decreases-window_at : goal.decreases-window_at
decreases-window_at l = 60 * l.depth + 48

-- what is still read, from what was read so far, is what was to be read
abbrev pub invariant-links-loop : goal.invariant-links-loop
invariant-links-loop l = links (read 200 l.depth (rank l.height - 1)) (rank l.height) (200 - l.counter) (chained (view l.first.value) (map view_link l.items.items)) (kinds_of l.rest) ≡ links (read 200 l.depth (rank l.height - 1)) (rank l.height) 200 (view l.fn.first.value) (kinds_of l.fn.tokens)

abbrev pub invariant-list-loop : goal.invariant-list-loop
invariant-list-loop l = with_front (map view l.items.items) (many (after m.Comma (read 200 l.depth 8)) (l.end - l.counter) (kinds_of l.rest)) ≡ list_at m.Comma (read 200 l.depth 8) (kinds_of l.fn.tokens)

abbrev pub invariant-arms-loop : goal.invariant-arms-loop
invariant-arms-loop l = with_front (map view_arm l.items.items) (many (after m.When (arm_at (read 200 l.depth 8))) (l.end - l.counter) (kinds_of l.rest)) ≡ list_at m.When (arm_at (read 200 l.depth 8)) (kinds_of l.fn.tokens)

abbrev pub invariant-keys-loop : goal.invariant-keys-loop
invariant-keys-loop l = with_front (map view_key l.items.items) (many (after m.Comma (key_at (read 200 l.depth 8))) (l.end - l.counter) (kinds_of l.rest)) ≡ list_at m.Comma (key_at (read 200 l.depth 8)) (kinds_of l.fn.tokens)
