-- A text of PostgreSQL in the characters of the profile. What is in comments and quotes stays as it is; outside of them a square
-- bracket becomes a round one, the point in a number a blank, a character of an operator that PostgreSQL has and the profile does not a
-- percent sign, and a command of psql, from its backslash to the end of the line, becomes blanks. In a text E'..' a quote after a
-- backslash becomes an underscore. Each byte stays at its place.
use Rattle.std.specs.Prelude.{ℕ, ◌+◌, ◌-◌, ◌^◌, ◌==◌, ◌||◌, ◌&&◌, min, Bool, List, [], ◌∷◌, slice_index, if◌then◌else◌}
use Rattle.wd_lex.specs.Characters.{begins_word, goes_on_word, is_digit, is_line_end, single_quote, double_quote}
use Rattle.wd_dialect_text.specs.declared.mask.State.{State}
use Rattle.wd_dialect_text.specs.declared.mask.State.TheVariants as s

-- a byte that is written in place of another, and the state after it
abbrev pub Step : Type 0
Step = ℕ × State

-- a character of an operator that the profile does not have
abbrev pub is_foreign : ℕ → Bool
is_foreign b = b == 33 || b == 35 || b == 38 || b == 58 || b == 63 || b == 64 || b == 94 || b == 96 || b == 123 || b == 124 || b == 125 || b == 126

-- an `e` that begins a text E'..'
abbrev pub is_prefix : ℕ → ℕ → Bool
is_prefix b next = (b == 69 || b == 101) && next == single_quote

-- the step of a byte that continues no token from the byte before it
unfoldable pub between : ℕ → ℕ → Step
between b next =
    if is_prefix b next then (b, s.Prefix)
    else (if begins_word b then (b, s.Word)
    else (if is_digit b then (b, s.Number)
    else (if b == single_quote then (b, s.Text)
    else (if b == double_quote then (b, s.Name)
    else (if b == 45 && next == 45 then (b, s.Line)
    else (if b == 47 && next == 42 then (b, s.Opening 0)
    else (if b == 91 then (40, s.Between)
    else (if b == 93 then (41, s.Between)
    else (if b == 92 then (32, s.Command)
    else (if is_foreign b then (37, s.Between)
    else (b, s.Between)))))))))))

-- one more than the number of comments that a comment is nested in
abbrev pub deeper : ℕ → ℕ
deeper depth = min (depth + 1) (2 ^ 64 - 1)

-- the state after the end of a comment
abbrev pub closed : ℕ → State
closed depth = if depth == 0 then s.Between else s.Block (depth - 1)

unfoldable pub step : State → ℕ → ℕ → Step
step s.Between b next = between b next
step s.Word b next = if goes_on_word b then (b, s.Word) else between b next
step s.Number b next = if is_digit b then (b, s.Number) else (if b == 46 then (32, s.Number) else between b next)
step s.Text b next = if b == single_quote then (b, s.Between) else (b, s.Text)
step s.Name b next = if b == double_quote then (b, s.Between) else (b, s.Name)
step s.Prefix b next = (b, s.Escaped)
step s.Escaped b next = if b == 92 then (b, s.Skipped) else (if b == single_quote then (b, s.Paused) else (b, s.Escaped))
step s.Skipped b next = if b == single_quote then (95, s.Escaped) else (b, s.Escaped)
step s.Paused b next = if b == single_quote then (b, s.Escaped) else between b next
step s.Line b next = if is_line_end b then (b, s.Between) else (b, s.Line)
step s.Command b next = if is_line_end b then (b, s.Between) else (32, s.Command)
step (s.Opening depth) b next = (b, s.Block depth)
step (s.Block depth) b next = if b == 42 && next == 47 then (b, s.Closing depth) else (if b == 47 && next == 42 then (b, s.Opening (deeper depth)) else (b, s.Block depth))
step (s.Closing depth) b next = (b, closed depth)

-- bytes, masked, of which the first is in this state
abbrev pub masked_from : State → List ℕ → List ℕ
masked_from state [] = []
masked_from state (b ∷ bytes) = let taken = step state b (slice_index bytes 0) in taken.0 ∷ masked_from taken.1 bytes

abbrev pub masked : List ℕ → List ℕ
masked text = masked_from s.Between text
