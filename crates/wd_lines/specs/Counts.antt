-- How queries are counted.
use Rattle.std.specs.Prelude.{ℕ, ◌+◌, ◌-◌, ◌^◌, min, Bool, true, false, nat_lt, ◌==◌, not, ◌&&◌, ◌||◌, List, [], ◌∷◌, ◌++◌, codes, if◌then◌else◌}
use Rattle.std.specs.Fmt.{decimal}
use Rattle.wd_lines.specs.declared.count.Counts.{Counts}
use Rattle.wd_lines.specs.declared.count.Kind.{Kind}
use Rattle.wd_lines.specs.declared.count.Kind.TheVariants.{Deterministic, Depends, MayTie, NotRead}
use Rattle.wd_lines.specs.declared.count.Standing.{Standing}
use Rattle.wd_lines.specs.declared.count.Standing.TheVariants.{New, Excused, Known}

-- a sum, capped at the largest number of 64 bits
abbrev pub capped : ℕ → ℕ
capped n = min n (2 ^ 64 - 1)

abbrev pub with_kind : Kind → Counts → Counts
with_kind Deterministic counts = record counts { deterministic = capped (counts.deterministic + 1) }
with_kind Depends counts = record counts { depend = capped (counts.depend + 1) }
with_kind MayTie counts = record counts { may_tie = capped (counts.may_tie + 1) }
with_kind NotRead counts = record counts { not_read = capped (counts.not_read + 1) }

abbrev pub with_mended : Bool → Counts → Counts
with_mended true counts = record counts { mended = capped (counts.mended + 1) }
with_mended false counts = counts

abbrev pub with_excused : Counts → Counts
with_excused counts = record counts { excused = capped (counts.excused + 1) }

abbrev pub with_known : Counts → Counts
with_known counts = record counts { known = capped (counts.known + 1) }

-- what is not read is not excused, and what is deterministic needs no excuse
abbrev pub with_standing : Kind → Standing → Counts → Counts
with_standing Deterministic New counts = counts
with_standing Deterministic Excused counts = counts
with_standing Deterministic Known counts = counts
with_standing Depends New counts = record counts { new_depend = capped (counts.new_depend + 1) }
with_standing Depends Excused counts = with_excused counts
with_standing Depends Known counts = with_known counts
with_standing MayTie New counts = record counts { new_may_tie = capped (counts.new_may_tie + 1) }
with_standing MayTie Excused counts = with_excused counts
with_standing MayTie Known counts = with_known counts
with_standing NotRead New counts = record counts { new_not_read = capped (counts.new_not_read + 1) }
with_standing NotRead Excused counts = record counts { new_not_read = capped (counts.new_not_read + 1) }
with_standing NotRead Known counts = with_known counts

-- the counts with one more query
abbrev pub with_query : Kind → Standing → Bool → Counts → Counts
with_query kind standing is_mended counts = with_standing kind standing (with_mended is_mended (with_kind kind counts))

-- the exit status by the queries that are new: 2 where one is not read, else 1 where one depends or, unless that is allowed, may tie
abbrev pub status : (allows_unknown : Bool) → Counts → ℕ
status allows_unknown counts =
    if nat_lt 0 counts.new_not_read then 2 else (if nat_lt 0 counts.new_depend || (nat_lt 0 counts.new_may_tie && not allows_unknown) then 1 else 0)

-- how many queries there are
abbrev pub all_counted : Counts → ℕ
all_counted counts = capped (capped (capped (counts.deterministic + counts.depend) + counts.may_tie) + counts.not_read)

abbrev pub noun : ℕ → List ℕ
noun count = if count == 1 then codes "query" else codes "queries"

abbrev pub decided_words : Counts → List ℕ
decided_words counts = decimal (all_counted counts) ++ codes " " ++ noun (all_counted counts) ++ codes ": " ++ decimal counts.deterministic ++ codes " deterministic, " ++ decimal counts.depend ++ codes " depend, "

abbrev pub other_words : Counts → List ℕ
other_words counts = decimal counts.may_tie ++ codes " may tie, " ++ decimal counts.not_read ++ codes " not read; "

abbrev pub mended_words : Counts → List ℕ
mended_words counts = decimal counts.mended ++ codes " can be mended by a key"

-- a count and a word for it, where the count is not 0
abbrev pub some_words : ℕ → List ℕ → List ℕ
some_words count word = if nat_lt 0 count then codes "; " ++ decimal count ++ codes " " ++ word else []

abbrev pub count_line : Counts → List ℕ
count_line counts = decided_words counts ++ other_words counts ++ mended_words counts ++ some_words counts.excused (codes "excused") ++ some_words counts.known (codes "known") ++ 10 ∷ []
