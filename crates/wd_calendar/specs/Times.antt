-- Moments that are written YYYY-MM-DD, or so with a blank or T and HH:MM, HH:MM:SS or HH:MM:SS.f, and spans that are written as a
-- number and a unit.
use Rattle.std.specs.Prelude.{ℕ, ◌+◌, ◌-◌, ◌*◌, ◌^◌, ◌==◌, ◌&&◌, ◌||◌, nat_lt, nat_le, codes, ℤ, pos, ◌-ℤ◌, if◌then◌else◌, List, [], ◌∷◌, length, take, drop, Option, Some, None}
use Rattle.std.specs.Str.{bytes_eq}
use Rattle.wd_calendar.specs.declared.calendar.Date.{Date}
use Rattle.wd_calendar.specs.Calendar.{days_before, epoch}
use Rattle.wd_calendar.specs.Characters.{◌>>=◌, digits_from, number_at, number_of, past}
use Rattle.wd_calendar.specs.Dates.{date_at}

-- ---- in microseconds

abbrev pub second : ℕ
second = 1000000

abbrev pub minute : ℕ
minute = 60 * second

abbrev pub hour : ℕ
hour = 60 * minute

abbrev pub day : ℕ
day = 24 * hour

abbrev pub week : ℕ
week = 7 * day

-- ---- the time of a day

-- the codes of `:`, `.`, a blank and T
abbrev pub colon : ℕ
colon = 58

abbrev pub point : ℕ
point = 46

abbrev pub blank : ℕ
blank = 32

abbrev pub letter_t : ℕ
letter_t = 84

-- the microseconds of one unit in the last of `count` places after the point
abbrev pub last_place : ℕ → Option ℕ
last_place count = if nat_le 1 count && nat_le count 6 then Some (10 ^ (6 - count)) else None

-- .f, or nothing
unfoldable pub fraction_of : List ℕ → Option ℕ
fraction_of [] = Some 0
fraction_of (b ∷ digits) = past point (b ∷ digits) >>= λ digits. last_place (length digits) >>= λ place. number_of digits >>= λ number. Some (number * place)

-- :SS or :SS.f, or nothing
unfoldable pub seconds_of : List ℕ → Option ℕ
seconds_of [] = Some 0
seconds_of (b ∷ text) =
    past colon (b ∷ text) >>= λ text. number_at 2 text >>= λ seconds. fraction_of seconds.1 >>= λ fraction.
    if nat_lt seconds.0 60 then Some (seconds.0 * second + fraction) else None

-- the microseconds of HH:MM and what follows it
unfoldable pub time_of : List ℕ → Option ℕ
time_of text =
    number_at 2 text >>= λ hours. past colon hours.1 >>= λ text. number_at 2 text >>= λ minutes. seconds_of minutes.1 >>= λ seconds.
    if nat_lt hours.0 24 && nat_lt minutes.0 60 then Some (hours.0 * hour + minutes.0 * minute + seconds) else None

-- a blank or T and a time, or nothing: midnight
unfoldable pub time_after : List ℕ → Option ℕ
time_after [] = Some 0
time_after (b ∷ text) = if b == blank || b == letter_t then time_of text else None

-- ---- moments

-- the microseconds of a moment, from the first of 1970-01-01 on
unfoldable pub microsecond_number : Date → ℕ → ℤ
microsecond_number date time = pos (days_before date * day + time) -ℤ pos (days_before epoch * day)

-- the number of the microsecond that a text gives
unfoldable pub microsecond_of : List ℕ → Option ℤ
microsecond_of text = date_at text >>= λ date. time_after date.1 >>= λ time. Some (microsecond_number date.0 time)

-- ---- spans

-- the microseconds of a unit
unfoldable pub unit_of : List ℕ → Option ℕ
unit_of text =
    if bytes_eq text (codes "second") || bytes_eq text (codes "seconds") then Some second
    else (if bytes_eq text (codes "minute") || bytes_eq text (codes "minutes") then Some minute
    else (if bytes_eq text (codes "hour") || bytes_eq text (codes "hours") then Some hour
    else (if bytes_eq text (codes "day") || bytes_eq text (codes "days") then Some day
    else (if bytes_eq text (codes "week") || bytes_eq text (codes "weeks") then Some week else None))))

-- a span, where a whole number of 64 bits holds it
abbrev pub span_of : ℕ → Option ℤ
span_of span = if nat_lt span (2 ^ 63) then Some (pos span) else None

-- the microseconds of a number of units
abbrev pub counted : ℕ → ℕ → Option ℤ
counted number unit = span_of (number * unit)

-- the microseconds of the span that a text gives: digits, a blank and a unit
unfoldable pub interval_of : List ℕ → Option ℤ
interval_of text =
    let count = digits_from 0 text in
    if count == 0 then None
    else (number_of (take count text) >>= λ number. past blank (drop count text) >>= λ rest. unit_of rest >>= λ unit. counted number unit)
