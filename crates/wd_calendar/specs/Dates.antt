-- Dates that are written YYYY-MM-DD.
use Rattle.std.specs.Prelude.{ℕ, ℤ, if◌then◌else◌, List, [], ◌∷◌, Option, Some, None}
use Rattle.wd_calendar.specs.declared.calendar.Date.{Date}
use Rattle.wd_calendar.specs.Calendar.{day_number, is_date}
use Rattle.wd_calendar.specs.Characters.{◌>>=◌, number_at, past}

-- the code of `-`
abbrev pub hyphen : ℕ
hyphen = 45

abbrev pub dated : Date → List ℕ → Option (Date × List ℕ)
dated date rest = if is_date date then Some (date, rest) else None

-- the date at the start of a text, and the text after it
unfoldable pub date_at : List ℕ → Option (Date × List ℕ)
date_at text =
    number_at 4 text >>= λ year. past hyphen year.1 >>= λ months. number_at 2 months >>= λ month. past hyphen month.1 >>= λ days. number_at 2 days >>= λ day.
    dated (record { year = year.0; month = month.0; day = day.0 }) day.1

abbrev pub day_where_all : Date → List ℕ → Option ℤ
day_where_all date [] = Some (day_number date)
day_where_all date (b ∷ rest) = None

-- the number of the day that a text gives
unfoldable pub day_of : List ℕ → Option ℤ
day_of text = date_at text >>= λ date. day_where_all date.0 date.1
