-- The calendar of the standard: the Gregorian one, also for days before it was in use.
use Rattle.std.specs.Prelude.{ℕ, zero, suc, ◌+◌, ◌-◌, ◌%◌, ◌==◌, ◌&&◌, ◌||◌, not, nat_le, Bool, if◌then◌else◌, ℤ, pos, ◌-ℤ◌}
use Rattle.wd_calendar.specs.declared.calendar.Date.{Date}

-- Every fourth year is a leap year, but of the years divisible by 100 only every fourth.
abbrev pub is_leap : ℕ → Bool
is_leap year = year % 4 == 0 && (not (year % 100 == 0) || year % 400 == 0)

abbrev pub days_of_year : ℕ → ℕ
days_of_year year = if is_leap year then 366 else 365

-- February is the second month
abbrev pub days_of_month : ℕ → ℕ → ℕ
days_of_month year month =
    if month == 2 then (if is_leap year then 29 else 28)
    else (if month == 4 || month == 6 || month == 9 || month == 11 then 30 else 31)

-- whether a date exists
abbrev pub is_date : Date → Bool
is_date date =
    (nat_le 1 date.year && nat_le date.year 9999) && (nat_le 1 date.month && nat_le date.month 12)
    && (nat_le 1 date.day && nat_le date.day (days_of_month date.year date.month))

-- the number of days in the first years, from the year 1 on
unfoldable pub days_of_years : ℕ → ℕ
days_of_years zero = 0
days_of_years (suc year) = days_of_years year + days_of_year (suc year)

-- the number of days in the first months of a year
unfoldable pub days_of_months : ℕ → ℕ → ℕ
days_of_months year zero = 0
days_of_months year (suc month) = days_of_months year month + days_of_month year (suc month)

-- the number of days before a date, from 0001-01-01 on
unfoldable pub days_before : Date → ℕ
days_before date = days_of_years (date.year - 1) + days_of_months date.year (date.month - 1) + (date.day - 1)

-- the day from which days are counted: 1970-01-01
abbrev pub epoch : Date
epoch = record { year = 1970; month = 1; day = 1 }

-- the number of a day
unfoldable pub day_number : Date → ℤ
day_number date = pos (days_before date) -ℤ pos (days_before epoch)
