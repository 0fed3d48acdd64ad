-- How the loops over years and months go on.
use Rattle.std.proofs.Common.{◌≡◌, ◌+◌, ℕ, suc, refl, arith}
use Rattle.wd_calendar.specs.Calendar.{days_of_month, days_of_months, days_of_year, days_of_years}

next : (n : ℕ) → n + 1 ≡ suc n
next n = omega arith

pub years_none : days_of_years 0 ≡ 0
unfolding days_of_years
years_none = refl

pub years_more : (n days : ℕ) → days ≡ days_of_years n → days + days_of_year (n + 1) ≡ days_of_years (n + 1)
unfolding days_of_years
years_more n days e = rw (next n, e) refl

pub months_none : (year : ℕ) → days_of_months year 0 ≡ 0
unfolding days_of_months
months_none year = refl

pub months_more : (year n days : ℕ) → days ≡ days_of_months year n → days + days_of_month year (n + 1) ≡ days_of_months year (n + 1)
unfolding days_of_months
months_more year n days e = rw (next n, e) refl
