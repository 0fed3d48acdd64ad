-- Texts whose numbers are known.
use Rattle.std.specs.Prelude.{◌≡◌, codes, pos, neg_ℤ, Some, None}
use Rattle.wd_calendar.specs.Dates.{day_of}
use Rattle.wd_calendar.specs.Times.{interval_of, microsecond_of}

pub record TextsComeOut : Type 0 where
  pub first : day_of (codes "0001-01-01") ≡ Some (neg_ℤ (pos 719162))
  pub epoch : day_of (codes "1970-01-01") ≡ Some (pos 0)
  pub before : day_of (codes "1969-12-31") ≡ Some (neg_ℤ (pos 1))
  pub century : day_of (codes "2000-03-01") ≡ Some (pos 11017)
  pub leap_day : day_of (codes "2024-02-29") ≡ Some (pos 19782)
  pub new_year : day_of (codes "2026-01-01") ≡ Some (pos 20454)
  pub no_leap_century : day_of (codes "1900-02-29") ≡ None
  pub no_leap_year : day_of (codes "2026-02-30") ≡ None
  pub midnight : microsecond_of (codes "2026-01-01") ≡ Some (pos 1767225600000000)
  pub half : microsecond_of (codes "1970-01-01T00:00:01.5") ≡ Some (pos 1500000)
  pub half_hour : interval_of (codes "30 minutes") ≡ Some (pos 1800000000)
