use Rattle.std.proofs.Common.{refl}
use Rattle.wd_calendar.specs.Calendar.{day_number, days_before, days_of_months, days_of_years}
use Rattle.wd_calendar.specs.Characters.{digits_from, number_after, number_at, past}
use Rattle.wd_calendar.specs.Dates.{date_at, day_of}
use Rattle.wd_calendar.specs.Times.{fraction_of, interval_of, microsecond_number, microsecond_of, seconds_of, time_after, time_of, unit_of}
use Rattle.wd_calendar.proofs.laws.texts_come_out.Goals as goal

pub returns : goal.returns
unfolding day_number days_before days_of_months days_of_years digits_from number_after number_at past date_at day_of fraction_of interval_of microsecond_number microsecond_of seconds_of time_after time_of unit_of
returns c = record {
  first = refl;
  epoch = refl;
  before = refl;
  century = refl;
  leap_day = refl;
  new_year = refl;
  no_leap_century = refl;
  no_leap_year = refl;
  midnight = refl;
  half = refl;
  half_hour = refl;
}
