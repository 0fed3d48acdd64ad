use Rattle.std.proofs.Common.{◌≡◌, ◌≤◌, ◌*◌}
use Rattle.wd_calendar.specs.Calendar.{days_of_years}
use Rattle.wd_calendar.proofs.calendar.years_days.Given as goal

abbrev pub invariant-loop-year : goal.invariant-loop-year
invariant-loop-year l = record {
  days : l.days ≡ days_of_years l.year;
  within : l.days ≤ 366 * l.year;
}
