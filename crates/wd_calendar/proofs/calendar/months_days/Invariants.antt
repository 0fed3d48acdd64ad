use Rattle.std.proofs.Common.{◌≡◌, ◌≤◌, ◌*◌}
use Rattle.wd_calendar.specs.Calendar.{days_of_months}
use Rattle.wd_calendar.proofs.calendar.months_days.Given as goal

abbrev pub invariant-loop-month : goal.invariant-loop-month
invariant-loop-month l = record {
  days : l.days ≡ days_of_months l.fn.year l.month;
  within : l.days ≤ 31 * l.month;
}
