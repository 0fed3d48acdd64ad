use Rattle.std.proofs.Common.{◌∙◌, ◌+◌, ap, sym, arith}
use Rattle.wd_calendar.proofs.DayFacts.{years_more, years_none}
use Rattle.wd_calendar.proofs.calendar.years_days.Goals as goal

pub loop-year-init : goal.loop-year-init
loop-year-init c = record { days = sym years_none; within = omega arith }

pub loop-year-preserved : goal.loop-year-preserved
loop-year-preserved c = record {
  days = ap (λ more. c.loop-year.days + more) c.days_of_year-days.ensures.value ∙ years_more c.loop-year.year c.loop-year.days c.loop-year.invariant.days;
  within = omega (arith, c.loop-year.invariant.within, c.days_of_year-days.ensures.within);
}
