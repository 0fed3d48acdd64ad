use Rattle.std.proofs.Common.{◌∙◌, ◌+◌, ap, sym, arith}
use Rattle.wd_calendar.proofs.DayFacts.{months_more, months_none}
use Rattle.wd_calendar.proofs.calendar.months_days.Goals as goal

pub loop-month-init : goal.loop-month-init
loop-month-init c = record { days = sym (months_none c.args.year); within = omega arith }

pub loop-month-preserved : goal.loop-month-preserved
loop-month-preserved c = record {
  days = ap (λ more. c.loop-month.days + more) c.days_of_month-days.ensures.value ∙ months_more c.args.year c.loop-month.month c.loop-month.days c.loop-month.invariant.days;
  within = omega (arith, c.loop-month.invariant.within, c.days_of_month-days.ensures.within);
}
