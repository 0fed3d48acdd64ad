use Rattle.std.proofs.Common.{◌≡◌, ◌<◌, length}
use Rattle.wd_calendar.specs.Characters.{number_after}
use Rattle.wd_calendar.proofs.characters.number_of.Given as goal

abbrev pub invariant-loop-rest : goal.invariant-loop-rest
invariant-loop-rest l = record {
  number : number_after l.number l.rest ≡ number_after 0 l.fn.text;
  within : l.number < 1000000000;
}

abbrev pub decreases-loop-rest : goal.decreases-loop-rest
decreases-loop-rest l = length l.rest
