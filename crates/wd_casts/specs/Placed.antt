-- What the code found, as a place.
use Rattle.wd_casts.specs.declared.walk.Place.{Place as FoundPlace}
use Rattle.wd_casts.specs.Walked.{Place}

abbrev pub place_seen : FoundPlace → Place
place_seen x = record { known = x.known; operand = x.term.operand.now; casts = x.term.casts.items; rest = x.term.rest.now }
