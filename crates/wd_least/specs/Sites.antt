-- Where sort keys can be added for a call or a limit.
use Rattle.std.specs.Prelude.{ℕ, ◌==◌, Bool, true, false, ◌&&◌, List, [], ◌∷◌, ◌++◌, Option, Some, None, if◌then◌else◌}
use Rattle.std.specs.List.{list_any}
use Rattle.wd_analyse.specs.declared.analysis.Reason.{Reason}
use Rattle.wd_sites.specs.declared.site.KeyPlace.{KeyPlace}
use Rattle.wd_sites.specs.declared.site.PlanSite.{PlanSite}

abbrev pub is_at : KeyPlace → KeyPlace → Bool
is_at key place = place.at == key.at

-- the same call, or none
abbrev pub same_call : Option ℕ → Option ℕ → Bool
same_call None None = true
same_call None (Some b) = false
same_call (Some a) None = false
same_call (Some a) (Some b) = a == b

abbrev pub is_of : Reason → PlanSite → Bool
is_of reason found = found.node == reason.node && same_call found.call reason.call

-- places with one more place for keys appended, where it is new
abbrev pub with_key : List KeyPlace → Option KeyPlace → List KeyPlace
with_key places None = places
with_key places (Some key) = if list_any (is_at key) places then places else places ++ key ∷ []

-- places with that of a site appended, where the site is one of the call or the limit
abbrev pub with_site : Reason → List KeyPlace → PlanSite → List KeyPlace
with_site reason places found = if is_of reason found then with_key places found.site.key else places

-- places with those of sites appended
abbrev pub places_at : Reason → List KeyPlace → List PlanSite → List KeyPlace
places_at reason places [] = places
places_at reason places (found ∷ sites) = places_at reason (with_site reason places found) sites
