-- The place of each position of a list.
use Rattle.std.specs.Prelude.{◌≡◌, ℕ, ◌<◌, List, length, slice_index, slice_index_or}
use Rattle.wd_partition.specs.declared.places.Place.{Place}

-- at each position that is among the first i of the list: where its partition starts and ends, and its own place
pub record ArePlaces (list starts ends : List ℕ) (i : ℕ) (places : List Place) : Type 0 where
  pub long : length places ≡ length list
  pub each : (k : ℕ) (d : Place) → k < i → slice_index_or places (slice_index list k) d ≡ record { start = slice_index starts k; end = slice_index ends k; index = k }
