use Rattle.std.proofs.Common.{◌≡◌, ◌<◌, IfSome, None, length, slice_index_or, ℕ}
use Rattle.wd_refute.specs.Stored.{ArePlaces}
use Rattle.wd_refute.specs.declared.places.Places.{Places}
use Rattle.wd_refute.proofs.stored.stored_places.Given as goal

abbrev pub invariant-loop-column : goal.invariant-loop-column
invariant-loop-column l =
    (length l.found.items ≡ l.column)
    × ((c : ℕ) → c < l.column → (column : Places) → IfSome (slice_index_or l.found.items c None) (ArePlaces (slice_index_or l.places c column) l.rows c))
