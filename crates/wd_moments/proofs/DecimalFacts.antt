-- How the loop over places goes on.
use Rattle.std.proofs.Common.{◌≡◌, ◌<◌, ◌≤◌, ◌+◌, ◌-◌, ◌*◌, ℕ, suc, nat_lt, true, false, Some, None, refl, arith}
use Rattle.wd_moments.specs.Decimals.{units_of}

pub places_more : (scale i units : ℕ) → i < scale → nat_lt units 922337203685477581 ≡ true → units_of (scale - (i + 1)) (units * 10) ≡ units_of (scale - i) units
unfolding units_of
places_more scale i units lt small = let k : scale - i ≡ suc (scale - (i + 1)) = omega arith in rw (k, small) refl

pub places_none : (scale i units : ℕ) → i < scale → nat_lt units 922337203685477581 ≡ false → units_of (scale - i) units ≡ None
unfolding units_of
places_none scale i units lt large = let k : scale - i ≡ suc (scale - (i + 1)) = omega arith in rw (k, large) refl

pub places_over : (scale i units : ℕ) → scale ≤ i → units_of (scale - i) units ≡ Some units
unfolding units_of
places_over scale i units le = let k : scale - i ≡ 0 = omega arith in rw k refl
