-- Codes of one column, and of a column in front of others.
use Rattle.std.proofs.Common.{◌≡◌, ◌∙◌, ℕ, ℤ, ◌+◌, ◌*◌, ◌<◌, ◌≤◌, List, [], ◌∷◌, drop, map, get_or, length, zero, suc, refl, sym, ap, arith, Ordering, Less, Equal, Greater}
use Rattle.std.specs.Prelude.{unsigned_abs, ◌-ℤ◌}
use Rattle.std.specs.Ordering.{nat_cmp, ordering_then}
use Rattle.std.specs.Cmp.{nat_cmp_is}
use Rattle.std.proofs.lemmas.Cmp.{ranked}
use Rattle.std.proofs.lemmas.List.{get_or-map, length-map}
use Rattle.std.proofs.Math.Nat.{mul-le-mul_right}
use Rattle.wd_value.specs.Order.{compare}
use Rattle.wd_value.specs.Rows.{Row, column_of, row_at}
use Rattle.wd_value.specs.declared.order.SortColumn.{SortColumn}
use Rattle.wd_value.specs.declared.value.Value.{Value}
use Rattle.wd_sort.specs.declared.known.Known.{Known}
use Rattle.wd_sort.specs.Codes.{ArePairs, AreWhole, IsCodingBelow, pair_code, whole_code}
use Rattle.wd_sort.specs.Known.{AreKnown, AreNumbers, IsAt}
use Rattle.wd_sort.specs.Ranks.{AreRanks}
use Rattle.wd_sort.proofs.WholeCodes.{whole_code_below, whole_codes_compare}

then_none : (o : Ordering) → o ≡ ordering_then o Equal
then_none Less = refl
then_none Equal = refl
then_none Greater = refl

-- ---- two codes in one number compare by the first, and then by the second

rises : (m a b a' b' : ℕ) → b < m → a < a' → a * m + b < a' * m + b'
rises m a b a' b' low h = let e : (a + 1) * m ≤ a' * m = mul-le-mul_right m (omega arith) in omega arith

shifted : (k b b' : ℕ) (o : Ordering) → o ≡ nat_cmp b b' → o ≡ nat_cmp (k + b) (k + b')
shifted k b b' Less e = nat_cmp_is (k + b) (k + b') Less (let r : b < b' = ranked b b' Less e in omega arith)
shifted k b b' Equal e = nat_cmp_is (k + b) (k + b') Equal (let r : b ≡ b' = ranked b b' Equal e in omega arith)
shifted k b b' Greater e = nat_cmp_is (k + b) (k + b') Greater (let r : b' < b = ranked b b' Greater e in omega arith)

by_first : (m a b a' b' : ℕ) → b < m → b' < m → (o : Ordering) → o ≡ nat_cmp a a' → ordering_then o (nat_cmp b b') ≡ nat_cmp (pair_code m a b) (pair_code m a' b')
by_first m a b a' b' low low' Less e = nat_cmp_is (a * m + b) (a' * m + b') Less (rises m a b a' b' low (ranked a a' Less e))
by_first m a b a' b' low low' Equal e = let same : a ≡ a' = ranked a a' Equal e in shifted (a * m) b b' (nat_cmp b b') refl ∙ ap (λ k. nat_cmp (a * m + b) (k * m + b')) same
by_first m a b a' b' low low' Greater e = nat_cmp_is (a * m + b) (a' * m + b') Greater (rises m a' b' a b low' (ranked a a' Greater e))

pair_codes_compare : (m a b a' b' : ℕ) → b < m → b' < m → nat_cmp (pair_code m a b) (pair_code m a' b') ≡ ordering_then (nat_cmp a a') (nat_cmp b b')
pair_codes_compare m a b a' b' low low' = sym (by_first m a b a' b' low low' (nat_cmp a a') refl)

pair_code_below : (a b n m : ℕ) → a < n → b < m → pair_code m a b < n * m
pair_code_below a b n m low low' = let e : (a + 1) * m ≤ n * m = mul-le-mul_right m (omega arith) in omega arith

module _ (rows : List Row) (given : List ℕ) where
  abbrev value_at : SortColumn → ℕ → Value
  value_at column k = column_of (row_at rows (get_or given k 0)) column.column

  pub coding_of_whole : (column : SortColumn) (least greatest : ℤ) (bound : ℕ) (codes : List ℕ) → AreWhole least greatest column.column rows given → bound ≡ unsigned_abs (greatest -ℤ least) + 2 → length codes ≡ length given
      → ((k : ℕ) → k < length given → get_or codes k 0 ≡ whole_code column.key least greatest (value_at column k)) → IsCodingBelow (column ∷ []) rows given bound codes
  coding_of_whole column least greatest bound codes whole bound_is long each = record {
    long = long;
    below = λ k low. rw (bound_is, each k low) (whole_code_below column.key least greatest (value_at column k) (whole k low));
    alike = λ i j low high.
        (λ t. nat_cmp (each i low t) (each j high t))
        ∙ whole_codes_compare column.key least greatest (value_at column i) (value_at column j) (whole i low) (whole j high)
        ∙ then_none _;
  }

  pub coding_of_ranks : (column : SortColumn) (known : Known) (numbers ranks codes : List ℕ) (bound : ℕ) → AreKnown known → AreNumbers known column.column rows given numbers → AreRanks column.key known.values.items ranks → codes ≡ map (λ n. get_or ranks n 0) numbers → bound ≡ length ranks
      → IsCodingBelow (column ∷ []) rows given bound codes
  coding_of_ranks column known numbers ranks codes bound all are r codes_are bound_is =
      let at : (k : ℕ) → k < length given → IsAt known (get_or numbers k 0) (value_at column k) = λ k low. all (value_at column k) (get_or numbers k 0) (are.each k low) in
      let code : (k : ℕ) → k < length given → get_or codes k 0 ≡ get_or ranks (get_or numbers k 0) 0 = λ k low. (let long = are.long in ap (λ l. get_or l k 0) codes_are ∙ get_or-map (λ n. get_or ranks n 0) numbers k 0 0 (omega arith)) in
      record {
        long = ap length codes_are ∙ length-map numbers (λ n. get_or ranks n 0) ∙ are.long;
        below = λ k low. rw (bound_is, r.long, code k low) (r.below (get_or numbers k 0) (at k low).0);
        alike = λ i j low high.
            (λ t. nat_cmp (code i low t) (code j high t))
            ∙ r.alike (get_or numbers i 0) (get_or numbers j 0) (at i low).0 (at j high).0
            ∙ (λ t. compare column.key ((at i low).1 t) ((at j high).1 t))
            ∙ then_none _;
      }

  pub coding_of_pairs : (column : SortColumn) (others : List SortColumn) (b1 b2 bound : ℕ) (c1 c2 codes : List ℕ) → IsCodingBelow (column ∷ []) rows given b1 c1 → IsCodingBelow others rows given b2 c2 → ArePairs c1 c2 b2 codes → bound ≡ b1 * b2 → IsCodingBelow (column ∷ others) rows given bound codes
  coding_of_pairs column others b1 b2 bound c1 c2 codes x y p bound_is =
      let each : (k : ℕ) → k < length given → get_or codes k 0 ≡ pair_code b2 (get_or c1 k 0) (get_or c2 k 0) = λ k low. p.each k (rw x.long low) in
      record {
        long = p.long ∙ x.long;
        below = λ k low. rw (bound_is, each k low) (pair_code_below (get_or c1 k 0) (get_or c2 k 0) b1 b2 (x.below k low) (y.below k low));
        alike = λ i j low high.
            (λ t. nat_cmp (each i low t) (each j high t))
            ∙ pair_codes_compare b2 (get_or c1 i 0) (get_or c2 i 0) (get_or c1 j 0) (get_or c2 j 0) (y.below i low) (y.below j high)
            ∙ (λ t. ordering_then ((x.alike i j low high ∙ sym (then_none _)) t) (y.alike i j low high t));
      }

-- the rest of a list from one place earlier
pub drop_at : {X : Type 0} (xs : List X) (i : ℕ) (d : X) → i < length xs → drop i xs ≡ get_or xs i d ∷ drop (suc i) xs
drop_at [] i d low = absurd (omega arith)
drop_at (x ∷ xs) zero d low = refl
drop_at (x ∷ xs) (suc i) d low = drop_at xs i d (omega arith)
