-- Codes of all rows, from codes of all positions, and at given positions.
use Rattle.std.proofs.Common.{◌≡◌, ◌∙◌, ℕ, ◌<◌, List, [], map, get_or, length, arith}
use Rattle.std.specs.Prelude.{All}
use Rattle.std.specs.Ordering.{nat_cmp}
use Rattle.std.proofs.lemmas.List.{get_or-map}
use Rattle.std.proofs.lemmas.List.Elements.{All-get_or}
use Rattle.std.proofs.lemmas.List.FromFn.{get_or-range_with_len, length-range_with_len}
use Rattle.wd_value.specs.Bags.{positions}
use Rattle.wd_value.specs.Rows.{Row}
use Rattle.wd_value.specs.declared.order.SortColumn.{SortColumn}
use Rattle.wd_sort.specs.AllCodes.{AreCodesOfAll}
use Rattle.wd_sort.specs.Codes.{IsCoding, IsCodingBelow}
use Rattle.wd_sort.specs.Sorting.{compare_rows_at}

position_at : (n p : ℕ) → p < n → get_or (positions n) p 0 ≡ p
position_at n p low = get_or-range_with_len 0 n p 0 low ∙ omega arith

pub AreCodesOfAll-from : (columns : List SortColumn) (rows : List Row) (n bound : ℕ) (codes : List ℕ) → n ≡ length rows → IsCodingBelow columns rows (positions n) bound codes → AreCodesOfAll columns rows bound codes
AreCodesOfAll-from columns rows n bound codes is c =
    let long = length-range_with_len 0 n in
    record {
      long = c.long ∙ long ∙ is;
      below = λ p low. c.below p (omega arith);
      alike = λ p q low high. c.alike p q (omega arith) (omega arith) ∙ (λ t. compare_rows_at columns rows (position_at n p (omega arith) t) (position_at n q (omega arith) t));
    }

-- without columns all rows have one code
pub AreCodesOfAll-none : (rows : List Row) (codes : List ℕ) → length codes ≡ length rows → ((p : ℕ) → p < length codes → get_or codes p 0 ≡ 0) → AreCodesOfAll [] rows 1 codes
AreCodesOfAll-none rows codes long zeros = record {
  long = long;
  below = λ p low. (let z = zeros p (omega arith) in omega arith);
  alike = λ p q low high. (λ t. nat_cmp (zeros p (omega arith) t) (zeros q (omega arith) t));
}

-- the codes at positions
pub IsCoding-at : (columns : List SortColumn) (rows : List Row) (bound : ℕ) (codes given : List ℕ) → AreCodesOfAll columns rows bound codes → All (λ p. p < length codes) given → IsCoding columns rows given (map (λ p. get_or codes p 0) given)
IsCoding-at columns rows bound codes given are within = λ i j low high. (
    let long = are.long in
    let here = All-get_or (λ p. p < length codes) given i 0 low within in
    let there = All-get_or (λ p. p < length codes) given j 0 high within in
    (λ t. nat_cmp (get_or-map (λ p. get_or codes p 0) given i 0 0 low t) (get_or-map (λ p. get_or codes p 0) given j 0 0 high t))
    ∙ are.alike (get_or given i 0) (get_or given j 0) (omega arith) (omega arith))

-- each of them is below the bound
pub codes_below : (bound : ℕ) (codes given : List ℕ) → ((p : ℕ) → p < length codes → get_or codes p 0 < bound) → All (λ p. p < length codes) given → (k : ℕ) → k < length given → get_or (map (λ p. get_or codes p 0) given) k 0 < bound
codes_below bound codes given below within k low =
    let e = get_or-map (λ p. get_or codes p 0) given k 0 0 low in
    let b = below (get_or given k 0) (All-get_or (λ p. p < length codes) given k 0 low within) in
    omega arith
