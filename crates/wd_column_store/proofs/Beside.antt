-- Rows extended by a column's values, one row after another.
use Rattle.std.proofs.Common.{◌≡◌, ℕ, suc, ◌+◌, ◌<◌, ◌≤◌, List, [], ◌∷◌, ◌++◌, length, get_or, set, Option, Some, None, refl, sym, ap, ◌∙◌, arith, zero-add, inl, inr}
use Rattle.std.specs.Option.{option_to_list, unwrap_or}
use Rattle.std.specs.Prelude.{MatchOption}
use Rattle.std.proofs.lemmas.Bool.{cases_eq, cases_lt}
use Rattle.std.proofs.lemmas.List.{ext_get_or, get_or-map, get_or-set_same, length-set}
use Rattle.std.proofs.lemmas.List.FromFn.{get_or-map-range_with_len, length-map-range_with_len}
use Rattle.std.specs.declared.alloc.Global.{Global}
use Rattle.std.specs.declared.vec.Vec.{Vec}
use Rattle.wd_value.specs.declared.value.Value.{Value}
use Rattle.wd_value.specs.declared.value.Value.TheVariants.{Null}
use Rattle.wd_value.specs.Rows.{Row, row_at, rows_of}
use Rattle.wd_column_store.specs.Along.{with_values}
use Rattle.wd_column_store.proofs.Places.{items}

-- a row with a value more
pub pushed : (rows : List (Vec Value Global)) (i : ℕ) (old row : Vec Value Global) (v : Value) → i < length rows → old ≡ get_or rows i old → row.items ≡ old.items ++ v ∷ [] → row_at (rows_of (set rows i row)) i ≡ row_at (rows_of rows) i ++ v ∷ []
pushed rows i old row v h is grown =
    let long = length-set rows i row in
    get_or-map items (set rows i row) i row [] (omega arith) ∙ ap items (get_or-set_same rows i row row h) ∙ grown
    ∙ ap (λ r. r ++ v ∷ []) (sym (get_or-map items rows i old [] h ∙ ap items (sym is)))

-- ---- the values that are left

-- so many are left, those from the nth on
pub record AreLeft (values : List Value) (n : ℕ) (left : List Value) (count : ℕ) : Type 0 where
  pub many : count ≡ length left
  pub each : (k : ℕ) → get_or left k Null ≡ get_or values (n + k) Null

pub AreLeft-all : (values left : List Value) (count : ℕ) → left ≡ values → count ≡ length values → AreLeft values 0 left count
AreLeft-all values left count all many = record { many = many ∙ sym (ap length all); each = λ k. ap (λ vs. get_or vs k Null) all ∙ ap (λ m. get_or values m Null) (sym (zero-add k)) }

none_left : {X : Type 0} (xs : List X) → length xs ≡ 0 → xs ≡ []
none_left [] h = refl
none_left (x ∷ xs) h = absurd (omega arith)

-- the next is taken
pub record IsNext (values : List Value) (n : ℕ) (v : Value) (left : List Value) (count : ℕ) : Type 0 where
  pub is : v ≡ get_or values n Null
  pub others : AreLeft values (n + 1) left count

pub next_left : (values : List Value) (n : ℕ) (old new : List Value) (count fewer : ℕ) (next : Option Value) → AreLeft values n old count → old ≡ option_to_list next ++ new
    → MatchOption next ((count ≡ 0) × (fewer ≡ 0)) (λ v. (old ≡ v ∷ new) × (fewer + 1 ≡ count)) → IsNext values n (unwrap_or next Null) new fewer
next_left values n old new count fewer None are moved step =
    let many = are.many in
    let counted = step.0 in
    let empty : old ≡ [] = none_left old (omega arith) in
    let same = ap length (sym moved ∙ empty) in
    let gone = step.1 in
    record {
      is = ap (λ vs. get_or vs 0 Null) (sym empty) ∙ are.each 0 ∙ ap (λ m. get_or values m Null) (omega arith);
      others = record {
        many = omega arith;
        each = λ k. ap (λ vs. get_or vs k Null) (sym moved ∙ empty) ∙ ap (λ vs. get_or vs (suc k) Null) (sym empty) ∙ are.each (suc k) ∙ ap (λ m. get_or values m Null) (omega arith);
      };
    }
next_left values n old new count fewer (Some v) are moved step =
    let many = are.many in
    let size = ap length step.0 in
    let gone = step.1 in
    record {
      is = ap (λ vs. get_or vs 0 Null) (sym step.0) ∙ are.each 0 ∙ ap (λ m. get_or values m Null) (omega arith);
      others = record {
        many = omega arith;
        each = λ k. ap (λ vs. get_or vs (suc k) Null) (sym step.0) ∙ are.each (suc k) ∙ ap (λ m. get_or values m Null) (omega arith);
      };
    }

-- ---- the rows

-- the first n rows have their values after them
pub record ArePushed (given : List Row) (values : List Value) (n : ℕ) (rows : List Row) : Type 0 where
  pub long : length rows ≡ length given
  pub done : (p : ℕ) → p < n → row_at rows p ≡ row_at given p ++ get_or values p Null ∷ []
  pub later : (p : ℕ) → n ≤ p → row_at rows p ≡ row_at given p

pub ArePushed-none : (given : List Row) (values : List Value) → ArePushed given values 0 given
ArePushed-none given values = record { long = refl; done = λ p l. absurd (omega arith); later = λ p l. refl }

module _ (given : List Row) (values : List Value) (n : ℕ) (rows : List Row) (are : ArePushed given values n rows) where
  pub ArePushed-more : (new : List Row) (v : Value) → length new ≡ length rows → v ≡ get_or values n Null → row_at new n ≡ row_at rows n ++ v ∷ [] → ((p : ℕ) → (p ≡ n → ⊥) → row_at new p ≡ row_at rows p) → ArePushed given values (n + 1) new
  ArePushed-more new v long is here others = record {
    long = long ∙ are.long;
    done = λ p l. elim (cases_eq p n) [
      | inl same ↦ (
          ap (row_at new) same ∙ here ∙ (λ i. are.later n (omega arith) i ++ is i ∷ []) ∙ ap (λ q. row_at given q ++ get_or values q Null ∷ []) (sym same))
      | inr apart ↦ others p apart ∙ are.done p (let less = cases_lt p n in omega (arith, apart))
    ];
    later = λ p l. others p (λ e. omega arith) ∙ are.later p (omega arith);
  }

  pub ArePushed-all : n ≡ length given → rows ≡ with_values given values
  ArePushed-all all =
      let row = λ (p : ℕ). row_at given p ++ get_or values p Null ∷ [] in
      let wide = length-map-range_with_len row 0 (length given) in
      let long = are.long in
      ext_get_or [] rows (with_values given values) (omega arith) (λ p l. (
      let there : p < length given = omega arith in
      are.done p (omega arith) ∙ sym (get_or-map-range_with_len row 0 (length given) p p [] there (zero-add p))))
