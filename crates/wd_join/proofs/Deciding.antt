-- Conditions that are true only where two columns are equal.
use Rattle.std.proofs.Common.{◌≡◌, ℕ, zero, suc, ◌+◌, ◌<◌, Bool, true, false, ◌&&◌, List, [], ◌∷◌, ◌++◌, All, length, get_or, Result, Ok, Err, refl, sym, ap, ◌∙◌, arith, inl, inr, Ordering, Less, Equal, Greater}
use Rattle.std.specs.Prelude.{◌⊎◌, Contains}
use Rattle.std.specs.Ordering.{is_eq, ordering_reverse}
use Rattle.std.proofs.lemmas.Bool.{false≢true}
use Rattle.std.proofs.lemmas.List.{append-nil, append_assoc, length-append}
use Rattle.std.proofs.lemmas.List.Elements.{All-append, All-cons, All-contains, All-head, All-nil, All-tail, All-weaker}
use Rattle.wd_value.specs.declared.value.Value.{Value}
use Rattle.wd_value.specs.declared.value.Value.TheVariants.{Null, Int, Text, Bool as Truth}
use Rattle.wd_value.specs.declared.value.Fault.{Fault}
use Rattle.wd_value.specs.Order.{compare_ascending}
use Rattle.wd_value.specs.Rows.{Row, column_of}
use Rattle.wd_value.proofs.OrderLaws.{compare_ascending_total}
use Rattle.wd_plan.specs.declared.expression.ComparisonOp.TheVariants as op
use Rattle.wd_plan.specs.Expressions.{Expression, Column, And, and_result, and_value, comparison, is_null, is_true, value_of}
use Rattle.wd_plan.specs.Faults.{and_then}
use Rattle.wd_plan.specs.Outcomes.{passes}
use Rattle.wd_scalar.specs.Arithmetic.{has_arithmetic}
use Rattle.wd_scalar.proofs.Faultless.{never_faults}
use Rattle.wd_join.specs.declared.matching.JoinColumns.{JoinColumns}
use Rattle.wd_join.specs.Matching.{AreDeciding, AreSides, AreSkippable, AreWhole, Decides, Equates, IsUntrue, agree, equal, equality}

-- ---- columns of a pair

column-left : (l r : Row) (c : ℕ) → c < length l → column_of (l ++ r) c ≡ column_of l c
column-left [] r c h = absurd (omega arith)
column-left (x ∷ l) r zero h = refl
column-left (x ∷ l) r (suc c) h = column-left l r c (omega arith)

column-right : (l r : Row) (c k : ℕ) → k ≡ length l + c → column_of (l ++ r) k ≡ column_of r c
column-right [] r c k h = ap (column_of r) (omega arith)
column-right (x ∷ l) r c zero h = absurd (omega arith)
column-right (x ∷ l) r c (suc k) h = column-right l r c k (omega arith)

-- ---- an equality

eq_reverse : (o : Ordering) → is_eq (ordering_reverse o) ≡ is_eq o
eq_reverse Less = refl
eq_reverse Equal = refl
eq_reverse Greater = refl

pub eq_turned : (v w : Value) → is_eq (compare_ascending v w) ≡ is_eq (compare_ascending w v)
eq_turned v w = ap is_eq (compare_ascending_total.antisymm v w) ∙ eq_reverse (compare_ascending w v)

pub turned : (v w : Value) → comparison op.Equal v w ≡ comparison op.Equal w v
turned Null Null = refl
turned Null (Int n) = refl
turned Null (Text t) = refl
turned Null (Truth b) = refl
turned (Int m) Null = refl
turned (Int m) (Int n) = ap Truth (eq_turned (Int m) (Int n))
turned (Int m) (Text t) = ap Truth (eq_turned (Int m) (Text t))
turned (Int m) (Truth b) = ap Truth (eq_turned (Int m) (Truth b))
turned (Text s) Null = refl
turned (Text s) (Int n) = ap Truth (eq_turned (Text s) (Int n))
turned (Text s) (Text t) = ap Truth (eq_turned (Text s) (Text t))
turned (Text s) (Truth b) = ap Truth (eq_turned (Text s) (Truth b))
turned (Truth p) Null = refl
turned (Truth p) (Int n) = ap Truth (eq_turned (Truth p) (Int n))
turned (Truth p) (Text t) = ap Truth (eq_turned (Truth p) (Text t))
turned (Truth p) (Truth b) = ap Truth (eq_turned (Truth p) (Truth b))

-- NULL where a side is NULL, else a truth value
is_verdict : (v w : Value) → ((comparison op.Equal v w ≡ Null) × ((is_null v ≡ true) ⊎ (is_null w ≡ true))) ⊎ (comparison op.Equal v w ≡ Truth (is_eq (compare_ascending v w)))
is_verdict Null w = inl (refl, inl refl)
is_verdict (Int m) Null = inl (refl, inr refl)
is_verdict (Int m) (Int n) = inr refl
is_verdict (Int m) (Text t) = inr refl
is_verdict (Int m) (Truth b) = inr refl
is_verdict (Text s) Null = inl (refl, inr refl)
is_verdict (Text s) (Int n) = inr refl
is_verdict (Text s) (Text t) = inr refl
is_verdict (Text s) (Truth b) = inr refl
is_verdict (Truth p) Null = inl (refl, inr refl)
is_verdict (Truth p) (Int n) = inr refl
is_verdict (Truth p) (Text t) = inr refl
is_verdict (Truth p) (Truth b) = inr refl

-- columns of a pair that a row follows
at_left : (l r x : Row) (c : ℕ) → c < length l → column_of ((l ++ r) ++ x) c ≡ column_of l c
at_left l r x c h =
    let long = length-append l r in
    column-left (l ++ r) x c (omega arith) ∙ column-left l r c h

at_right : (l r x : Row) (c k : ℕ) → k ≡ length l + c → c < length r → column_of ((l ++ r) ++ x) k ≡ column_of r c
at_right l r x c k is h =
    let long = length-append l r in
    column-left (l ++ r) x k (omega arith) ∙ column-right l r c k is

module _ (left right : ℕ) (c : JoinColumns) where
  pub Equates-columns : (a b : ℕ) → AreSides left right a b c → Equates left right (equality (Column a) (Column b)) c
  Equates-columns a b sides l r x l-long r-long =
      let l-within : c.left < length l = omega (arith, sides.0, l-long) in
      let r-within : c.right < length r = omega (arith, sides.1, r-long) in
      elim sides.2 [
        | inl is ↦ (
            let first = ap (column_of ((l ++ r) ++ x)) is.0 ∙ at_left l r x c.left l-within in
            let second = at_right l r x c.right b (omega (arith, is.1, l-long)) r-within in
            λ i. Ok (comparison op.Equal (first i) (second i)))
        | inr is ↦ (
            let first = ap (column_of ((l ++ r) ++ x)) is.0 ∙ at_left l r x c.left l-within in
            let second = at_right l r x c.right a (omega (arith, is.1, l-long)) r-within in
            (λ i. Ok (comparison op.Equal (second i) (first i))) ∙ ap Ok (turned (column_of r c.right) (column_of l c.left)))
      ]

  pub Decides-equality : (e : Expression) → Equates left right e c → Decides left right e c
  Decides-equality e is = record {
    where_false = λ l r x l-long r-long h. is l r x l-long r-long ∙ ap Ok h;
    where_null = λ l r x l-long r-long h. ap passes (is l r x l-long r-long ∙ ap Ok h);
  }

-- ---- conjuncts

untrue-left : (v w : Value) → is_true v ≡ false → is_true (and_value v w) ≡ false
untrue-left (Truth true) w h = absurd (false≢true (sym h))
untrue-left (Truth false) w h = refl
untrue-left Null Null h = refl
untrue-left Null (Int n) h = refl
untrue-left Null (Text t) h = refl
untrue-left Null (Truth true) h = refl
untrue-left Null (Truth false) h = refl
untrue-left (Int m) Null h = refl
untrue-left (Int m) (Int n) h = refl
untrue-left (Int m) (Text t) h = refl
untrue-left (Int m) (Truth true) h = refl
untrue-left (Int m) (Truth false) h = refl
untrue-left (Text s) Null h = refl
untrue-left (Text s) (Int n) h = refl
untrue-left (Text s) (Text t) h = refl
untrue-left (Text s) (Truth true) h = refl
untrue-left (Text s) (Truth false) h = refl

untrue-right : (v w : Value) → is_true w ≡ false → is_true (and_value v w) ≡ false
untrue-right (Truth true) (Truth b) h = h
untrue-right (Truth true) Null h = refl
untrue-right (Truth true) (Int n) h = refl
untrue-right (Truth true) (Text t) h = refl
untrue-right (Truth false) w h = untrue-left (Truth false) w refl
untrue-right Null w h = untrue-left Null w refl
untrue-right (Int m) w h = untrue-left (Int m) w refl
untrue-right (Text s) w h = untrue-left (Text s) w refl

-- an AND whose right side has a value, or a fault
by_right : (v : Value) (y : Result Value Fault) → ((w : Value) → y ≡ Ok w → is_true (and_value v w) ≡ false) → passes (and_result v y) ≡ false
by_right (Truth false) y h = refl
by_right (Truth true) (Err f) h = refl
by_right (Truth true) (Ok w) h = h w refl
by_right Null (Err f) h = refl
by_right Null (Ok w) h = h w refl
by_right (Int n) (Err f) h = refl
by_right (Int n) (Ok w) h = h w refl
by_right (Text t) (Err f) h = refl
by_right (Text t) (Ok w) h = h w refl

passes-left : (x y : Result Value Fault) → passes x ≡ false → passes (and_then x (λ v. and_result v y)) ≡ false
passes-left (Err f) y h = refl
passes-left (Ok v) y h = by_right v y (λ w e. untrue-left v w h)

passes-right : (x y : Result Value Fault) → passes y ≡ false → passes (and_then x (λ v. and_result v y)) ≡ false
passes-right (Err f) y h = refl
passes-right (Ok v) y h = by_right v y (λ w e. untrue-right v w (ap passes (sym e) ∙ h))

false-right : (v : Value) → and_result v (Ok (Truth false)) ≡ Ok (Truth false)
false-right (Truth true) = refl
false-right (Truth false) = refl
false-right Null = refl
false-right (Int n) = refl
false-right (Text t) = refl

module _ (left right : ℕ) (a b : Expression) where
  pub Decides-left : (c : JoinColumns) → Decides left right a c → Decides left right (And a b) c
  Decides-left c d = record {
    where_false = λ l r x l-long r-long e. ap (λ y. and_then y (λ v. and_result v (value_of b ((l ++ r) ++ x)))) (d.where_false l r x l-long r-long e);
    where_null = λ l r x l-long r-long e. passes-left (value_of a ((l ++ r) ++ x)) (value_of b ((l ++ r) ++ x)) (d.where_null l r x l-long r-long e);
  }

  pub Decides-right : has_arithmetic a ≡ false → (c : JoinColumns) → Decides left right b c → Decides left right (And a b) c
  Decides-right sure c d = record {
    where_false = λ l r x l-long r-long e. (
        let value = never_faults a ((l ++ r) ++ x) sure in
        (λ i. and_then (value.1 i) (λ v. and_result v (d.where_false l r x l-long r-long e i))) ∙ false-right value.0);
    where_null = λ l r x l-long r-long e. passes-right (value_of a ((l ++ r) ++ x)) (value_of b ((l ++ r) ++ x)) (d.where_null l r x l-long r-long e);
  }

-- ---- columns, put after those that are there

pub AreDeciding-none : (left right : ℕ) (e : Expression) (columns : List JoinColumns) → AreDeciding left right e columns columns
AreDeciding-none left right e columns = record { own = []; grown = sym (append-nil columns); each = All-nil (Decides left right e) }

pub AreDeciding-one : (left right : ℕ) (e : Expression) (columns : List JoinColumns) (c : JoinColumns) → Decides left right e c → AreDeciding left right e columns (columns ++ c ∷ [])
AreDeciding-one left right e columns c d = record { own = c ∷ []; grown = refl; each = All-cons (Decides left right e) c [] d (All-nil (Decides left right e)) }

module _ (left right : ℕ) (a b : Expression) (old middle new : List JoinColumns) where
  pub AreDeciding-left : AreDeciding left right a old new → AreDeciding left right (And a b) old new
  AreDeciding-left d = record { own = d.own; grown = d.grown; each = All-weaker (Decides left right a) (Decides left right (And a b)) (Decides-left left right a b) d.own d.each }

  pub AreDeciding-both : has_arithmetic a ≡ false → AreDeciding left right a old middle → AreDeciding left right b middle new → AreDeciding left right (And a b) old new
  AreDeciding-both sure first second = record {
    own = first.own ++ second.own;
    grown = second.grown ∙ ap (λ cs. cs ++ second.own) first.grown ∙ append_assoc old first.own second.own;
    each = All-append (Decides left right (And a b)) first.own second.own
        (All-weaker (Decides left right a) (Decides left right (And a b)) (Decides-left left right a b) first.own first.each)
        (All-weaker (Decides left right b) (Decides left right (And a b)) (Decides-right left right a b sure) second.own second.each);
  }

-- ---- pairs that do not agree

module _ (left right : ℕ) (e : Expression) (l r x : Row) (l-long : length l ≡ left) (r-long : length r ≡ right) where
  abbrev Untrue : Type 0
  Untrue = IsUntrue (value_of e ((l ++ r) ++ x))

  where_told : (c : JoinColumns) → Decides left right e c → is_true (equal c l r) ≡ false → (b : Bool) → equal c l r ≡ Truth b → Untrue
  where_told c d apart true is = absurd (false≢true (sym apart ∙ ap is_true is))
  where_told c d apart false is = (Truth false, d.where_false l r x l-long r-long is, refl)

  untrue-faultless : has_arithmetic e ≡ false → (c : JoinColumns) → Decides left right e c → is_true (equal c l r) ≡ false → Untrue
  untrue-faultless sure c d apart = elim (is_verdict (column_of l c.left) (column_of r c.right)) [
    | inl none ↦ (let value = never_faults e ((l ++ r) ++ x) sure in (value.0, value.1, ap passes (sym value.1) ∙ d.where_null l r x l-long r-long none.0))
    | inr is ↦ where_told c d apart _ is
  ]

  untrue-whole : (c : JoinColumns) → Decides left right e c → is_null (column_of l c.left) ≡ false → is_null (column_of r c.right) ≡ false → is_true (equal c l r) ≡ false → Untrue
  untrue-whole c d l-whole r-whole apart = elim (is_verdict (column_of l c.left) (column_of r c.right)) [
    | inl none ↦ elim none.1 [
      | inl is ↦ absurd (false≢true (sym l-whole ∙ is))
      | inr is ↦ absurd (false≢true (sym r-whole ∙ is))
    ]
    | inr is ↦ where_told c d apart _ is
  ]

-- a pair that does not agree differs in one of the columns
differs : {X : Type 0} (l r : Row) (columns : List JoinColumns) → All (λ c. is_true (equal c l r) ≡ false → X) columns → agree columns l r ≡ false → X
differs l r [] all h = absurd (false≢true (sym h))
differs {X} l r (c ∷ columns) all h = by (is_true (equal c l r)) refl (differs l r columns (All-tail (λ c. is_true (equal c l r) ≡ false → X) c columns all))
  where
    by : (b : Bool) → is_true (equal c l r) ≡ b → (agree columns l r ≡ false → X) → X
    by false is rest = All-head (λ c. is_true (equal c l r) ≡ false → X) c columns all is
    by true is rest = rest (sym (ap (λ b. b && agree columns l r) is) ∙ h)

module _ (left right : ℕ) (e : Expression) (columns : List JoinColumns) (ls rs : List Row) (l-wide : All (λ l. length l ≡ left) ls) (r-wide : All (λ r. length r ≡ right) rs) where
  pub AreSkippable-faultless : All (Decides left right e) columns → has_arithmetic e ≡ false → AreSkippable e columns ls rs
  AreSkippable-faultless all sure = λ i d i-within j f j-within apart x. (
      let l = get_or ls i d in
      let r = get_or rs j f in
      differs l r columns (All-weaker (Decides left right e) (λ c. is_true (equal c l r) ≡ false → IsUntrue (value_of e ((l ++ r) ++ x))) (untrue-faultless left right e l r x (l-wide i d i-within) (r-wide j f j-within) sure) columns all) apart)

  pub AreSkippable-whole : (whole : List JoinColumns) → All (Decides left right e) columns → All (λ c. Contains columns c × AreWhole c ls rs) whole → AreSkippable e whole ls rs
  AreSkippable-whole whole all told = λ i d i-within j f j-within apart x. (
      let l = get_or ls i d in
      let r = get_or rs j f in
      differs l r whole (All-weaker (λ c. Contains columns c × AreWhole c ls rs) (λ c. is_true (equal c l r) ≡ false → IsUntrue (value_of e ((l ++ r) ++ x)))
      (λ c h. untrue-whole left right e l r x (l-wide i d i-within) (r-wide j f j-within) c (All-contains (Decides left right e) columns c all h.0) (h.1.0 i d i-within) (h.1.1 j f j-within)) whole told) apart)

-- without columns each pair agrees
pub AreSkippable-none : (e : Expression) (ls rs : List Row) → AreSkippable e [] ls rs
AreSkippable-none e ls rs = λ i d i-within j f j-within apart x. absurd (false≢true (sym apart))
