-- What a condition that is true says of the columns.
use Rattle.std.proofs.Common.{◌≡◌, ℕ, ◌<◌, Bool, true, false, not, List, [], ◌∷◌, length, refl, sym, ◌∙◌, ap, Result, Ok, Err, ⊎_elim, Ordering, Less, Equal, Greater}
use Rattle.std.specs.List.{AllByRecursion}
use Rattle.std.specs.Ordering.{is_eq}
use Rattle.std.proofs.lemmas.Bool.{eqb-true, or_cases, false≢true}
use Rattle.wd_value.specs.declared.value.Value.{Value}
use Rattle.wd_value.specs.declared.value.Value.TheVariants.{Null, Int, Text, Bool as Truth}
use Rattle.wd_value.specs.declared.value.Fault.{Fault}
use Rattle.wd_value.specs.Rows.{Row as RowValues, column_of, row_at}
use Rattle.wd_value.proofs.OrderLaws.{compare-exact}
use Rattle.wd_plan.specs.declared.expression.ComparisonOp.{ComparisonOp}
use Rattle.wd_plan.specs.declared.expression.ComparisonOp.TheVariants as op
use Rattle.wd_plan.specs.Expressions.{Expression, Column, Literal, Negate, Arithmetic, Compare, Not, And, Or, IsNull, IsNotNull, Case, and_result, and_value, comparison, is_null, is_true, value_of}
use Rattle.wd_plan.specs.Faults.{and_then}
use Rattle.wd_plan.specs.Outcomes.{passes}
use Rattle.wd_step_facts.specs.Facts.{Paired, Holds}
use Rattle.wd_step_facts.specs.Steps.{Side, Plain, Fixed, Other, column_fact, comparison_facts, conjunct_facts, conjuncts, equality_facts, facts_of_conjuncts, fixed_fact, is_side, null_facts, rules_out_null, side_of, some_rules_out_null}
use Rattle.wd_facts.proofs.Lists.{all_append}

abbrev pub IsTrueAt : Expression → RowValues → Type 0
IsTrueAt e row = passes (value_of e row) ≡ true

-- ---- AND

and_second : (y : Result Value Fault) → passes (and_then y (λ b. Ok (and_value (Truth true) b))) ≡ true → passes y ≡ true
and_second (Ok (Truth true)) e = refl
and_second (Ok (Truth false)) e = e
and_second (Ok Null) e = e
and_second (Ok (Int n)) e = e
and_second (Ok (Text t)) e = e
and_second (Err f) e = e

and_null : (y : Result Value Fault) → passes (and_then y (λ b. Ok (and_value Null b))) ≡ true → ⊥
and_null (Ok (Truth true)) e = false≢true e
and_null (Ok (Truth false)) e = false≢true e
and_null (Ok Null) e = false≢true e
and_null (Ok (Int n)) e = false≢true e
and_null (Ok (Text t)) e = false≢true e
and_null (Err f) e = false≢true e

and_int : (m : _) (y : Result Value Fault) → passes (and_then y (λ b. Ok (and_value (Int m) b))) ≡ true → ⊥
and_int m (Ok (Truth true)) e = false≢true e
and_int m (Ok (Truth false)) e = false≢true e
and_int m (Ok Null) e = false≢true e
and_int m (Ok (Int n)) e = false≢true e
and_int m (Ok (Text t)) e = false≢true e
and_int m (Err f) e = false≢true e

and_text : (m : _) (y : Result Value Fault) → passes (and_then y (λ b. Ok (and_value (Text m) b))) ≡ true → ⊥
and_text m (Ok (Truth true)) e = false≢true e
and_text m (Ok (Truth false)) e = false≢true e
and_text m (Ok Null) e = false≢true e
and_text m (Ok (Int n)) e = false≢true e
and_text m (Ok (Text t)) e = false≢true e
and_text m (Err f) e = false≢true e

and_true : (x y : Result Value Fault) → passes (and_then x (λ v. and_result v y)) ≡ true → (passes x ≡ true) × (passes y ≡ true)
and_true (Err f) y e = absurd (false≢true e)
and_true (Ok (Truth true)) y e = (refl, and_second y e)
and_true (Ok (Truth false)) y e = absurd (false≢true e)
and_true (Ok Null) y e = absurd (and_null y e)
and_true (Ok (Int n)) y e = absurd (and_int n y e)
and_true (Ok (Text t)) y e = absurd (and_text t y e)

-- each conjunct of a true condition is true
pub conjuncts_true : (row : RowValues) (e : Expression) → IsTrueAt e row → AllByRecursion (λ c. IsTrueAt c row) (conjuncts e)
conjuncts_true row (Column c) h = (h, tt)
conjuncts_true row (Literal v kind) h = (h, tt)
conjuncts_true row (Negate a) h = (h, tt)
conjuncts_true row (Arithmetic o a b) h = (h, tt)
conjuncts_true row (Compare o a b) h = (h, tt)
conjuncts_true row (Not a) h = (h, tt)
conjuncts_true row (And a b) h =
    let parts = and_true (value_of a row) (value_of b row) h in
    all_append (λ c. IsTrueAt c row) (conjuncts a) (conjuncts b) (conjuncts_true row a parts.0) (conjuncts_true row b parts.1)
conjuncts_true row (Or a b) h = (h, tt)
conjuncts_true row (IsNull a) h = (h, tt)
conjuncts_true row (IsNotNull a) h = (h, tt)
conjuncts_true row (Case k a b c) h = (h, tt)

-- ---- comparisons

truth_is : (b : Bool) → is_true (Truth b) ≡ true → b ≡ true
truth_is true e = refl
truth_is false e = absurd (false≢true e)

eq_is : (o : Ordering) → is_eq o ≡ true → o ≡ Equal
eq_is Less e = absurd (false≢true e)
eq_is Equal e = refl
eq_is Greater e = absurd (false≢true e)

equal_is : (v w : Value) → is_true (comparison op.Equal v w) ≡ true → v ≡ w
equal_is Null w e = absurd (false≢true e)
equal_is (Int m) Null e = absurd (false≢true e)
equal_is (Int m) (Int n) e = compare-exact (record { desc = false; nulls_first = false }) (Int m) (Int n) (eq_is _ (truth_is _ e))
equal_is (Int m) (Text n) e = compare-exact (record { desc = false; nulls_first = false }) (Int m) (Text n) (eq_is _ (truth_is _ e))
equal_is (Int m) (Truth n) e = compare-exact (record { desc = false; nulls_first = false }) (Int m) (Truth n) (eq_is _ (truth_is _ e))
equal_is (Text m) Null e = absurd (false≢true e)
equal_is (Text m) (Int n) e = compare-exact (record { desc = false; nulls_first = false }) (Text m) (Int n) (eq_is _ (truth_is _ e))
equal_is (Text m) (Text n) e = compare-exact (record { desc = false; nulls_first = false }) (Text m) (Text n) (eq_is _ (truth_is _ e))
equal_is (Text m) (Truth n) e = compare-exact (record { desc = false; nulls_first = false }) (Text m) (Truth n) (eq_is _ (truth_is _ e))
equal_is (Truth m) Null e = absurd (false≢true e)
equal_is (Truth m) (Int n) e = compare-exact (record { desc = false; nulls_first = false }) (Truth m) (Int n) (eq_is _ (truth_is _ e))
equal_is (Truth m) (Text n) e = compare-exact (record { desc = false; nulls_first = false }) (Truth m) (Text n) (eq_is _ (truth_is _ e))
equal_is (Truth m) (Truth n) e = compare-exact (record { desc = false; nulls_first = false }) (Truth m) (Truth n) (eq_is _ (truth_is _ e))

left_not_null : (o : ComparisonOp) (v w : Value) → is_true (comparison o v w) ≡ true → is_null v ≡ false
left_not_null o Null w e = absurd (false≢true e)
left_not_null o (Int m) w e = refl
left_not_null o (Text m) w e = refl
left_not_null o (Truth m) w e = refl

right_not_null : (o : ComparisonOp) (v w : Value) → is_true (comparison o v w) ≡ true → is_null w ≡ false
right_not_null o Null Null e = absurd (false≢true e)
right_not_null o (Int m) Null e = absurd (false≢true e)
right_not_null o (Text m) Null e = absurd (false≢true e)
right_not_null o (Truth m) Null e = absurd (false≢true e)
right_not_null o v (Int m) e = refl
right_not_null o v (Text m) e = refl
right_not_null o v (Truth m) e = refl

-- the two values of a comparison that is true
record Compared (o : ComparisonOp) (x y : Result Value Fault) : Type 0 where
  first : Value
  second : Value
  first_is : x ≡ Ok first
  second_is : y ≡ Ok second
  holds : is_true (comparison o first second) ≡ true

compared : (o : ComparisonOp) (x y : Result Value Fault) → passes (and_then x (λ v. and_then y (λ w. Ok (comparison o v w)))) ≡ true → Compared o x y
compared o (Err f) y e = absurd (false≢true e)
compared o (Ok v) (Err f) e = absurd (false≢true e)
compared o (Ok v) (Ok w) e = record { first = v; second = w; first_is = refl; second_is = refl; holds = e }

-- ---- sides

abbrev pub Says : Side → Expression → Type 0
Says (Plain c) e = (row : RowValues) → value_of e row ≡ Ok (column_of row c)
Says (Fixed v) e = (row : RowValues) → value_of e row ≡ Ok v
Says Other e = Unit {0}

pub says : (e : Expression) → Says (side_of e) e
says (Column c) = λ row. refl
says (Literal v kind) = λ row. refl
says (Negate a) = tt
says (Arithmetic o a b) = tt
says (Compare o a b) = tt
says (Not a) = tt
says (And a b) = tt
says (Or a b) = tt
says (IsNull a) = tt
says (IsNotNull a) = tt
says (Case k a b c) = tt

ok_is : (v w : Value) → ◌≡◌ {A = Result Value Fault} (Ok v) (Ok w) → v ≡ w
ok_is v w e = cc

-- the value of a side
side_value : (c : ℕ) (e : Expression) (row : RowValues) (v : Value) → Says (Plain c) e → value_of e row ≡ Ok v → column_of row c ≡ v
side_value c e row v s h = ok_is (column_of row c) v (sym (s row) ∙ h)

fixed_value : (u : Value) (e : Expression) (row : RowValues) (v : Value) → Says (Fixed u) e → value_of e row ≡ Ok v → v ≡ u
fixed_value u e row v s h = ok_is v u (sym h ∙ s row)

module _ (n : Paired) where
  -- the column has one value
  fixed_holds : (c : ℕ) (v : Value) → ((p : ℕ) → p < length n.rows → column_of (row_at n.rows p) c ≡ v) → Holds n (fixed_fact c)
  fixed_holds c v h p q k l a = (h p k ∙ sym (h q l), tt)

  equal_holds : (c d : ℕ) → ((p : ℕ) → p < length n.rows → column_of (row_at n.rows p) c ≡ column_of (row_at n.rows p) d) → Holds n (column_fact c d)
  equal_holds c d h p q k l a = (sym (h p k) ∙ a.0 ∙ h q l, tt)

  -- both sides have one value at each row
  abbrev AreEqual : Expression → Expression → Type 0
  AreEqual a b = (p : ℕ) → p < length n.rows → (v : Value) × (value_of a (row_at n.rows p) ≡ Ok v) × (value_of b (row_at n.rows p) ≡ Ok v)

  equality_holds : (a b : Expression) (s t : Side) → Says s a → Says t b → AreEqual a b → AllByRecursion (Holds n) (equality_facts s t)
  equality_holds a b (Plain c) (Plain d) u v h =
      let one : (p : ℕ) → p < length n.rows → column_of (row_at n.rows p) c ≡ column_of (row_at n.rows p) d = λ p k. side_value c a (row_at n.rows p) (h p k).0 u (h p k).1 ∙ sym (side_value d b (row_at n.rows p) (h p k).0 v (h p k).2) in
      (equal_holds c d one, (equal_holds d c (λ p k. sym (one p k)), tt))
  equality_holds a b (Plain c) (Fixed w) u v h = (fixed_holds c w (λ p k. side_value c a (row_at n.rows p) (h p k).0 u (h p k).1 ∙ fixed_value w b (row_at n.rows p) (h p k).0 v (h p k).2), tt)
  equality_holds a b (Plain c) Other u v h = tt
  equality_holds a b (Fixed w) (Plain d) u v h = (fixed_holds d w (λ p k. side_value d b (row_at n.rows p) (h p k).0 v (h p k).2 ∙ fixed_value w a (row_at n.rows p) (h p k).0 u (h p k).1), tt)
  equality_holds a b (Fixed w) (Fixed x) u v h = tt
  equality_holds a b (Fixed w) Other u v h = tt
  equality_holds a b Other (Plain d) u v h = tt
  equality_holds a b Other (Fixed w) u v h = tt
  equality_holds a b Other Other u v h = tt

  abbrev pub AreTrue : Expression → Type 0
  AreTrue e = (p : ℕ) → p < length n.rows → IsTrueAt e (row_at n.rows p)

  comparison_holds : (o : ComparisonOp) (a b : Expression) → AreTrue (Compare o a b) → AllByRecursion (Holds n) (comparison_facts o (side_of a) (side_of b))
  comparison_holds op.Equal a b h = equality_holds a b (side_of a) (side_of b) (says a) (says b) (λ p k.
      let c = compared op.Equal (value_of a (row_at n.rows p)) (value_of b (row_at n.rows p)) (h p k) in
      (c.first, c.first_is, c.second_is ∙ ap (λ v. Ok v) (sym (equal_is c.first c.second c.holds))))
  comparison_holds op.NotEqual a b h = tt
  comparison_holds op.Less a b h = tt
  comparison_holds op.LessOrEqual a b h = tt
  comparison_holds op.Greater a b h = tt
  comparison_holds op.GreaterOrEqual a b h = tt

  is_null_value : (x : Result Value Fault) → passes (and_then x (λ v. Ok (Truth (is_null v)))) ≡ true → x ≡ Ok Null
  is_null_value (Err f) e = absurd (false≢true e)
  is_null_value (Ok Null) e = refl
  is_null_value (Ok (Int m)) e = absurd (false≢true e)
  is_null_value (Ok (Text m)) e = absurd (false≢true e)
  is_null_value (Ok (Truth m)) e = absurd (false≢true e)

  null_holds : (a : Expression) (s : Side) → Says s a → AreTrue (IsNull a) → AllByRecursion (Holds n) (null_facts s)
  null_holds a (Plain c) u h = (fixed_holds c Null (λ p k. side_value c a (row_at n.rows p) Null u (is_null_value (value_of a (row_at n.rows p)) (h p k))), tt)
  null_holds a (Fixed v) u h = tt
  null_holds a Other u h = tt

  conjunct_holds : (e : Expression) → AreTrue e → AllByRecursion (Holds n) (conjunct_facts e)
  conjunct_holds (Column c) h = tt
  conjunct_holds (Literal v kind) h = tt
  conjunct_holds (Negate a) h = tt
  conjunct_holds (Arithmetic o a b) h = tt
  conjunct_holds (Compare o a b) h = comparison_holds o a b h
  conjunct_holds (Not a) h = tt
  conjunct_holds (And a b) h = tt
  conjunct_holds (Or a b) h = tt
  conjunct_holds (IsNull a) h = null_holds a (side_of a) (says a) h
  conjunct_holds (IsNotNull a) h = tt
  conjunct_holds (Case k a b c) h = tt

  -- the facts of conjuncts that are true at each row
  pub conjuncts_hold : (es : List Expression) → ((p : ℕ) → p < length n.rows → AllByRecursion (λ e. IsTrueAt e (row_at n.rows p)) es) → AllByRecursion (Holds n) (facts_of_conjuncts es)
  conjuncts_hold [] h = tt
  conjuncts_hold (e ∷ es) h = all_append (Holds n) (conjunct_facts e) (facts_of_conjuncts es) (conjunct_holds e (λ p k. (h p k).0)) (conjuncts_hold es (λ p k. (h p k).1))

-- ---- columns that are no NULL

side_not_null : (c : ℕ) (a : Expression) (s : Side) (row : RowValues) (v : Value) → Says s a → is_side c s ≡ true → value_of a row ≡ Ok v → is_null v ≡ false → is_null (column_of row c) ≡ false
side_not_null c a (Plain d) row v u e h m = ap (λ x. is_null (column_of row x)) (eqb-true c d e) ∙ ap is_null (side_value d a row v u h) ∙ m
side_not_null c a (Fixed w) row v u e h m = absurd (false≢true e)
side_not_null c a Other row v u e h m = absurd (false≢true e)

not_null_value : (x : Result Value Fault) → passes (and_then x (λ v. Ok (Truth (not (is_null v))))) ≡ true → (v : Value) × (x ≡ Ok v) × (is_null v ≡ false)
not_null_value (Err f) e = absurd (false≢true e)
not_null_value (Ok Null) e = absurd (false≢true e)
not_null_value (Ok (Int m)) e = (Int m, refl, refl)
not_null_value (Ok (Text m)) e = (Text m, refl, refl)
not_null_value (Ok (Truth m)) e = (Truth m, refl, refl)

ruled_out : (c : ℕ) (row : RowValues) (e : Expression) → IsTrueAt e row → rules_out_null c e ≡ true → is_null (column_of row c) ≡ false
ruled_out c row (Column d) h e = absurd (false≢true e)
ruled_out c row (Literal v kind) h e = absurd (false≢true e)
ruled_out c row (Negate a) h e = absurd (false≢true e)
ruled_out c row (Arithmetic o a b) h e = absurd (false≢true e)
ruled_out c row (Compare o a b) h e =
    let d = compared o (value_of a row) (value_of b row) h in
    ⊎_elim (λ f. side_not_null c a (side_of a) row d.first (says a) f d.first_is (left_not_null o d.first d.second d.holds))
    (λ f. side_not_null c b (side_of b) row d.second (says b) f d.second_is (right_not_null o d.first d.second d.holds))
    (or_cases (is_side c (side_of a)) (is_side c (side_of b)) e)
ruled_out c row (Not a) h e = absurd (false≢true e)
ruled_out c row (And a b) h e = absurd (false≢true e)
ruled_out c row (Or a b) h e = absurd (false≢true e)
ruled_out c row (IsNull a) h e = absurd (false≢true e)
ruled_out c row (IsNotNull a) h e = let w = not_null_value (value_of a row) h in side_not_null c a (side_of a) row w.0 (says a) e w.1 w.2
ruled_out c row (Case k a b d) h e = absurd (false≢true e)

pub some_ruled_out : (c : ℕ) (row : RowValues) (es : List Expression) → AllByRecursion (λ e. IsTrueAt e row) es → some_rules_out_null es c ≡ true → is_null (column_of row c) ≡ false
some_ruled_out c row [] h e = absurd (false≢true e)
some_ruled_out c row (x ∷ es) h e = ⊎_elim (ruled_out c row x h.0) (some_ruled_out c row es h.1) (or_cases (rules_out_null c x) (some_rules_out_null es c) e)
