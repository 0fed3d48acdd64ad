-- Rows that agree on marked columns, and steps that read no others.
use Rattle.std.proofs.Common.{◌≡◌, ◌⊎◌, ◌∙◌, ℕ, zero, suc, ◌+◌, ◌-◌, ◌<◌, ◌≤◌, Bool, true, List, [], ◌∷◌, ◌++◌, map, length, get_or, Ok, refl, sym, ap, arith, inl, inr}
use Rattle.std.specs.Prelude.{All, if◌then◌else◌}
use Rattle.std.proofs.lemmas.Bool.{cases_lt}
use Rattle.std.proofs.lemmas.List.{get_or_append_left, get_or-append_right, length-append}
use Rattle.std.proofs.lemmas.List.Elements.{All-push, All-weaker}
use Rattle.wd_value.specs.declared.value.Value.TheVariants.{Null}
use Rattle.wd_value.specs.Rows.{Row, column_of, row_at}
use Rattle.wd_plan.specs.declared.expression.ArithmeticOp.{ArithmeticOp}
use Rattle.wd_plan.specs.declared.expression.Branch.{Branch}
use Rattle.wd_plan.specs.declared.expression.ComparisonOp.{ComparisonOp}
use Rattle.wd_plan.specs.Expressions.{Expression, Arithmetic, Compare, And, Or, Case, Column, and_result, or_result, arithmetic_value, comparison, is_true, value_of}
use Rattle.wd_plan.specs.Faults.{all_ok, and_then}
use Rattle.wd_plan.specs.Outcomes.{map_outcome, pairs}
use Rattle.wd_join.proofs.Joining.{pairs_with}
use Rattle.wd_joined.specs.Alike.{AreAlikeIn, IsAlikeIn}
use Rattle.wd_joined.specs.declared.pairs.Pair.{Pair}
use Rattle.wd_joined.specs.Pairs.{rows_paired}
use Rattle.wd_nodes.specs.Marked.{HasMore, Reads}

-- ---- expressions

pub fewer_alike : (old new : List Bool) (row other : Row) → HasMore old new → IsAlikeIn new row other → IsAlikeIn old row other
fewer_alike old new row other more alike = (alike.0, λ c is. alike.1 c (more c is))

pub still_reads : (old new : List Bool) (e : Expression) → HasMore old new → Reads old e → Reads new e
still_reads old new e more reads row other alike = reads row other (fewer_alike old new row other more alike)

pub reads_column : (marks : List Bool) (c : ℕ) → get_or marks c true ≡ true → Reads marks (Column c)
reads_column marks c is row other alike = ap (λ v. Ok v) (alike.1 c is)

pub reads_arithmetic : (marks : List Bool) (o : ArithmeticOp) (x y : Expression) → Reads marks x → Reads marks y → Reads marks (Arithmetic o x y)
reads_arithmetic marks o x y f g row other alike = λ i. and_then (f row other alike i) (λ v. and_then (g row other alike i) (λ w. arithmetic_value o v w))

pub reads_comparison : (marks : List Bool) (o : ComparisonOp) (x y : Expression) → Reads marks x → Reads marks y → Reads marks (Compare o x y)
reads_comparison marks o x y f g row other alike = λ i. and_then (f row other alike i) (λ v. and_then (g row other alike i) (λ w. Ok (comparison o v w)))

pub reads_and : (marks : List Bool) (x y : Expression) → Reads marks x → Reads marks y → Reads marks (And x y)
reads_and marks x y f g row other alike = λ i. and_then (f row other alike i) (λ v. and_result v (g row other alike i))

pub reads_or : (marks : List Bool) (x y : Expression) → Reads marks x → Reads marks y → Reads marks (Or x y)
reads_or marks x y f g row other alike = λ i. and_then (f row other alike i) (λ v. or_result v (g row other alike i))

pub reads_case : (marks : List Bool) (k : Branch) (x y z : Expression) → Reads marks x → Reads marks y → Reads marks z → Reads marks (Case k x y z)
reads_case marks k x y z f g h row other alike = λ i. and_then (f row other alike i) (λ v. if is_true v then g row other alike i else h row other alike i)

pub more_read : (old new : List Bool) (es : List Expression) (e : Expression) → All (Reads old) es → HasMore old new → Reads new e → All (Reads new) (es ++ e ∷ [])
more_read old new es e read more one = All-push (Reads new) es e (All-weaker (Reads old) (Reads new) (λ x. still_reads old new x more) es read) one

-- ---- rows

pub alike_again : (marks : List Bool) (first second third : List Row) → AreAlikeIn marks first second → AreAlikeIn marks second third → AreAlikeIn marks first third
alike_again marks [] [] [] f g = tt
alike_again marks [] [] (t ∷ third) f g = absurd g
alike_again marks [] (s ∷ second) third f g = absurd f
alike_again marks (r ∷ first) [] third f g = absurd f
alike_again marks (r ∷ first) (s ∷ second) [] f g = absurd g
alike_again marks (r ∷ first) (s ∷ second) (t ∷ third) f g = ((f.0.0 ∙ g.0.0, λ c is. f.0.1 c is ∙ g.0.1 c is), alike_again marks first second third f.1 g.1)

alike_before : (marks : List Bool) (row other right : Row) → IsAlikeIn marks row other → IsAlikeIn marks (row ++ right) (other ++ right)
alike_before marks row other right alike = (length-append row right ∙ ap (λ n. n + length right) alike.0 ∙ sym (length-append other right), λ c is. by c is (cases_lt c (length row))) where
  by : (c : ℕ) → get_or marks c true ≡ true → (c < length row) ⊎ (length row ≤ c) → column_of (row ++ right) c ≡ column_of (other ++ right) c
  by c is (inl low) =
      let there : c < length other = rw (sym alike.0) low in
      get_or_append_left row right Null c low ∙ alike.1 c is ∙ sym (get_or_append_left other right Null c there)
  by c is (inr high) =
      let there : length other ≤ c = rw (sym alike.0) high in
      get_or-append_right row right (length row) c Null refl high ∙ ap (λ n. column_of right (c - n)) alike.0 ∙ sym (get_or-append_right other right (length other) c Null refl there)

with_each : (marks : List Bool) (row other : Row) → IsAlikeIn marks row other → (right : List Row) → AreAlikeIn marks (pairs_with row right) (pairs_with other right)
with_each marks row other alike [] = tt
with_each marks row other alike (r ∷ right) = (alike_before marks row other r alike, with_each marks row other alike right)

both_alike : (marks : List Bool) (a b c d : List Row) → AreAlikeIn marks a b → AreAlikeIn marks c d → AreAlikeIn marks (a ++ c) (b ++ d)
both_alike marks [] [] c d f g = g
both_alike marks [] (y ∷ b) c d f g = absurd f
both_alike marks (x ∷ a) [] c d f g = absurd f
both_alike marks (x ∷ a) (y ∷ b) c d f g = (f.0, both_alike marks a b c d f.1 g)

pub alike_pairs : (marks : List Bool) (left other right : List Row) → AreAlikeIn marks left other → AreAlikeIn marks (pairs left right) (pairs other right)
alike_pairs marks [] [] right alike = tt
alike_pairs marks [] (o ∷ other) right alike = absurd alike
alike_pairs marks (l ∷ left) [] right alike = absurd alike
alike_pairs marks (l ∷ left) (o ∷ other) right alike =
    both_alike marks (pairs_with l right) (pairs_with o right) (pairs left right) (pairs other right) (with_each marks l o alike.0 right) (alike_pairs marks left other right alike.1)

alike_at : (marks : List Bool) (rows others : List Row) → AreAlikeIn marks rows others → (p : ℕ) → IsAlikeIn marks (row_at rows p) (row_at others p)
alike_at marks [] [] alike p = (refl, λ c is. refl)
alike_at marks [] (o ∷ others) alike p = absurd alike
alike_at marks (r ∷ rows) [] alike p = absurd alike
alike_at marks (r ∷ rows) (o ∷ others) alike zero = alike.0
alike_at marks (r ∷ rows) (o ∷ others) alike (suc p) = alike_at marks rows others alike.1 p

pub alike_paired : (marks : List Bool) (left other right : List Row) → AreAlikeIn marks left other → (ps : List Pair) → AreAlikeIn marks (rows_paired left right ps) (rows_paired other right ps)
alike_paired marks left other right alike [] = tt
alike_paired marks left other right alike (pair ∷ ps) = (
  alike_before marks (row_at left pair.left) (row_at other pair.left) (row_at right pair.right) (alike_at marks left other alike pair.left),
  alike_paired marks left other right alike ps,
)

-- ---- a Map

values_read : (marks : List Bool) (row other : Row) → IsAlikeIn marks row other → (outputs : List Expression) → All (Reads marks) outputs → map (λ output. value_of output row) outputs ≡ map (λ output. value_of output other) outputs
values_read marks row other alike [] read = refl
values_read marks row other alike (e ∷ outputs) read =
    λ i. read 0 e (omega arith) row other alike i ∷ values_read marks row other alike outputs (λ k d low. read (suc k) d (omega arith)) i

rows_read : (marks : List Bool) (outputs : List Expression) → All (Reads marks) outputs → (rows others : List Row) → AreAlikeIn marks rows others
    → map (λ row. all_ok (map (λ output. value_of output row) outputs)) rows ≡ map (λ row. all_ok (map (λ output. value_of output row) outputs)) others
rows_read marks outputs read [] [] alike = refl
rows_read marks outputs read [] (o ∷ others) alike = absurd alike
rows_read marks outputs read (r ∷ rows) [] alike = absurd alike
rows_read marks outputs read (r ∷ rows) (o ∷ others) alike =
    λ i. all_ok (values_read marks r o alike.0 outputs read i) ∷ rows_read marks outputs read rows others alike.1 i

-- a Map gives the same over rows that agree on the columns which it reads
pub same_read : (marks : List Bool) (outputs : List Expression) → All (Reads marks) outputs → (rows others : List Row) → AreAlikeIn marks rows others → map_outcome outputs rows ≡ map_outcome outputs others
same_read marks outputs read rows others alike = ap all_ok (rows_read marks outputs read rows others alike)
