-- The columns that an expression uses are the input's, where the expression is typed over the input's kinds.
use Rattle.std.proofs.Common.{◌≡◌, ℕ, ◌<◌, true, ◌&&◌, List, [], ◌∷◌, ◌++◌, refl, nat_lt, is_some}
use Rattle.std.specs.List.{list_all}
use Rattle.std.proofs.lemmas.Bool.{and_parts, lt-ltb}
use Rattle.wd_plan.specs.declared.expression.ValueKind.TheVariants.{Number, Truth}
use Rattle.wd_plan.specs.Expressions.{Expression, Column, Literal, Negate, Arithmetic, Compare, Not, And, Or, IsNull, IsNotNull, Case}
use Rattle.wd_plan.specs.Fits.{AreBelow, Kinds, are_alike, is_kind, is_typed, kind_of}
use Rattle.wd_step_facts.specs.Steps.{used}

pub below_append : (columns : ℕ) (X Y : List ℕ) → AreBelow columns X → AreBelow columns Y → AreBelow columns (X ++ Y)
below_append columns [] Y a b = b
below_append columns (c ∷ X) Y a b =
    let parts = and_parts (nat_lt c columns) (list_all (λ c. nat_lt c columns) X) a in
    λ i. parts.0 i && below_append columns X Y parts.1 b i

module _ (kinds : Kinds) (columns : ℕ) (below : (c : ℕ) → is_some (kinds c) ≡ true → c < columns) where
  pub used_below : (e : Expression) → is_typed kinds e ≡ true → AreBelow columns (used e)
  used_below (Column c) t = λ i. lt-ltb c columns (below c t) i && true
  used_below (Literal v kind) t = refl
  used_below (Negate a) t = used_below a (and_parts (is_typed kinds a) (is_kind Number (kind_of kinds a)) t).0
  used_below (Arithmetic o a b) t =
      let parts = and_parts (is_typed kinds a && is_kind Number (kind_of kinds a)) (is_typed kinds b && is_kind Number (kind_of kinds b)) t in
      below_append columns (used a) (used b) (used_below a (and_parts (is_typed kinds a) (is_kind Number (kind_of kinds a)) parts.0).0) (used_below b (and_parts (is_typed kinds b) (is_kind Number (kind_of kinds b)) parts.1).0)
  used_below (Compare o a b) t =
      let parts = and_parts (is_typed kinds a) (is_typed kinds b) (and_parts (is_typed kinds a && is_typed kinds b) (are_alike (kind_of kinds a) (kind_of kinds b)) t).0 in
      below_append columns (used a) (used b) (used_below a parts.0) (used_below b parts.1)
  used_below (Not a) t = used_below a (and_parts (is_typed kinds a) (is_kind Truth (kind_of kinds a)) t).0
  used_below (And a b) t =
      let parts = and_parts (is_typed kinds a && is_kind Truth (kind_of kinds a)) (is_typed kinds b && is_kind Truth (kind_of kinds b)) t in
      below_append columns (used a) (used b) (used_below a (and_parts (is_typed kinds a) (is_kind Truth (kind_of kinds a)) parts.0).0) (used_below b (and_parts (is_typed kinds b) (is_kind Truth (kind_of kinds b)) parts.1).0)
  used_below (Or a b) t =
      let parts = and_parts (is_typed kinds a && is_kind Truth (kind_of kinds a)) (is_typed kinds b && is_kind Truth (kind_of kinds b)) t in
      below_append columns (used a) (used b) (used_below a (and_parts (is_typed kinds a) (is_kind Truth (kind_of kinds a)) parts.0).0) (used_below b (and_parts (is_typed kinds b) (is_kind Truth (kind_of kinds b)) parts.1).0)
  used_below (IsNull a) t = used_below a t
  used_below (IsNotNull a) t = used_below a t
  used_below (Case k a b c) t =
      let parts = and_parts (is_typed kinds a && is_kind Truth (kind_of kinds a)) ((is_typed kinds b && is_typed kinds c) && are_alike (kind_of kinds b) (kind_of kinds c)) t in
      let branches = and_parts (is_typed kinds b) (is_typed kinds c) (and_parts (is_typed kinds b && is_typed kinds c) (are_alike (kind_of kinds b) (kind_of kinds c)) parts.1).0 in
      below_append columns (used a) (used b ++ used c) (used_below a (and_parts (is_typed kinds a) (is_kind Truth (kind_of kinds a)) parts.0).0)
      (below_append columns (used b) (used c) (used_below b branches.0) (used_below c branches.1))
