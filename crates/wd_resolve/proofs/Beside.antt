-- The tables and columns of scopes beside one another.
use Rattle.std.proofs.Common.{◌≡◌, refl, ℕ, zero, suc, ◌+◌, ◌<◌, arith, Bool, true, false, cond, not, List, [], ◌∷◌, ◌++◌, length, drop, length-append, ◌||◌, if◌then◌else◌}
use Rattle.std.specs.List.{list_any, position_or_len}
use Rattle.std.specs.Str.{bytes_eq}
use Rattle.std.proofs.lemmas.List.Folds.{list_any-append}
use Rattle.wd_schema.specs.Tables.{TableRule}
use Rattle.wd_resolve_scope.specs.Scopes.{ScopeRule, beside, has_table}
use Rattle.wd_resolve.specs.Selected.{has_name, is_named}

pub has_table_beside : (left right : ScopeRule) (name : List ℕ) → has_table (beside left right) name ≡ (has_table left name || has_table right name)
has_table_beside left right name = list_any-append (bytes_eq name) left.tables right.tables

pub lengths : {A : Type 0} (xs ys : List A) → length (xs ++ ys) ≡ length xs + length ys
lengths xs ys = length-append xs ys

-- no name is that of a table where there is none
pub none_shared : (names : List (List ℕ)) → list_any (has_table (record { tables = []; columns = [] })) names ≡ false
none_shared [] = refl
none_shared (name ∷ names) = none_shared names

-- the table of a number has the name, or it is looked for after it
pub named_step : (n : ℕ) (name : List ℕ) (tables : List TableRule) → n < length tables → position_or_len (has_name name) (drop n tables) ≡ (if is_named tables name n then 0 else 1 + position_or_len (has_name name) (drop (suc n) tables))
named_step n name [] within = absurd (omega arith)
named_step zero name (rule ∷ tables) within = by (bytes_eq rule.name name)
  where
    by : (b : Bool) → cond (not b) (1 + position_or_len (has_name name) tables) 0 ≡ cond b 0 (1 + position_or_len (has_name name) tables)
    by true = refl
    by false = refl
named_step (suc n) name (rule ∷ tables) within = named_step n name tables (omega arith)
