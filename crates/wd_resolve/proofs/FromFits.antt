-- The plans of queries fit their schemas: FROM, and the induction over derived tables.
use Rattle.std.proofs.Common.{◌≡◌, ◌∙◌, sym, ap, refl, subst, ℕ, ◌≤◌, Bool, true, false, cond, List, [], ◌∷◌, ◌++◌, map, length, Option, Some, None, option_map, slice_get, Ok, Err, arith, eq-eqb}
use Rattle.std.specs.List.{list_any}
use Rattle.std.proofs.lemmas.Bool.{ltb-false, le-leb, or_parts}
use Rattle.std.proofs.lemmas.List.{append_assoc, length-append, length-map, map-append}
use Rattle.std.proofs.lemmas.Option.{slice_get-map}
use Rattle.wd_schema.specs.declared.table.Column.{Column as TableColumn}
use Rattle.wd_schema.specs.Tables.{TableRule}
use Rattle.wd_plan.specs.declared.expression.ValueKind.TheVariants.{Truth}
use Rattle.wd_plan.specs.Expressions.{Expression}
use Rattle.wd_plan.specs.Fits.{fits, has_table, kind_of_type, kinds_of, may_join, table_kind}
use Rattle.wd_plan.specs.Plans.{Scan, Join}
use Rattle.wd_syntax.specs.Tree.{Tree, TableTree, named, derived, JoinTree, comma, cross, inner, Joins, no_joins, more_joins, SelectTree, select, QueryTree, query}
use Rattle.wd_resolve_operand.specs.declared.cause.Cause.TheVariants.{Ambiguous, TooMany}
use Rattle.wd_resolve_operand.specs.Causes.{◌>>=◌}
use Rattle.wd_resolve_scope.specs.declared.scope.ScopeColumn.{ScopeColumn}
use Rattle.wd_resolve_scope.specs.Resolving.{condition}
use Rattle.wd_resolve_scope.specs.Scopes.{ScopeRule, beside}
use Rattle.wd_resolve_scope.specs.Scopes as scopes
use Rattle.wd_resolve_scope.proofs.Typing.{and_both}
use Rattle.wd_resolve_call.proofs.Meanings.{bound, ok_is}
use Rattle.wd_resolve_scope.specs.declared.context.Place.TheVariants as place
use Rattle.wd_resolve_scope.proofs.TypedPlain.{condition_is}
use Rattle.wd_resolve_list.specs.declared.output.OutputColumn.{OutputColumn}
use Rattle.wd_resolve_select.specs.Steps.{Lowered}
use Rattle.wd_resolve.specs.Selected.{FromSoFar, JoinedTables, admitted, called, derived_column, derived_table, first_admitted, is_too_large, joined, next_admitted, scan, scan_at, scope_so_far, table_column, table_number, together}
use Rattle.wd_resolve.specs.Lowering.{after_comma, after_from, crossed, join_meant, join_on, joined_to, joins_meant, lowered, lowering, table_meant}
use Rattle.wd_resolve.specs.Answers.{Answer, is_ordered, name_in}
use Rattle.wd_resolve.specs.Laws.{PlansFit}
use Rattle.wd_resolve_select.proofs.PlanKinds.{HasKinds, join_is, output_kinds, over_plan, scope_kinds}
use Rattle.wd_resolve.proofs.ShownFits.{IsLowered, after_from_is}

-- a plan that fits, and gives the columns in scope
abbrev pub IsPart : List TableRule → JoinedTables → Type 0
IsPart tables part = HasKinds tables part.plan (scope_kinds part.scope)

-- the same of a table that is not yet admitted
abbrev pub MayBePart : List TableRule → JoinedTables → Type 0
MayBePart tables part = length part.scope.columns ≤ 1024 → IsPart tables part

-- ---- tables of the schema

table_columns : (name : List ℕ) (columns : List TableColumn) → map (λ (column : TableColumn). kind_of_type column.kind) columns ≡ map (λ (column : ScopeColumn). column.kind) (map (table_column name) columns)
table_columns name [] = refl
table_columns name (column ∷ columns) = ap (λ ks. kind_of_type column.kind ∷ ks) (table_columns name columns)

scan_is : (tables : List TableRule) (name : List ℕ) (number : ℕ) (part : JoinedTables) → length part.scope.columns ≤ 1024 → scan name number (slice_get tables number) ≡ Ok part → IsPart tables part
scan_is tables name number part few h = by (slice_get tables number) refl h
  where
    of_table : (t : TableRule) → slice_get tables number ≡ Some t → length t.columns ≤ 1024 → HasKinds tables (Scan number (length t.columns)) (map (λ (column : ScopeColumn). column.kind) (map (table_column name) t.columns))
    of_table t e narrow =
        let long = length-map t.columns (table_column name) in
        let longer = length-map (map (table_column name) t.columns) (λ (column : ScopeColumn). column.kind) in
        let has : has_table tables number (length t.columns) ≡ true = rw e (eq-eqb (length t.columns) (length t.columns) refl) in
        record {
          fits_is = and_both _ _ (le-leb (length t.columns) 1024 narrow) has;
          wide = omega arith;
          narrow = omega arith;
          each = λ c. (let here : table_kind tables number c ≡ option_map (λ (column : TableColumn). kind_of_type column.kind) (slice_get t.columns c) = rw e refl in here)
              ∙ sym (slice_get-map (λ (column : TableColumn). kind_of_type column.kind) t.columns c) ∙ ap (λ ks. slice_get ks c) (table_columns name t.columns);
        }

    by : (o : Option TableRule) → slice_get tables number ≡ o → scan name number o ≡ Ok part → IsPart tables part
    by None e h = cc
    by (Some t) e h =
        let is = ok_is _ _ h in
        let long = ap (λ (p : JoinedTables). length p.scope.columns) is in
        let as_many = length-map t.columns (table_column name) in
        subst (IsPart tables) is (of_table t e (omega arith))

scan_at_is : (tables : List TableRule) (name : List ℕ) (o : Option ℕ) (part : JoinedTables) → length part.scope.columns ≤ 1024 → scan_at tables name o ≡ Ok part → IsPart tables part
scan_at_is tables name None part few h = cc
scan_at_is tables name (Some number) part few h = scan_is tables name number part few h

-- ---- derived tables

derived_columns : (name : List ℕ) (columns : List OutputColumn) → output_kinds columns ≡ map (λ (column : ScopeColumn). column.kind) (map (derived_column name) columns)
derived_columns name [] = refl
derived_columns name (column ∷ columns) = ap (λ ks. column.kind ∷ ks) (derived_columns name columns)

derived_is : (tables : List TableRule) (name : List ℕ) (l : Lowered) → IsLowered tables l → IsPart tables (derived_table name l)
derived_is tables name l h = subst (HasKinds tables l.plan) (derived_columns name l.columns) h

-- ---- tables joined to one another

part_join : (tables : List TableRule) (on : Option Expression) (left right : JoinedTables) → IsPart tables left → IsPart tables right → length (beside left.scope right.scope).columns ≤ 1024
    → may_join (kinds_of tables (Join on left.plan right.plan)) on ≡ true → IsPart tables (joined on left right)
part_join tables on left right l r few may =
    let kind = λ (column : ScopeColumn). column.kind in
    let both = length-append left.scope.columns right.scope.columns in
    let ls = length-map left.scope.columns kind in
    let rs = length-map right.scope.columns kind in
    let whole = join_is tables on left.plan right.plan (scope_kinds left.scope) (scope_kinds right.scope) l r (omega arith) may in
    subst (HasKinds tables (Join on left.plan right.plan)) (sym (map-append kind left.scope.columns right.scope.columns)) whole

abbrev pub IsBefore : List TableRule → Option JoinedTables → Type 0
IsBefore tables None = Unit {0}
IsBefore tables (Some part) = IsPart tables part

pub record IsFrom (tables : List TableRule) (from : FromSoFar) : Type 0 where
  before_is : IsBefore tables from.before
  current_is : IsPart tables from.current
  few : length (scope_so_far from).columns ≤ 1024

together_is : (tables : List TableRule) (before : Option JoinedTables) (current : JoinedTables) → IsBefore tables before → IsPart tables current → length (together before current).scope.columns ≤ 1024 → IsPart tables (together before current)
together_is tables None current b c few = c
together_is tables (Some before) current b c few = part_join tables None before current b c few refl

from_is : (tables : List TableRule) (from : FromSoFar) → IsFrom tables from → IsPart tables (together from.before from.current)
from_is tables from h = together_is tables from.before from.current h.before_is h.current_is h.few

admitted_is : (scope : ScopeRule) (part p : JoinedTables) → admitted scope part ≡ Ok p → (part ≡ p) × (length (beside scope part.scope).columns ≤ 1024)
admitted_is scope part p h = shares (list_any (scopes.has_table scope) part.scope.tables) h
  where
    large : (b : Bool) → is_too_large (beside scope part.scope) ≡ b → cond b (Err TooMany) (Ok part) ≡ Ok p → (part ≡ p) × (length (beside scope part.scope).columns ≤ 1024)
    large true e h = cc
    large false e h = (ok_is _ _ h, ltb-false 1024 (length (beside scope part.scope).columns) (or_parts _ _ e).1)

    shares : (b : Bool) → cond b (Err Ambiguous) (cond (is_too_large (beside scope part.scope)) (Err TooMany) (Ok part)) ≡ Ok p → (part ≡ p) × (length (beside scope part.scope).columns ≤ 1024)
    shares true h = cc
    shares false h = large (is_too_large (beside scope part.scope)) refl h

first_is : (tables : List TableRule) (part : JoinedTables) (from : FromSoFar) → MayBePart tables part → first_admitted part ≡ Ok from → IsFrom tables from
first_is tables part from h e =
    let p = bound (admitted (record { tables = []; columns = [] }) part) (λ (q : JoinedTables). Ok (record { before = None; current = q })) from e in
    let a = admitted_is (record { tables = []; columns = [] }) part p.0 p.1 in
    subst (IsFrom tables) (ok_is _ _ p.2) (subst (λ (q : JoinedTables). IsFrom tables (record { before = None; current = q })) a.0 (record { before_is = tt; current_is = h a.1; few = a.1 }))

-- the columns of all tables stay as many, however they are grouped
as_many : (before : Option JoinedTables) (current part : JoinedTables) (on : Option Expression) → length (beside (together before current).scope part.scope).columns ≡ length (together before (joined on current part)).scope.columns
as_many None current part on = refl
as_many (Some before) current part on = ap length (append_assoc before.scope.columns current.scope.columns part.scope.columns)

current_few : (before : Option JoinedTables) (current part : JoinedTables) → length (beside (together before current).scope part.scope).columns ≤ 1024 → length (beside current.scope part.scope).columns ≤ 1024
current_few None current part h = h
current_few (Some before) current part h =
    let a = length-append (before.scope.columns ++ current.scope.columns) part.scope.columns in
    let b = length-append before.scope.columns current.scope.columns in
    let c = length-append current.scope.columns part.scope.columns in
    omega arith

-- a further part joined to those back to the last comma
joined_is : (tables : List TableRule) (from : FromSoFar) (on : Option Expression) (part : JoinedTables) → IsFrom tables from → IsPart tables part → length (beside (scope_so_far from) part.scope).columns ≤ 1024
    → may_join (kinds_of tables (Join on from.current.plan part.plan)) on ≡ true → IsFrom tables (joined_to from on part)
joined_is tables from on part h is few may = record {
  before_is = h.before_is;
  current_is = part_join tables on from.current part h.current_is is (current_few from.before from.current part few) may;
  few = subst (λ n. n ≤ 1024) (as_many from.before from.current part on) few;
}

-- a part that is admitted beside others is no wider than all
beside_few : (scope other : ScopeRule) → length (beside scope other).columns ≤ 1024 → length other.columns ≤ 1024
beside_few scope other few = let both = length-append scope.columns other.columns in omega arith

comma_is : (tables : List TableRule) (from : FromSoFar) (part : JoinedTables) (next : FromSoFar) → IsFrom tables from → MayBePart tables part → after_comma from part ≡ Ok next → IsFrom tables next
comma_is tables from part next h is e =
    let p = bound (next_admitted from part) (λ (q : JoinedTables). Ok (record { before = Some (together from.before from.current); current = q })) next e in
    let a = admitted_is (scope_so_far from) part p.0 p.1 in
    subst (IsFrom tables) (ok_is _ _ p.2) (subst (λ (q : JoinedTables). IsFrom tables (record { before = Some (together from.before from.current); current = q })) a.0 (record { before_is = from_is tables from h; current_is = is (beside_few (scope_so_far from) part.scope a.1); few = a.1 }))

cross_is : (tables : List TableRule) (from : FromSoFar) (part : JoinedTables) (next : FromSoFar) → IsFrom tables from → MayBePart tables part → crossed from part ≡ Ok next → IsFrom tables next
cross_is tables from part next h is e =
    let p = bound (next_admitted from part) (λ (q : JoinedTables). Ok (joined_to from None q)) next e in
    let a = admitted_is (scope_so_far from) part p.0 p.1 in
    subst (IsFrom tables) (ok_is _ _ p.2) (subst (λ (q : JoinedTables). IsFrom tables (joined_to from None q)) a.0 (joined_is tables from None part h (is (beside_few (scope_so_far from) part.scope a.1)) a.1 refl))

-- a condition over both sides
on_is : (tables : List TableRule) (left right : JoinedTables) (on : Tree) (e : Expression) → IsPart tables (joined None left right) → condition place.On (joined None left right).scope on ≡ Ok e → may_join (kinds_of tables (Join (Some e) left.plan right.plan)) (Some e) ≡ true
on_is tables left right on e h is =
    let typed = over_plan tables (Join None left.plan right.plan) (beside left.scope right.scope) e Truth h (condition_is place.On (beside left.scope right.scope) on e is) in
    and_both _ _ typed.is (rw typed.has refl)

inner_is : (tables : List TableRule) (from : FromSoFar) (on : Tree) (part : JoinedTables) (next : FromSoFar) → IsFrom tables from → MayBePart tables part → join_on from on part ≡ Ok next → IsFrom tables next
inner_is tables from on part next h is e =
    let p = bound (next_admitted from part) (λ (q : JoinedTables). condition place.On (joined None from.current q).scope on >>= λ x. Ok (joined_to from (Some x) q)) next e in
    let a = admitted_is (scope_so_far from) part p.0 p.1 in
    let there : IsPart tables p.0 = subst (IsPart tables) a.0 (is (beside_few (scope_so_far from) part.scope a.1)) in
    let few : length (beside (scope_so_far from) p.0.scope).columns ≤ 1024 = subst (λ (q : JoinedTables). length (beside (scope_so_far from) q.scope).columns ≤ 1024) a.0 a.1 in
    let x = bound (condition place.On (joined None from.current p.0).scope on) (λ y. Ok (joined_to from (Some y) p.0)) next p.2 in
    let whole = part_join tables None from.current p.0 h.current_is there (current_few from.before from.current p.0 few) refl in
    subst (IsFrom tables) (ok_is _ _ x.2) (joined_is tables from (Some x.0) p.0 h there few (on_is tables from.current p.0 on x.0 whole x.1))

-- ---- whole queries

mutual
  pub lowered_is : (tables : List TableRule) (s : SelectTree) (l : Lowered) → lowered tables s ≡ Ok l → IsLowered tables l
  lowered_is tables (select parts first joins) l e =
      let part = bound (table_meant tables first) (λ p. first_admitted p >>= λ start. joins_meant tables joins start >>= λ from. after_from (together from.before from.current) parts) l e in
      let start = bound (first_admitted part.0) (λ s. joins_meant tables joins s >>= λ from. after_from (together from.before from.current) parts) l part.2 in
      let from = bound (joins_meant tables joins start.0) (λ f. after_from (together f.before f.current) parts) l start.2 in
      let begun = first_is tables part.0 start.0 (table_is tables first part.0 part.1) start.1 in
      after_from_is tables (together from.0.before from.0.current) parts l (from_is tables from.0 (joins_are tables joins start.0 from.0 begun from.1)) from.2

  table_is : (tables : List TableRule) (t : TableTree) (part : JoinedTables) → table_meant tables t ≡ Ok part → MayBePart tables part
  table_is tables (named name alias) part e few = scan_at_is tables (called name alias) (table_number tables name.text) part few e
  table_is tables (derived s alias) part e few =
      let l = bound (lowered tables s) (λ x. Ok (derived_table alias.name.text x)) part e in
      subst (IsPart tables) (ok_is _ _ l.2) (derived_is tables alias.name.text l.0 (lowered_is tables s l.0 l.1))

  joins_are : (tables : List TableRule) (joins : Joins) (from next : FromSoFar) → IsFrom tables from → joins_meant tables joins from ≡ Ok next → IsFrom tables next
  joins_are tables no_joins from next h e = subst (IsFrom tables) (ok_is _ _ e) h
  joins_are tables (more_joins join joins) from next h e =
      let one = bound (join_meant tables join from) (λ x. joins_meant tables joins x) next e in
      joins_are tables joins one.0 next (join_one tables join from one.0 h one.1) one.2

  join_one : (tables : List TableRule) (join : JoinTree) (from next : FromSoFar) → IsFrom tables from → join_meant tables join from ≡ Ok next → IsFrom tables next
  join_one tables (comma table) from next h e =
      let part = bound (table_meant tables table) (λ p. after_comma from p) next e in
      comma_is tables from part.0 next h (table_is tables table part.0 part.1) part.2
  join_one tables (cross table) from next h e =
      let part = bound (table_meant tables table) (λ p. crossed from p) next e in
      cross_is tables from part.0 next h (table_is tables table part.0 part.1) part.2
  join_one tables (inner with_inner table on) from next h e =
      let part = bound (table_meant tables table) (λ p. join_on from on p) next e in
      inner_is tables from on part.0 next h (table_is tables table part.0 part.1) part.2

lowering_is : (tables : List TableRule) (tree : QueryTree) (l : Lowered) → lowering tables tree ≡ Ok l → IsLowered tables l
lowering_is tables (query s semicolon) l e = lowered_is tables s l e

pub plans_fit : PlansFit
plans_fit tables tree a e =
    let l = bound (lowering tables tree) (λ (x : Lowered). Ok (record { plan = x.plan; names = map name_in x.columns; ordered = is_ordered tree })) a e in
    subst (λ (x : Answer). fits tables x.plan ≡ true) (ok_is _ _ l.2) (lowering_is tables tree l.0 l.1).fits_is
