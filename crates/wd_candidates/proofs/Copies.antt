-- The origins of a node's columns, listed, are those that it has, and a plan that fits scans tables of the schema.
use Rattle.std.proofs.Common.{◌≡◌, ℕ, ◌+◌, ◌-◌, Bool, true, false, cond, ◌&&◌, List, [], ◌∷◌, ◌++◌, map, length, refl, sym, ◌∙◌, ap, arith, nat_lt, Option, Some, None, option_and_then, slice_get}
use Rattle.std.specs.Prelude.{zero, suc, option_to_list}
use Rattle.std.proofs.lemmas.Bool.{and_parts, ltb-true, ltb-false}
use Rattle.std.proofs.lemmas.List.{append_assoc, length-append, length-map, get_or_append_left, get_or-append_right, get_or_past}
use Rattle.std.proofs.lemmas.List.FromFn.{get_or-map-range_with_len, length-map-range_with_len, map-range_with_len_more}
use Rattle.std.proofs.lemmas.Grind.{flat_map-append}
use Rattle.std.proofs.lemmas.Option.{slice_get_within}
use Rattle.wd_schema.specs.Tables.{TableRule}
use Rattle.wd_plan.specs.declared.window.Call.{Call}
use Rattle.wd_plan.specs.Expressions.{Expression}
use Rattle.wd_plan.specs.Fits.{fits, has_table, is_join, is_narrow, is_step, kinds_of, width}
use Rattle.wd_value.specs.Bags.{positions}
use Rattle.wd_plan.specs.Plans.{GroupCall, PlanTree, Scan, Join, Over, Filter, Map, Group, Window, Distinct, Limit}
use Rattle.wd_plan.proofs.Ranges.{has_the_table}
use Rattle.wd_step_facts.specs.Steps.{conjuncts_of}
use Rattle.wd_candidates.specs.declared.origins.TableColumn.{TableColumn}
use Rattle.wd_candidates.specs.declared.fixed.Fixing.{Fixing}
use Rattle.wd_candidates.specs.Origins.{origin, plain_column}
use Rattle.wd_candidates.specs.AllOrigins.{ScansBelow, origin_in, origins, output_origin, table_origins}
use Rattle.wd_candidates.specs.Fixed.{fixing, fixings, fixings_in}

-- ---- origins

abbrev no_column : Call → Option TableColumn
no_column call = None

abbrev no_group_column : GroupCall → Option TableColumn
no_group_column call = None

long : (plan : PlanTree) → length (origins plan) ≡ width plan
long (Scan table columns) = length-map-range_with_len (λ c. Some (record { table = table; column = c })) 0 columns
long (Join condition left right) = length-append (origins left) (origins right) ∙ (λ i. long left i + long right i)
long (Over (Filter condition) input) = long input
long (Over (Map outputs) input) = length-map outputs (output_origin (origins input))
long (Over (Group g) input) = length-append (map (origin_in (origins input)) (positions g.columns)) (map no_group_column g.calls) ∙ (λ i. length-map-range_with_len (origin_in (origins input)) 0 g.columns i + length-map g.calls no_group_column i)
long (Over (Window w) input) = length-append (origins input) (map no_column w.calls) ∙ (λ i. long input i + length-map w.calls no_column i)
long (Over Distinct input) = long input
long (Over (Limit limit) input) = long input

in_table : (table columns c : ℕ) → origin_in (table_origins table columns) c ≡ origin (Scan table columns) c
in_table table columns c = by (nat_lt c columns) refl
  where
    at : ℕ → Option TableColumn
    at d = Some (record { table = table; column = d })

    by : (b : Bool) → nat_lt c columns ≡ b → origin_in (table_origins table columns) c ≡ cond b (at c) None
    by true e = get_or-map-range_with_len at 0 columns c c None (ltb-true c columns e) (omega arith)
    by false e = let past = ltb-false c columns e in get_or_past (table_origins table columns) c None (omega (arith, length-map-range_with_len at 0 columns, past))

pub table_origins_more : (table columns : ℕ) → table_origins table (columns + 1) ≡ table_origins table columns ++ Some (record { table = table; column = columns }) ∷ []
table_origins_more table columns = map-range_with_len_more (λ c. Some (record { table = table; column = c })) 0 columns columns (omega arith)

pub first_origins_more : (origins : List (Option TableColumn)) (columns : ℕ) → map (origin_in origins) (positions (columns + 1)) ≡ map (origin_in origins) (positions columns) ++ origin_in origins columns ∷ []
first_origins_more origins columns = map-range_with_len_more (origin_in origins) 0 columns columns (omega arith)

no_origin : (calls : List Call) (c : ℕ) → origin_in (map no_column calls) c ≡ None
no_origin [] c = refl
no_origin (call ∷ calls) zero = refl
no_origin (call ∷ calls) (suc c) = no_origin calls c

no_group_origin : (calls : List GroupCall) (c : ℕ) → origin_in (map no_group_column calls) c ≡ None
no_group_origin [] c = refl
no_group_origin (call ∷ calls) zero = refl
no_group_origin (call ∷ calls) (suc c) = no_group_origin calls c

in_outputs : (below : List (Option TableColumn)) (under : ℕ → Option TableColumn) → ((c : ℕ) → origin_in below c ≡ under c) → (outputs : List Expression) (c : ℕ) → origin_in (map (output_origin below) outputs) c ≡ option_and_then under (option_and_then plain_column (slice_get outputs c))
in_outputs below under same [] c = refl
in_outputs below under same (e ∷ outputs) zero = (λ i. option_and_then (λ c. same c i) (plain_column e))
in_outputs below under same (e ∷ outputs) (suc c) = in_outputs below under same outputs c

-- a column's origin in a list that goes on after the first so many
split : (a b : List (Option TableColumn)) (n c : ℕ) → length a ≡ n → origin_in (a ++ b) c ≡ cond (nat_lt c n) (origin_in a c) (origin_in b (c - n))
split a b n c long_a = by (nat_lt c n) refl
  where
    by : (t : Bool) → nat_lt c n ≡ t → origin_in (a ++ b) c ≡ cond t (origin_in a c) (origin_in b (c - n))
    by true e = let below = ltb-true c n e in get_or_append_left a b None c (omega arith)
    by false e = get_or-append_right a b n c None long_a (ltb-false c n e)

pub origins_are : (plan : PlanTree) (c : ℕ) → origin_in (origins plan) c ≡ origin plan c
origins_are (Scan table columns) c = in_table table columns c
origins_are (Join condition left right) c = split (origins left) (origins right) (width left) c (long left) ∙ (λ i. cond (nat_lt c (width left)) (origins_are left c i) (origins_are right (c - width left) i))
origins_are (Over (Filter condition) input) c = origins_are input c
origins_are (Over (Map outputs) input) c = in_outputs (origins input) (origin input) (origins_are input) outputs c
origins_are (Over (Group g) input) c =
    split (map (origin_in (origins input)) (positions g.columns)) (map no_group_column g.calls) g.columns c (length-map-range_with_len (origin_in (origins input)) 0 g.columns)
    ∙ by (nat_lt c g.columns) refl (origins_are input c)
  where
    by : (t : Bool) → nat_lt c g.columns ≡ t → origin_in (origins input) c ≡ origin input c → cond t (origin_in (map (origin_in (origins input)) (positions g.columns)) c) (origin_in (map no_group_column g.calls) (c - g.columns)) ≡ cond t (origin input c) None
    by true e is = get_or-map-range_with_len (origin_in (origins input)) 0 g.columns c c None (ltb-true c g.columns e) (omega arith) ∙ is
    by false e is = no_group_origin g.calls (c - g.columns)
origins_are (Over (Window w) input) c = split (origins input) (map no_column w.calls) (width input) c (long input) ∙ (λ i. cond (nat_lt c (width input)) (origins_are input c i) (no_origin w.calls (c - width input) i))
origins_are (Over Distinct input) c = origins_are input c
origins_are (Over (Limit limit) input) c = origins_are input c

-- ---- fixings

pub fixings_append : (front : List Fixing) (o : ℕ → Option TableColumn) (xs ys : List Expression) → (front ++ fixings_in o xs) ++ fixings_in o ys ≡ front ++ fixings_in o (xs ++ ys)
fixings_append front o xs ys = append_assoc front (fixings_in o xs) (fixings_in o ys) ∙ ap (λ l. front ++ l) (sym (flat_map-append (λ e. option_to_list (fixing o e)) xs ys))

fixings_by : (plan : PlanTree) (list : List (Option TableColumn)) (es : List Expression) → list ≡ origins plan → fixings_in (origin_in list) es ≡ fixings_in (origin plan) es
fixings_by plan list es e = ap (λ l. fixings_in (origin_in l) es) e ∙ (λ i. fixings_in (λ c. origins_are plan c i) es)

pub filter_fixings : (plan : PlanTree) (list : List (Option TableColumn)) (es : List Expression) (front : List Fixing) → list ≡ origins plan → (front ++ fixings plan) ++ fixings_in (origin_in list) es ≡ front ++ (fixings plan ++ fixings_in (origin plan) es)
filter_fixings plan list es front e = append_assoc front (fixings plan) (fixings_in (origin_in list) es) ∙ ap (λ l. front ++ (fixings plan ++ l)) (fixings_by plan list es e)

pub join_fixings : (condition : Option Expression) (left right : PlanTree) (list : List (Option TableColumn)) (front : List Fixing) → list ≡ origins left ++ origins right → ((front ++ fixings left) ++ fixings right) ++ fixings_in (origin_in list) (conjuncts_of condition) ≡ front ++ fixings (Join condition left right)
join_fixings condition left right list front e =
    ap (λ l. l ++ fixings_in (origin_in list) (conjuncts_of condition)) (append_assoc front (fixings left) (fixings right))
    ∙ append_assoc front (fixings left ++ fixings right) (fixings_in (origin_in list) (conjuncts_of condition))
    ∙ ap (λ l. front ++ ((fixings left ++ fixings right) ++ l)) (fixings_by (Join condition left right) list (conjuncts_of condition) e)

-- ---- scanned tables

pub scans_below : (tables : List TableRule) (plan : PlanTree) → fits tables plan ≡ true → ScansBelow (length tables) plan
scans_below tables (Scan table columns) f =
    let parts = and_parts (is_narrow columns) (has_table tables table columns) f in
    let there = has_the_table tables table columns parts.1 in
    slice_get_within tables table there.0 there.1
scans_below tables (Join condition left right) f =
    let first = and_parts (fits tables left && fits tables right) (is_join (kinds_of tables (Join condition left right)) (width left + width right) condition) f in
    let sides = and_parts (fits tables left) (fits tables right) first.0 in
    (scans_below tables left sides.0, scans_below tables right sides.1)
scans_below tables (Over step input) f = scans_below tables input (and_parts (fits tables input) (is_step (kinds_of tables input) (width input) step) f).0
