-- How a select is grouped: the columns and sets of GROUP BY (SQL, group by clause; PG, GROUPING SETS, CUBE, and ROLLUP).
use Rattle.std.specs.Prelude.{◌≡◌, ℕ, suc, ◌+◌, ◌*◌, ◌^◌, false, List, [], ◌∷◌, ◌++◌, map, flat_map, length, max, nat_eq, nat_lt, Option, Some, None, option_map, Ok, Err, if◌then◌else◌}
use Rattle.wd_read_cursor.specs.declared.name.Name.{Name}
use Rattle.wd_syntax.specs.declared.query.GroupColumn.{GroupColumn}
use Rattle.wd_syntax.specs.declared.query.GroupingWord.{GroupingWord}
use Rattle.wd_syntax.specs.declared.query.GroupingWord.TheVariants.{Rollup, Cube, Sets}
use Rattle.wd_syntax.specs.Tree.{Tree, SetTree, one_column, columns, GroupTree, grouped_by, constructed, Parts}
use Rattle.wd_plan.specs.Plans.{has}
use Rattle.wd_resolve_operand.specs.declared.cause.Cause.TheVariants.{NotGrouped, TooMany, TooManySets}
use Rattle.wd_resolve_operand.specs.Causes.{Meant, ◌>>=◌}
use Rattle.wd_resolve_scope.specs.Grouped.{GroupedRule, is_grouped}
use Rattle.wd_resolve_scope.specs.Names.{column_named}
use Rattle.wd_resolve_scope.specs.Resolving.{group_condition}
use Rattle.wd_resolve_call.specs.Rows.{RowExpression, row_expression_of}
use Rattle.wd_resolve_scope.specs.Scopes.{ScopeRule}
use Rattle.wd_resolve_list.specs.declared.below.Below.{Below as CodeBelow}
use Rattle.wd_resolve_list.specs.SelectLists.{Below, GroupedBy, grouped_by_of, having_groups, is_group_wide, with_new}

-- ---- columns

abbrev pub group_column : ScopeRule → GroupColumn → Meant ℕ
group_column scope c = column_named scope (option_map (λ (n : Name). n.text) c.table) c.name.text >>= λ x. Ok x.0

abbrev pub group_columns : ScopeRule → List GroupColumn → Meant (List ℕ)
group_columns scope [] = Ok []
group_columns scope (c ∷ cs) = group_column scope c >>= λ n. group_columns scope cs >>= λ ns. Ok (n ∷ ns)

abbrev pub set_meant : ScopeRule → SetTree → Meant (List ℕ)
set_meant scope (one_column c) = group_columns scope (c ∷ [])
set_meant scope (columns cs) = group_columns scope cs

abbrev pub sets_meant : ScopeRule → List SetTree → Meant (List (List ℕ))
sets_meant scope [] = Ok []
sets_meant scope (s ∷ sets) = set_meant scope s >>= λ x. sets_meant scope sets >>= λ xs. Ok (x ∷ xs)

-- ---- sets

-- all prefixes, the longest first
abbrev pub roll_up : List (List ℕ) → List (List ℕ)
roll_up [] = [] ∷ []
roll_up (s ∷ sets) = map (λ t. s ++ t) (roll_up sets) ++ [] ∷ []

-- all subsets: those with the first member before those without it
abbrev pub cubed : List (List ℕ) → List (List ℕ)
cubed [] = [] ∷ []
cubed (s ∷ sets) = map (λ t. s ++ t) (cubed sets) ++ cubed sets

-- an empty list of sets, which no text has, becomes the empty set, as without GROUP BY
abbrev pub some_of : List (List ℕ) → List (List ℕ)
some_of [] = [] ∷ []
some_of (s ∷ sets) = s ∷ sets

abbrev pub made_of : GroupingWord → List (List ℕ) → List (List ℕ)
made_of Rollup sets = roll_up sets
made_of Cube sets = cubed sets
made_of Sets sets = some_of sets

-- how many sets the word makes of the given number of sets
abbrev pub count_made : GroupingWord → ℕ → ℕ
count_made Rollup n = suc n
count_made Cube n = 2 ^ n
count_made Sets n = max 1 n

-- every set of one list with every set of another, those of the first list outermost
abbrev pub cross_sets : List (List ℕ) → List (List ℕ) → List (List ℕ)
cross_sets sets others = flat_map (λ s. map (λ t. s ++ t) others) sets

-- ---- GROUP BY

-- without GROUP BY there is one set, and it is empty
abbrev pub no_groups : GroupedBy
no_groups = record { columns = []; sets = [] ∷ [] }

-- GROUP BY with a further member that has these sets of columns
abbrev pub join_sets : GroupedBy → GroupingWord → List (List ℕ) → GroupedBy
join_sets so_far word sets = record { columns = with_new nat_eq so_far.columns (flat_map (λ s. s) sets); sets = cross_sets so_far.sets (made_of word sets) }

-- at most 64 sets (this project's choice)
abbrev pub with_sets : GroupedBy → GroupingWord → List (List ℕ) → Meant GroupedBy
with_sets so_far word sets = if nat_lt 64 (length so_far.sets * count_made word (length sets)) then Err TooManySets else Ok (join_sets so_far word sets)

abbrev pub item_grouped : ScopeRule → GroupedBy → GroupTree → Meant GroupedBy
item_grouped scope so_far (grouped_by s) = sets_meant scope (s ∷ []) >>= λ sets. with_sets so_far Sets sets
item_grouped scope so_far (constructed word members) = sets_meant scope members >>= λ sets. with_sets so_far word sets

abbrev pub all_grouped : ScopeRule → GroupedBy → List GroupTree → Meant GroupedBy
all_grouped scope so_far [] = Ok so_far
all_grouped scope so_far (a ∷ items) = item_grouped scope so_far a >>= λ next. all_grouped scope next items

-- how a select is grouped, if it is
abbrev pub grouped_meant : ScopeRule → Parts → Meant (Option GroupedBy)
grouped_meant scope parts = if is_grouped parts then (all_grouped scope no_groups parts.tail.grouping.items >>= λ g. Ok (Some g)) else Ok None

-- the columns that may appear in a select that is grouped so
abbrev pub grouped_rule : GroupedBy → GroupedRule
grouped_rule g = record { columns = g.columns; other = NotGrouped }

-- ---- HAVING

abbrev pub having_meant : ScopeRule → Option GroupedBy → Option Tree → Meant (Option RowExpression)
having_meant scope grouped None = Ok None
having_meant scope grouped (Some a) = group_condition (option_map grouped_rule grouped) scope a >>= λ f. Ok (Some f)

-- neither the Group nor the Map below it is too wide for HAVING
abbrev pub IsNarrow : Below → Type 0
IsNarrow below = is_group_wide below.grouped (having_groups [] below.having) ≡ false

abbrev pub narrow_below : Below → Meant Below
narrow_below below = if is_group_wide below.grouped (having_groups [] below.having) then Err TooMany else Ok below

-- what is below the windows of a select
abbrev pub below_meant : ScopeRule → Option GroupedBy → Option Tree → Meant Below
below_meant scope grouped having = having_meant scope grouped having >>= λ f. narrow_below (record { grouped = grouped; having = f })

-- ---- in a plan

-- the numbers of the columns that a set has, counted from the given number on
abbrev pub numbers_from : ℕ → List ℕ → List ℕ → List ℕ
numbers_from n [] set = []
numbers_from n (c ∷ cs) set = if has set c then n ∷ numbers_from (n + 1) cs set else numbers_from (n + 1) cs set

-- a set as the numbers of its columns among those that are grouped by, in order
abbrev pub set_rebased : List ℕ → List ℕ → List ℕ
set_rebased all set = numbers_from 0 all set

-- ---- what values of the code show

abbrev pub below_of : CodeBelow → Below
below_of b = record { grouped = option_map grouped_by_of b.grouped; having = option_map row_expression_of b.having }
