-- Facts: dependencies among columns, the positions on the sides of a Join, and the row, and when they hold in rows
-- (SQL, functional dependencies).
use Rattle.std.specs.Prelude.{◌≡◌, ℕ, ◌<◌, Bool, true, false, ◌&&◌, List, [], ◌∷◌, ◌++◌, map, length, Option, nat_lt, slice_index_or}
use Rattle.std.specs.Borrow.{Bor}
use Rattle.std.specs.List.{AllByRecursion, list_all}
use Rattle.wd_value.specs.Rows.{Row as RowValues, column_of, row_at}
use Rattle.wd_step_facts.specs.declared.facts.Facts.{Facts}
use Rattle.wd_step_facts.specs.declared.facts.Given.{Given}
use Rattle.wd_step_facts.specs.declared.facts.Member.{Member}
use Rattle.wd_step_facts.specs.declared.facts.Member.TheVariants.{Column, Left, Right, Row}

-- what the members of `from` determine
pub record Fact : Type 0 where
  pub from : List Member
  pub to : List Member

-- the given facts of a node, the number of columns that they are over, and at a Join how many of these are the left side's
pub record FactList : Type 0 where
  pub columns : ℕ
  pub split : Option ℕ
  pub list : List Fact

-- the fact that a value of the code shows
abbrev pub fact_of : Given → Fact
fact_of given = record { from = given.from.items; to = given.to.items }

abbrev pub facts_of : Facts → FactList
facts_of facts = record { columns = facts.columns; split = facts.split; list = map fact_of facts.list.items }

-- the facts that the child with this number keeps; none past the last child
abbrev pub kept_by : List (Bor (List Given)) → ℕ → List Fact
kept_by kept n = map fact_of (slice_index_or (map (λ b. b.now) kept) n [])

-- rows, and for each position the positions of the two rows that it pairs; these matter only at a Join
pub record Paired : Type 0 where
  pub rows : List RowValues
  pub left : ℕ → ℕ
  pub right : ℕ → ℕ

-- rows that pair nothing
abbrev pub unpaired : List RowValues → Paired
unpaired rows = record { rows = rows; left = λ p. p; right = λ p. p }

-- two positions agree on a member: not distinct in the column, or paired from one position, or one position
abbrev pub Same : Paired → ℕ → ℕ → Member → Type 0
Same n p q (Column c) = column_of (row_at n.rows p) c ≡ column_of (row_at n.rows q) c
Same n p q Left = n.left p ≡ n.left q
Same n p q Right = n.right p ≡ n.right q
Same n p q Row = p ≡ q

-- two positions that agree on all of `from` agree on all of `to`
abbrev pub Holds : Paired → Fact → Type 0
Holds n fact = (p q : ℕ) → p < length n.rows → q < length n.rows → AllByRecursion (Same n p q) fact.from → AllByRecursion (Same n p q) fact.to

-- the rows of two lists concatenated, place by place
abbrev pub beside : List RowValues → List RowValues → List RowValues
beside [] others = []
beside (r ∷ rows) [] = []
beside (r ∷ rows) (other ∷ others) = (r ++ other) ∷ beside rows others

-- rows that each pair a row of the left side and one of the right, no two of them the same pair of positions
pub record PairsRows (ls rs : List RowValues) (n : Paired) : Type 0 where
  pub left_within : (p : ℕ) → p < length n.rows → n.left p < length ls
  pub right_within : (p : ℕ) → p < length n.rows → n.right p < length rs
  pub is : (p : ℕ) → p < length n.rows → row_at n.rows p ≡ row_at ls (n.left p) ++ row_at rs (n.right p)
  pub apart : (p q : ℕ) → p < length n.rows → q < length n.rows → n.left p ≡ n.left q → n.right p ≡ n.right q → p ≡ q

-- ---- names

-- a column, by its number, or the row
abbrev pub is_plain : ℕ → Member → Bool
is_plain width (Column c) = nat_lt c width
is_plain width Left = false
is_plain width Right = false
is_plain width Row = true

abbrev pub is_column : ℕ → Member → Bool
is_column width (Column c) = nat_lt c width
is_column width Left = false
is_column width Right = false
is_column width Row = false

-- a fact over the given number of columns: it names only these and the row, on either side
abbrev pub is_plain_fact : ℕ → Fact → Bool
is_plain_fact width fact = list_all (is_plain width) fact.from && list_all (is_plain width) fact.to

-- a member with its column renumbered, and the given member in place of the row
abbrev pub moved : (ℕ → ℕ) → Member → Member → Member
moved f row (Column c) = Column (f c)
moved f row Left = Left
moved f row Right = Right
moved f row Row = row

abbrev pub moved_fact : (ℕ → ℕ) → Member → Fact → Fact
moved_fact f row fact = record { from = map (moved f row) fact.from; to = map (moved f row) fact.to }

abbrev pub moved_facts : (ℕ → ℕ) → Member → List Fact → List Fact
moved_facts f row facts = map (moved_fact f row) facts

abbrev pub columns_named : List ℕ → List Member
columns_named columns = map (λ c. Column c) columns

-- the fact that columns determine the row, or a side
abbrev pub key_fact : Member → List ℕ → Fact
key_fact row columns = record { from = columns_named columns; to = row ∷ [] }
