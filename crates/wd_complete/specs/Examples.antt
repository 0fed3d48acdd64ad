-- A query of the plain class: SELECT b, row_number() OVER (ORDER BY a) FROM p, over
-- CREATE TABLE p (a BOOLEAN, b TEXT NOT NULL, UNIQUE (a, b)).
use Rattle.std.specs.Prelude.{ℕ, true, false, codes, List, [], ◌∷◌, None}
use Rattle.wd_read_cursor.specs.declared.name.Name.{Name}
use Rattle.wd_syntax.specs.Tree as tree
use Rattle.wd_syntax.specs.Tree.{OverTree, QueryTree, more_keys, named, no_joins, no_keys, no_trees, over_window, query, select, shown, window}
use Rattle.wd_value.specs.declared.value.ColumnType.TheVariants as type
use Rattle.wd_schema.specs.Tables.{KeyRule, TableRule}
use Rattle.wd_schema.specs.declared.table.Column.{Column}
use Rattle.wd_complete.specs.Queries.{IsPlainQuery}

abbrev pub unquoted : List ℕ → Name
unquoted text = record { text = text; quoted = false }

abbrev pub first_column : Column
first_column = record { name = codes "a"; kind = type.Boolean; not_null = false }

abbrev pub second_column : Column
second_column = record { name = codes "b"; kind = type.Text; not_null = true }

abbrev pub the_key : KeyRule
the_key = record { columns = 0 ∷ 1 ∷ []; primary = false; nulls_distinct = true }

abbrev pub the_tables : List TableRule
the_tables = record { name = codes "p"; columns = first_column ∷ second_column ∷ []; keys = the_key ∷ [] } ∷ []

abbrev pub the_over : OverTree
the_over = over_window (window None no_trees (more_keys (tree.Column (unquoted (codes "a"))) None None no_keys) None)

abbrev pub the_query : QueryTree
the_query = query (select (record {
  quantifier = None;
  items = shown (tree.Column (unquoted (codes "b"))) None ∷ shown (tree.Call (unquoted (codes "row_number")) no_trees the_over) None ∷ [];
  tail = record { filter = None; grouping = record { items = []; having = None }; windows = []; order = no_keys; limits = None };
}) (named (unquoted (codes "p")) None) no_joins) false

abbrev pub ExampleIsPlain : Type 0
ExampleIsPlain = IsPlainQuery the_tables the_query
