-- FROM and what follows it, as the code's values show them, and the code's answers.
use Rattle.std.specs.Prelude.{◌≡◌, ◌-◌, ℕ, List, length, map, Option, Result, Ok, Err}
use Rattle.wd_syntax.specs.declared.query.From.{From}
use Rattle.wd_syntax.specs.declared.query.Limits.{Limits}
use Rattle.wd_read_cursor.specs.declared.name.Name.{Name}
use Rattle.wd_syntax.specs.Tree.{TableTree, JoinTree, WindowTree, Key, Tail as TailTree, keys_of}
use Rattle.wd_syntax.specs.View.{view_table, view_joined, view_option, view_grouping, view_named_window, view_key}
use Rattle.wd_read_cursor.specs.Cursor.{Limit as PastLimits, Unexpected as NoTree}
use Rattle.wd_read_cursor.specs.Tokens.{Kinds}
use Rattle.wd_syntax.specs.declared.query.Query.{Query}
use Rattle.wd_syntax.specs.Limits.{most_levels, most_operators}
use Rattle.wd_syntax.specs.View.{view_query}
use Rattle.wd_parse.specs.Reading.{whole}
use Rattle.wd_parse.specs.declared.query.Ending.{Ending}
use Rattle.wd_parse.specs.declared.query.Tail.{Tail}
use Rattle.wd_parse.specs.declared.error.ParseError.{ParseError}
use Rattle.wd_parse.specs.declared.error.ParseError.TheVariants.{Unexpected, PastLimit, OutOfMemory}

-- the tables of FROM
abbrev pub view_from : From → TableTree × List JoinTree
view_from from = (view_table from.first, map view_joined from.joined.items)

-- what follows HAVING
abbrev pub view_ending : Ending → List (Name × WindowTree) × List Key × Option Limits
view_ending ending = (map view_named_window ending.windows.items, map view_key ending.order.items, ending.limits)

-- what follows FROM
abbrev pub view_tail : Tail → TailTree
view_tail tail = record { filter = view_option tail.filter; grouping = view_grouping tail.grouping; windows = map view_named_window tail.ending.windows.items; order = keys_of (map view_key tail.ending.order.items); limits = tail.ending.limits }

-- The answer is that of the reading of the tokens, or memory ran out.
abbrev pub Answers : Result Query ParseError → Kinds → Type 0
Answers (Ok query) ts = whole most_operators most_levels ts ≡ Ok (view_query query)
Answers (Err (Unexpected place)) ts = (left : ℕ) × (whole most_operators most_levels ts ≡ Err (NoTree left)) × (place ≡ length ts - left)
Answers (Err (PastLimit place)) ts = (left : ℕ) × (whole most_operators most_levels ts ≡ Err (PastLimits left)) × (place ≡ length ts - left)
Answers (Err OutOfMemory) ts = Unit {0}
