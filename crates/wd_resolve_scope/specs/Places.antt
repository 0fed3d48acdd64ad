-- What may appear at which place of a query.
use Rattle.std.specs.Prelude.{Bool, true, false}
use Rattle.wd_resolve_scope.specs.declared.context.Place.{Place}
use Rattle.wd_resolve_scope.specs.declared.context.Place.TheVariants.{SelectList, On, Where, Having, Window, Argument, Aggregated, SortKey}

-- window calls may appear only in the select list (this project's choice: SQL and PG allow them in the final ORDER BY too)
abbrev pub allows_window_calls : Place → Bool
allows_window_calls SelectList = true
allows_window_calls On = false
allows_window_calls Where = false
allows_window_calls Having = false
allows_window_calls Window = false
allows_window_calls Argument = false
allows_window_calls Aggregated = false
allows_window_calls SortKey = false

-- aggregates and GROUPING may appear in what is read of groups, but not in another aggregate
abbrev pub allows_group_calls : Place → Bool
allows_group_calls SelectList = true
allows_group_calls On = false
allows_group_calls Where = false
allows_group_calls Having = true
allows_group_calls Window = true
allows_group_calls Argument = true
allows_group_calls Aggregated = false
allows_group_calls SortKey = true

-- the place of the arguments of a window call: no window call may appear there; the call's place decides the rest
abbrev pub within_call : Place → Place
within_call SelectList = Argument
within_call place = place
