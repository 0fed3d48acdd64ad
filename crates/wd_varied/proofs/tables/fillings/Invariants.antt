use Rattle.std.proofs.Common.{◌≡◌, ◌++◌, drop, map}
use Rattle.wd_schema.specs.Tables.{key_of, table_of}
use Rattle.wd_varied.specs.Patterns.{filling_of}
use Rattle.wd_varied.specs.Suggested.{hints_of}
use Rattle.wd_varied.specs.Varied.{by_place, filling, fillings}
use Rattle.wd_varied.proofs.tables.fillings.Given as goal

abbrev pub invariant-loop-c : goal.invariant-loop-c
invariant-loop-c l = map (filling_of l.suggested.all.items) l.fillings.items ++ by_place (λ c column. filling (hints_of l.suggested) (map key_of l.table.keys.items) l.rows l.number column (record { table = l.at; column = c })) l.c (drop l.c l.table.columns.items)
    ≡ fillings (hints_of l.suggested) (table_of l.table) l.at l.rows l.number
