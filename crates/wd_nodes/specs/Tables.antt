-- The tables that are kept one way or the other.
use Rattle.wd_value.specs.Rows.{Instance, instance_of}
use Rattle.wd_nodes.specs.declared.tables.KeptTables.{KeptTables}
use Rattle.wd_nodes.specs.declared.tables.KeptTables.TheVariants.{ByRow, ByColumn, Own}

-- lists of rows, the rows that stand along columns, or rows of their own
abbrev pub tables_kept : KeptTables → Instance
tables_kept (ByRow tables) = instance_of tables.now
tables_kept (ByColumn tables) = tables.now
tables_kept (Own tables) = tables.now
