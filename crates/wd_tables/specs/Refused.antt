-- Refused fields of a record, by their places.
use Rattle.std.specs.Prelude.{Option, Some, None, if◌then◌else◌, nat_le}
use Rattle.wd_tables.specs.declared.row.Refused.{Refused}

-- the refused field that is further left; the first argument where both have one place
abbrev pub leftmost : Option Refused → Refused → Refused
leftmost None other = other
leftmost (Some first) other = if nat_le first.place other.place then first else other
