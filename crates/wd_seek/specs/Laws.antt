-- A law over the definitions of the search.
use Rattle.std.specs.Prelude.{◌≡◌, ◌↔◌, List, true}
use Rattle.wd_value.specs.Rows.{Instance}
use Rattle.wd_schema.specs.Meets.{Meets}
use Rattle.wd_schema.specs.Tables.{TableRule}
use Rattle.wd_seek.specs.Sought.{is_meeting}

-- the candidates that are tried are those that meet the schema
abbrev pub TestDecidesMeeting : Type 0
TestDecidesMeeting = (tables : List TableRule) (instance : Instance) → is_meeting tables instance ≡ true ↔ Meets tables instance
