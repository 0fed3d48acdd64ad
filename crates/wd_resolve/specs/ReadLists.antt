-- How contracts see the part of a select list that is read.
use Rattle.std.specs.Prelude.{◌≡◌, map}
use Rattle.wd_resolve.specs.declared.listed.ReadList.{ReadList}
use Rattle.wd_resolve_list.specs.SelectLists.{projected_of, projected_shown}
use Rattle.wd_resolve_list.specs.Outputs.{expressions_of, output_of}

-- the projected inputs are those of the outputs
abbrev pub IsCounted : ReadList → Type 0
IsCounted l = projected_shown l.projected ≡ projected_of (expressions_of (map output_of l.outputs.items))
