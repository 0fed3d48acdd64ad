use Rattle.std.proofs.Common.{◌∙◌, List, map, None, ap}
use Rattle.wd_read_cursor.specs.declared.name.Name.{Name}
use Rattle.wd_read_statements.specs.Written.{ElementTree, Key, KeyTree}
use Rattle.wd_dialect_read.specs.Said.{identifier_text}
use Rattle.wd_dialect_schema.specs.Meaning.{name_of}
use Rattle.wd_dialect_schema.proofs.NameFacts.{names_are}
use Rattle.wd_dialect_schema.proofs.element.declared_key.Goals as goal

pub returns : goal.returns
returns c =
    let with_names : List Name → ElementTree = λ names. let key : KeyTree = record { constraint = None; words = c.args.key.now.words; columns = names } in Key key in
    ap with_names (names_are c.in_ok-columns.columns.items ∙ ap (map name_of) (c.in_ok-columns.ensures ∙ ap (map identifier_text) c.deref.ensures.value))
