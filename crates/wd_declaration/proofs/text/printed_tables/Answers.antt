use Rattle.std.proofs.Common.{◌∙◌, [], ◌++◌, append-nil, ap, sym, string_bytes}
use Rattle.wd_read_cursor.specs.Tokens.{Kinds}
use Rattle.wd_read_statements.specs.Grammar.{spell_schema}
use Rattle.wd_print.specs.Printed.{printed}
use Rattle.wd_declaration.specs.Spelled.{schema_of}
use Rattle.wd_declaration.proofs.text.printed_tables.Goals as goal

pub returns : goal.returns
returns c =
    let kinds : Kinds = spell_schema (schema_of c.args.tables.now) in
    sym (append-nil (string_bytes c.write_list.new.text)) ∙ c.in_ok-write_list.ensures [] ∙ ap (λ l. l ++ printed kinds) c.new-text.ensures.bytes
