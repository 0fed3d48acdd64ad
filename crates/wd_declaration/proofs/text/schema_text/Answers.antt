use Rattle.std.proofs.Common.{◌≡◌, ◌∙◌, ◌≤◌, IsUtf8, arith, length, subst, string_bytes}
use Rattle.wd_read_statements.specs.Grammar.{spell_schema}
use Rattle.wd_print.specs.Printed.{printed}
use Rattle.wd_declaration.specs.Spelled.{schema_of}
use Rattle.wd_lex.specs.Lexed.{most_bytes}
use Rattle.wd_declaration.proofs.SpelledFacts.{printed_spells}
use Rattle.wd_declaration.proofs.text.schema_text.Goals as goal

pub returns-clause-spells : goal.returns-clause-spells
returns-clause-spells c =
    let tables = c.args.tables.now in
    let is : string_bytes c.in_ok-text.text ≡ printed (spell_schema (schema_of tables)) = c.in_ok-text.ensures in
    let same : c.as_str.result.now ≡ printed (spell_schema (schema_of tables)) = c.as_str.ensures.value ∙ is in
    let short : length c.as_str.result.now ≤ most_bytes = omega arith in
    printed_spells (string_bytes c.in_ok-text.text) tables is (record { short = subst (λ t. length t ≤ most_bytes) same short; utf8 = subst IsUtf8 same c.as_str.utf8 })
