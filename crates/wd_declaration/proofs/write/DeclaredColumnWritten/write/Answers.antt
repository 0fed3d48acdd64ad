use Rattle.std.proofs.Common.{◌∙◌, ◌∷◌, ◌++◌, ap, string_bytes}
use Rattle.std.proofs.lemmas.Result.{on_ok_weaker}
use Rattle.wd_lex.specs.declared.token.TokenKind.TheVariants as k
use Rattle.wd_read_cursor.specs.Tokens.{Kinds}
use Rattle.wd_read_statements.specs.Grammar.{spell_rules}
use Rattle.wd_print.specs.Printed.{printed}
use Rattle.wd_declaration.specs.Spelled.{rules_of, type_word}
use Rattle.wd_declaration.proofs.write.DeclaredColumnWritten.write.Goals as goal

pub returns : goal.returns
returns c = on_ok_weaker c.write_rules.result (λ last rest.
    let column = c.args.self.now in
    let after : Kinds = spell_rules (rules_of column.not_null) rest in
    last rest ∙ c.in_ok-write_word.ensures after ∙ ap (λ word. string_bytes c.write.new.text ++ printed (k.Word word ∷ after)) c.type_word.ensures
    ∙ c.in_ok-write.ensures (k.Word (type_word column.kind) ∷ after)) c.write_rules.ensures
