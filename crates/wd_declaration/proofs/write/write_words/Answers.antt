use Rattle.std.proofs.Common.{◌∙◌, ◌∷◌, ◌++◌, ap, sym, codes, string_bytes}
use Rattle.std.proofs.lemmas.Result.{on_ok_weaker}
use Rattle.wd_lex.specs.declared.token.TokenKind.TheVariants as k
use Rattle.wd_read_statements.specs.Grammar.{spell_words}
use Rattle.wd_print.specs.Printed.{printed}
use Rattle.wd_declaration.proofs.write.write_words.Goals as goal

pub returns-in_ok-write_terminal-in-Primary : goal.returns-in_ok-write_terminal-in-Primary
returns-in_ok-write_terminal-in-Primary c = on_ok_weaker c.write_word.result (λ last rest.
    last rest ∙ c.in_ok-write_terminal-in-Primary.ensures (k.Word (codes "key") ∷ rest)
    ∙ ap (λ words. string_bytes c.args.text.now ++ printed (spell_words words rest)) (sym c.in-Primary.is)) c.write_word.ensures
