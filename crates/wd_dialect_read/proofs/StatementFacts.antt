-- Where a statement begins.
use Rattle.std.proofs.Common.{◌≡◌, suc, nat_eq, true, false, List, [], ◌∷◌, length, Some, None, refl, arith, eqb-true}
use Rattle.std.proofs.lemmas.Bool.{true≢false}
use Rattle.wd_lex.specs.declared.token.Token.{Token}
use Rattle.wd_lex.specs.Lexed.{kinds_of}
use Rattle.wd_dialect_read.specs.Reading.{statement_at, statement_if}

pub statement_goes : (tokens : List Token) → nat_eq (length tokens) 0 ≡ false → statement_if (kinds_of tokens) ≡ Some (statement_at (kinds_of tokens))
unfolding statement_if
statement_goes [] e = absurd (true≢false e)
statement_goes (token ∷ tokens) e = refl

pub statement_ends : (tokens : List Token) → nat_eq (length tokens) 0 ≡ true → statement_if (kinds_of tokens) ≡ None
unfolding statement_if
statement_ends [] e = refl
statement_ends (token ∷ tokens) e = absurd (let none : suc (length tokens) ≡ 0 = eqb-true (suc (length tokens)) 0 e in omega arith)
