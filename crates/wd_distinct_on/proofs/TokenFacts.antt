-- Terminals are one exactly where their numbers are.
use Rattle.std.proofs.Common.{◌≡◌, ◌≢◌, Bool, eqb, true, false, ap, sym, refl, rules}
use Rattle.std.proofs.lemmas.Bool.{eq-eqb}
use denote.Enum.Bare.{sameb, same_true, same_false}
use Rattle.wd_lex.specs.contracts.token.Terminal.{the_type}
use Rattle.wd_lex.specs.declared.token.Terminal.{Terminal}
use Rattle.wd_lex.specs.Terminals.{terminal_code}
use Rattle.wd_lex.proofs.TerminalLaws.{same_terminal}
use Rattle.wd_read_cursor.proofs.Eaten.{not_same}

one_terminal : (x y : Terminal) → x ≡ y → eqb (terminal_code x) (terminal_code y) ≡ true
one_terminal x y e = eq-eqb (terminal_code x) (terminal_code y) (ap terminal_code e)

other_terminal : (x y : Terminal) → x ≢ y → eqb (terminal_code x) (terminal_code y) ≡ false
other_terminal x y ne = not_same (terminal_code x) (terminal_code y) (λ e. ne (same_terminal x y e))

same_by : (x y : Terminal) (b : Bool) → sameb the_type x y ≡ b → b ≡ eqb (terminal_code x) (terminal_code y)
same_by x y true e = sym (one_terminal x y (same_true the_type (search rules) x y e))
same_by x y false e = sym (other_terminal x y (same_false the_type x y e))

pub same_codes : (x y : Terminal) → sameb the_type x y ≡ eqb (terminal_code x) (terminal_code y)
same_codes x y = same_by x y (sameb the_type x y) refl
