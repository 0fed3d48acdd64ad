-- Each terminal stands before the white space that is printed after it.
use Rattle.std.proofs.Common.{◌≡◌, ℕ, ◌<◌, lit<, codes, List, [], ◌∷◌, ◌++◌, false, Some, refl}
use Rattle.wd_lex.specs.declared.pieces.Kind.TheVariants as kind
use Rattle.wd_lex.specs.declared.token.Terminal.{Terminal}
use Rattle.wd_lex.specs.declared.token.Terminal.TheVariants as m
use Rattle.wd_lex.specs.declared.token.TokenKind.TheVariants as k
use Rattle.wd_lex.specs.Characters.{is_blank, begins_word, goes_on_word}
use Rattle.wd_lex.specs.Pieces.{Word, Symbol, IsPiece, IsRunOf, Stands, kind_of, spelling}
use Rattle.wd_lex.specs.Reading.{kind_at}
use Rattle.wd_lex.proofs.KindFacts.{kind_word}
use Rattle.wd_lex.proofs.Longest.{word_longest, symbol_longest, IsAlone}
use Rattle.wd_lex.proofs.RunFacts.{Stops}
use Rattle.wd_print.specs.Printed.{terminal_piece, gap_after}

pub word_stands : (bytes : List ℕ) (b : ℕ) (rest : List ℕ) → IsRunOf begins_word goes_on_word bytes → goes_on_word b ≡ false → Stands (Word bytes) (b ∷ rest)
word_stands [] b rest is stops = absurd is
word_stands (first ∷ bytes) b rest is stops =
    record { is = is; longest = word_longest (first ∷ bytes) (b ∷ rest) is (kind_word first (bytes ++ b ∷ rest) is.0) stops; good = tt }

symbol_stands : (bytes : List ℕ) (b : ℕ) (rest : List ℕ) → IsPiece (Symbol bytes) → kind_at (bytes ++ b ∷ rest) ≡ kind.Symbol → IsAlone bytes (b ∷ rest) → Stands (Symbol bytes) (b ∷ rest)
symbol_stands bytes b rest is told alone = record { is = is; longest = symbol_longest bytes (b ∷ rest) is told alone; good = tt }

-- the first byte, if there is one, is of ASCII
abbrev pub BeginsInAscii : List ℕ → Type 0
BeginsInAscii [] = Unit {0}
BeginsInAscii (b ∷ bytes) = b < 128

-- a terminal's piece, which its white space ends, and which is no white space
pub record IsTerminalPiece (terminal : Terminal) (rest : List ℕ) : Type 0 where
  pub stands : Stands (terminal_piece terminal) (gap_after terminal ∷ rest)
  pub kind_is : kind_of (terminal_piece terminal) ≡ Some (k.Terminal terminal)
  pub stops : (more : List ℕ) → Stops is_blank (spelling (terminal_piece terminal) ++ more)
  pub ascii : (more : List ℕ) → BeginsInAscii (spelling (terminal_piece terminal) ++ more)

pub terminal_good : (terminal : Terminal) (rest : List ℕ) → IsTerminalPiece terminal rest
unfolding terminal_piece gap_after kind_at
terminal_good m.All rest = record { stands = word_stands (codes "ALL") 32 rest (refl, refl) refl; kind_is = refl; stops = λ more. refl; ascii = λ more. lit< tt }
terminal_good m.And rest = record { stands = word_stands (codes "AND") 32 rest (refl, refl) refl; kind_is = refl; stops = λ more. refl; ascii = λ more. lit< tt }
terminal_good m.As rest = record { stands = word_stands (codes "AS") 32 rest (refl, refl) refl; kind_is = refl; stops = λ more. refl; ascii = λ more. lit< tt }
terminal_good m.Asc rest = record { stands = word_stands (codes "ASC") 32 rest (refl, refl) refl; kind_is = refl; stops = λ more. refl; ascii = λ more. lit< tt }
terminal_good m.By rest = record { stands = word_stands (codes "BY") 32 rest (refl, refl) refl; kind_is = refl; stops = λ more. refl; ascii = λ more. lit< tt }
terminal_good m.Case rest = record { stands = word_stands (codes "CASE") 32 rest (refl, refl) refl; kind_is = refl; stops = λ more. refl; ascii = λ more. lit< tt }
terminal_good m.Constraint rest = record { stands = word_stands (codes "CONSTRAINT") 32 rest (refl, refl) refl; kind_is = refl; stops = λ more. refl; ascii = λ more. lit< tt }
terminal_good m.Create rest = record { stands = word_stands (codes "CREATE") 32 rest (refl, refl) refl; kind_is = refl; stops = λ more. refl; ascii = λ more. lit< tt }
terminal_good m.Cross rest = record { stands = word_stands (codes "CROSS") 32 rest (refl, refl) refl; kind_is = refl; stops = λ more. refl; ascii = λ more. lit< tt }
terminal_good m.Desc rest = record { stands = word_stands (codes "DESC") 32 rest (refl, refl) refl; kind_is = refl; stops = λ more. refl; ascii = λ more. lit< tt }
terminal_good m.Distinct rest = record { stands = word_stands (codes "DISTINCT") 32 rest (refl, refl) refl; kind_is = refl; stops = λ more. refl; ascii = λ more. lit< tt }
terminal_good m.Else rest = record { stands = word_stands (codes "ELSE") 32 rest (refl, refl) refl; kind_is = refl; stops = λ more. refl; ascii = λ more. lit< tt }
terminal_good m.End rest = record { stands = word_stands (codes "END") 32 rest (refl, refl) refl; kind_is = refl; stops = λ more. refl; ascii = λ more. lit< tt }
terminal_good m.False rest = record { stands = word_stands (codes "FALSE") 32 rest (refl, refl) refl; kind_is = refl; stops = λ more. refl; ascii = λ more. lit< tt }
terminal_good m.Fetch rest = record { stands = word_stands (codes "FETCH") 32 rest (refl, refl) refl; kind_is = refl; stops = λ more. refl; ascii = λ more. lit< tt }
terminal_good m.From rest = record { stands = word_stands (codes "FROM") 32 rest (refl, refl) refl; kind_is = refl; stops = λ more. refl; ascii = λ more. lit< tt }
terminal_good m.Full rest = record { stands = word_stands (codes "FULL") 32 rest (refl, refl) refl; kind_is = refl; stops = λ more. refl; ascii = λ more. lit< tt }
terminal_good m.Group rest = record { stands = word_stands (codes "GROUP") 32 rest (refl, refl) refl; kind_is = refl; stops = λ more. refl; ascii = λ more. lit< tt }
terminal_good m.Groups rest = record { stands = word_stands (codes "GROUPS") 32 rest (refl, refl) refl; kind_is = refl; stops = λ more. refl; ascii = λ more. lit< tt }
terminal_good m.Having rest = record { stands = word_stands (codes "HAVING") 32 rest (refl, refl) refl; kind_is = refl; stops = λ more. refl; ascii = λ more. lit< tt }
terminal_good m.Inner rest = record { stands = word_stands (codes "INNER") 32 rest (refl, refl) refl; kind_is = refl; stops = λ more. refl; ascii = λ more. lit< tt }
terminal_good m.Is rest = record { stands = word_stands (codes "IS") 32 rest (refl, refl) refl; kind_is = refl; stops = λ more. refl; ascii = λ more. lit< tt }
terminal_good m.IsNull rest = record { stands = word_stands (codes "ISNULL") 32 rest (refl, refl) refl; kind_is = refl; stops = λ more. refl; ascii = λ more. lit< tt }
terminal_good m.Join rest = record { stands = word_stands (codes "JOIN") 32 rest (refl, refl) refl; kind_is = refl; stops = λ more. refl; ascii = λ more. lit< tt }
terminal_good m.Left rest = record { stands = word_stands (codes "LEFT") 32 rest (refl, refl) refl; kind_is = refl; stops = λ more. refl; ascii = λ more. lit< tt }
terminal_good m.Limit rest = record { stands = word_stands (codes "LIMIT") 32 rest (refl, refl) refl; kind_is = refl; stops = λ more. refl; ascii = λ more. lit< tt }
terminal_good m.Natural rest = record { stands = word_stands (codes "NATURAL") 32 rest (refl, refl) refl; kind_is = refl; stops = λ more. refl; ascii = λ more. lit< tt }
terminal_good m.Not rest = record { stands = word_stands (codes "NOT") 32 rest (refl, refl) refl; kind_is = refl; stops = λ more. refl; ascii = λ more. lit< tt }
terminal_good m.NotNull rest = record { stands = word_stands (codes "NOTNULL") 32 rest (refl, refl) refl; kind_is = refl; stops = λ more. refl; ascii = λ more. lit< tt }
terminal_good m.Null rest = record { stands = word_stands (codes "NULL") 32 rest (refl, refl) refl; kind_is = refl; stops = λ more. refl; ascii = λ more. lit< tt }
terminal_good m.Offset rest = record { stands = word_stands (codes "OFFSET") 32 rest (refl, refl) refl; kind_is = refl; stops = λ more. refl; ascii = λ more. lit< tt }
terminal_good m.On rest = record { stands = word_stands (codes "ON") 32 rest (refl, refl) refl; kind_is = refl; stops = λ more. refl; ascii = λ more. lit< tt }
terminal_good m.Or rest = record { stands = word_stands (codes "OR") 32 rest (refl, refl) refl; kind_is = refl; stops = λ more. refl; ascii = λ more. lit< tt }
terminal_good m.Order rest = record { stands = word_stands (codes "ORDER") 32 rest (refl, refl) refl; kind_is = refl; stops = λ more. refl; ascii = λ more. lit< tt }
terminal_good m.Outer rest = record { stands = word_stands (codes "OUTER") 32 rest (refl, refl) refl; kind_is = refl; stops = λ more. refl; ascii = λ more. lit< tt }
terminal_good m.Over rest = record { stands = word_stands (codes "OVER") 32 rest (refl, refl) refl; kind_is = refl; stops = λ more. refl; ascii = λ more. lit< tt }
terminal_good m.Partition rest = record { stands = word_stands (codes "PARTITION") 32 rest (refl, refl) refl; kind_is = refl; stops = λ more. refl; ascii = λ more. lit< tt }
terminal_good m.Primary rest = record { stands = word_stands (codes "PRIMARY") 32 rest (refl, refl) refl; kind_is = refl; stops = λ more. refl; ascii = λ more. lit< tt }
terminal_good m.Range rest = record { stands = word_stands (codes "RANGE") 32 rest (refl, refl) refl; kind_is = refl; stops = λ more. refl; ascii = λ more. lit< tt }
terminal_good m.Right rest = record { stands = word_stands (codes "RIGHT") 32 rest (refl, refl) refl; kind_is = refl; stops = λ more. refl; ascii = λ more. lit< tt }
terminal_good m.Rows rest = record { stands = word_stands (codes "ROWS") 32 rest (refl, refl) refl; kind_is = refl; stops = λ more. refl; ascii = λ more. lit< tt }
terminal_good m.Select rest = record { stands = word_stands (codes "SELECT") 32 rest (refl, refl) refl; kind_is = refl; stops = λ more. refl; ascii = λ more. lit< tt }
terminal_good m.Table rest = record { stands = word_stands (codes "TABLE") 32 rest (refl, refl) refl; kind_is = refl; stops = λ more. refl; ascii = λ more. lit< tt }
terminal_good m.Then rest = record { stands = word_stands (codes "THEN") 32 rest (refl, refl) refl; kind_is = refl; stops = λ more. refl; ascii = λ more. lit< tt }
terminal_good m.True rest = record { stands = word_stands (codes "TRUE") 32 rest (refl, refl) refl; kind_is = refl; stops = λ more. refl; ascii = λ more. lit< tt }
terminal_good m.Union rest = record { stands = word_stands (codes "UNION") 32 rest (refl, refl) refl; kind_is = refl; stops = λ more. refl; ascii = λ more. lit< tt }
terminal_good m.Unique rest = record { stands = word_stands (codes "UNIQUE") 32 rest (refl, refl) refl; kind_is = refl; stops = λ more. refl; ascii = λ more. lit< tt }
terminal_good m.Using rest = record { stands = word_stands (codes "USING") 32 rest (refl, refl) refl; kind_is = refl; stops = λ more. refl; ascii = λ more. lit< tt }
terminal_good m.When rest = record { stands = word_stands (codes "WHEN") 32 rest (refl, refl) refl; kind_is = refl; stops = λ more. refl; ascii = λ more. lit< tt }
terminal_good m.Where rest = record { stands = word_stands (codes "WHERE") 32 rest (refl, refl) refl; kind_is = refl; stops = λ more. refl; ascii = λ more. lit< tt }
terminal_good m.Window rest = record { stands = word_stands (codes "WINDOW") 32 rest (refl, refl) refl; kind_is = refl; stops = λ more. refl; ascii = λ more. lit< tt }
terminal_good m.With rest = record { stands = word_stands (codes "WITH") 32 rest (refl, refl) refl; kind_is = refl; stops = λ more. refl; ascii = λ more. lit< tt }
terminal_good m.LeftBracket rest = record { stands = symbol_stands (codes "(") 32 rest refl refl (λ _. refl); kind_is = refl; stops = λ more. refl; ascii = λ more. lit< tt }
terminal_good m.RightBracket rest = record { stands = symbol_stands (codes ")") 32 rest refl refl (λ _. refl); kind_is = refl; stops = λ more. refl; ascii = λ more. lit< tt }
terminal_good m.Comma rest = record { stands = symbol_stands (codes ",") 10 rest refl refl (λ _. refl); kind_is = refl; stops = λ more. refl; ascii = λ more. lit< tt }
terminal_good m.Dot rest = record { stands = symbol_stands (codes ".") 32 rest refl refl (λ _. refl); kind_is = refl; stops = λ more. refl; ascii = λ more. lit< tt }
terminal_good m.Semicolon rest = record { stands = symbol_stands (codes ";") 10 rest refl refl (λ _. refl); kind_is = refl; stops = λ more. refl; ascii = λ more. lit< tt }
terminal_good m.Star rest = record { stands = symbol_stands (codes "*") 32 rest refl refl (λ _. refl); kind_is = refl; stops = λ more. refl; ascii = λ more. lit< tt }
terminal_good m.Plus rest = record { stands = symbol_stands (codes "+") 32 rest refl refl (λ _. refl); kind_is = refl; stops = λ more. refl; ascii = λ more. lit< tt }
terminal_good m.Minus rest = record { stands = symbol_stands (codes "-") 32 rest refl refl (λ _. refl); kind_is = refl; stops = λ more. refl; ascii = λ more. lit< tt }
terminal_good m.Slash rest = record { stands = symbol_stands (codes "/") 32 rest refl refl (λ _. refl); kind_is = refl; stops = λ more. refl; ascii = λ more. lit< tt }
terminal_good m.Percent rest = record { stands = symbol_stands (codes "%") 32 rest refl refl (λ _. refl); kind_is = refl; stops = λ more. refl; ascii = λ more. lit< tt }
terminal_good m.Equals rest = record { stands = symbol_stands (codes "=") 32 rest refl refl (λ _. refl); kind_is = refl; stops = λ more. refl; ascii = λ more. lit< tt }
terminal_good m.NotEquals rest = record { stands = symbol_stands (codes "<>") 32 rest refl refl (λ _. refl); kind_is = refl; stops = λ more. refl; ascii = λ more. lit< tt }
terminal_good m.Less rest = record { stands = symbol_stands (codes "<") 32 rest refl refl (λ _. refl); kind_is = refl; stops = λ more. refl; ascii = λ more. lit< tt }
terminal_good m.LessOrEqual rest = record { stands = symbol_stands (codes "<=") 32 rest refl refl (λ _. refl); kind_is = refl; stops = λ more. refl; ascii = λ more. lit< tt }
terminal_good m.Greater rest = record { stands = symbol_stands (codes ">") 32 rest refl refl (λ _. refl); kind_is = refl; stops = λ more. refl; ascii = λ more. lit< tt }
terminal_good m.GreaterOrEqual rest = record { stands = symbol_stands (codes ">=") 32 rest refl refl (λ _. refl); kind_is = refl; stops = λ more. refl; ascii = λ more. lit< tt }
