-- Laws of tokens and their trees, over the definitions alone.
use Rattle.std.specs.Prelude.{◌≡◌}
use Rattle.wd_read_cursor.specs.Tokens.{Kinds}
use Rattle.wd_syntax.specs.Tree.{QueryTree}
use Rattle.wd_syntax.specs.Spelling.{spell}
use Rattle.wd_syntax.specs.Levels.{IsWellLevelled}

-- The tokens spell the query, and the query is well-levelled.
abbrev pub IsTreeOf : Kinds → QueryTree → Type 0
IsTreeOf ts q = IsWellLevelled q × (spell q ≡ ts)

-- One token list has at most one well-levelled tree.
abbrev pub HasOneTree : Type 0
HasOneTree = (ts : Kinds) (first second : QueryTree) → IsWellLevelled first → IsWellLevelled second → spell first ≡ ts → spell second ≡ ts → first ≡ second
