-- Changes with which rows that tie are treated alike.
use Rattle.std.specs.Prelude.{◌≡◌, ◌⊎◌, ℕ, ◌+◌, List, [], ◌++◌, Some, codes, slice_get, string_bytes}
use Rattle.std.specs.Fmt.{decimal}
use Rattle.wd_lex.specs.declared.token.Terminal.TheVariants.{Limit}
use Rattle.wd_lex.specs.declared.token.Token.{Token}
use Rattle.wd_lex.specs.declared.token.TokenKind.TheVariants.{Number, Terminal, Word}
use Rattle.wd_keys.specs.declared.change.Change.{Change}

-- a change puts a text in place of the tokens from one up to another
pub record IsInPlace (first last : Token) (text : List ℕ) (change : Change) : Type 0 where
  pub at : change.at ≡ first.span.start
  pub end : change.end ≡ last.span.end
  pub put : string_bytes change.text ≡ text

-- a word of the query, and the text in its place
pub record IsOfWord (tokens : List Token) (word text : List ℕ) (change : Change) : Type 0 where
  pub number : ℕ
  pub token : Token
  pub is : slice_get tokens number ≡ Some token
  pub kind : token.kind ≡ Word word
  pub place : IsInPlace token token text change

-- FETCH FIRST with ties in place of a token up to a number
pub record IsFetch (limit count : Token) (change : Change) : Type 0 where
  pub rows : ℕ
  pub kind : count.kind ≡ Number rows
  pub place : IsInPlace limit count (codes "FETCH FIRST " ++ decimal rows ++ codes " ROWS WITH TIES") change

-- the change puts FETCH FIRST with ties in place of LIMIT and the number that follows it
pub record IsOfLimit (tokens : List Token) (change : Change) : Type 0 where
  pub number : ℕ
  pub limit : Token
  pub count : Token
  pub limit_is : slice_get tokens number ≡ Some limit
  pub count_is : slice_get tokens (number + 1) ≡ Some count
  pub kind : limit.kind ≡ Terminal Limit
  pub fetch : IsFetch limit count change

-- RANK in place of ROW_NUMBER, WITH TIES in place of ONLY, or FETCH FIRST with ties in place of LIMIT
abbrev pub IsAlike : List Token → Change → Type 0
IsAlike tokens change = IsOfWord tokens (codes "row_number") (codes "RANK") change ⊎ (IsOfWord tokens (codes "only") (codes "WITH TIES") change ⊎ IsOfLimit tokens change)
