-- The select that replaces one with DISTINCT ON: SELECT n1, .. FROM ( SELECT items, ROW_NUMBER ( ) OVER ( PARTITION BY keys [ORDER BY
-- keys] ) AS "distinct on" FROM .. ) AS "distinct" WHERE "distinct on" = 1. What is added has the place of DISTINCT.
use Rattle.std.specs.Prelude.{ℕ, codes, List, [], ◌∷◌, ◌++◌}
use Rattle.wd_lex.specs.declared.token.Terminal.{Terminal}
use Rattle.wd_lex.specs.declared.token.Terminal.TheVariants as m
use Rattle.wd_lex.specs.declared.token.TokenKind.TheVariants as t
use Rattle.wd_lex.specs.declared.token.Token.{Token}
use Rattle.wd_clauses.specs.Added.{added}
use Rattle.wd_distinct_on.specs.Items.{NamedItem, number_name}
use Rattle.wd_distinct_on.specs.Keys.{SortKey}
use Rattle.wd_distinct_on.specs.Pieces.{Pieces}

-- terminals that are added because of a word
abbrev pub all_added : List Terminal → Token → List Token
all_added [] word = []
all_added (terminal ∷ terminals) word = added terminal word ∷ all_added terminals word

-- a word, a name and a number that are added because of a word
abbrev pub added_word : List ℕ → Token → Token
added_word text word = record { kind = t.Word text; span = word.span }

abbrev pub added_name : List ℕ → Token → Token
added_name text word = record { kind = t.Quoted text; span = word.span }

abbrev pub added_number : ℕ → Token → Token
added_number number word = record { kind = t.Number number; span = word.span }

-- a token, and tokens, with the place of a word
abbrev pub placed : Token → Token → Token
placed token word = record { kind = token.kind; span = word.span }

abbrev pub all_placed : List Token → Token → List Token
all_placed [] word = []
all_placed (token ∷ tokens) word = placed token word ∷ all_placed tokens word

-- a comma, if something follows
abbrev pub comma_before : {A : Type 0} → List A → Token → List Token
comma_before [] word = []
comma_before (next ∷ more) word = added m.Comma word ∷ []

-- the items' names
abbrev pub names : List NamedItem → Token → List Token
names [] word = []
names (item ∷ items) word = item.name ∷ comma_before items word ++ names items word

-- keys one after another
abbrev pub listed : List SortKey → Token → List Token
listed [] word = []
listed (key ∷ keys) word = key.value ++ key.rest ++ comma_before keys word ++ listed keys word

-- SELECT n1, .. FROM ( SELECT items
abbrev pub head : Pieces → List NamedItem → List Token
head select items = added m.Select select.distinct ∷ names items select.distinct ++ all_added (m.From ∷ m.LeftBracket ∷ []) select.distinct ++ select.select ∷ select.items

-- ( ) OVER ( PARTITION BY
unfoldable pub over : Token → List Token
over word = all_added (m.LeftBracket ∷ m.RightBracket ∷ m.Over ∷ m.LeftBracket ∷ m.Partition ∷ m.By ∷ []) word

-- , ROW_NUMBER ( ) OVER ( PARTITION BY keys
abbrev pub number : List SortKey → Token → List Token
number keys word = added m.Comma word ∷ added_word (codes "row_number") word ∷ over word ++ listed keys word

-- [ORDER BY keys] ) AS "distinct on"
abbrev pub order : Pieces → List SortKey → List Token
order select orders =
    select.order.words ++ listed orders select.distinct ++ all_added (m.RightBracket ∷ m.As ∷ []) select.distinct ++ added_name number_name select.distinct ∷ []

-- "distinct on" = 1
abbrev pub is_first : Token → List Token
is_first word = added_name number_name word ∷ added m.Equals word ∷ added_number 1 word ∷ []

-- "distinct" WHERE "distinct on" = 1
abbrev pub first : Token → List Token
first word = added_name (codes "distinct") word ∷ added m.Where word ∷ is_first word

-- FROM .. ) AS "distinct" WHERE "distinct on" = 1
abbrev pub tail : Pieces → List Token
tail select = select.from ++ all_added (m.RightBracket ∷ m.As ∷ []) select.distinct ++ first select.distinct

-- the whole select, and what follows it
unfoldable pub written : Pieces → List NamedItem → List SortKey → List SortKey → List Token
written select items keys orders = head select items ++ number keys select.distinct ++ order select orders ++ tail select ++ select.order.after
