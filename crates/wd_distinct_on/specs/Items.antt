-- The items of a select list by their own names: the name of `c`, of `x.c` and of `value AS c` is c.
use Rattle.std.specs.Prelude.{ℕ, ◌-◌, ◌&&◌, ◌||◌, codes, if◌then◌else◌, Bool, true, false, List, [], ◌∷◌, length, take, drop, Option, Some, None}
use Rattle.std.specs.Str.{bytes_eq}
use Rattle.wd_lex.specs.declared.token.TokenKind.{TokenKind}
use Rattle.wd_lex.specs.declared.token.TokenKind.TheVariants as t
use Rattle.wd_lex.specs.declared.token.Token.{Token}
use Rattle.wd_clauses.specs.Names.{is_name, is_same_name}
use Rattle.wd_distinct_on.specs.Kinds.{is_as, is_dot}
use Rattle.wd_distinct_on.specs.Lists.{with_front}

-- an item's name, and what it stands for
pub record NamedItem : Type 0 where
  pub name : Token
  pub value : List Token

-- c or x.c
abbrev pub column_of : List Token → Option NamedItem
column_of (c ∷ []) = if is_name c.kind then Some (record { name = c; value = c ∷ [] }) else None
column_of (x ∷ dot ∷ c ∷ []) = if is_name x.kind && is_dot dot.kind && is_name c.kind then Some (record { name = c; value = x ∷ dot ∷ c ∷ [] }) else None
column_of _ = None

-- the name after AS
abbrev pub after_as : List Token → Option Token
after_as (word ∷ name ∷ []) = if is_as word.kind && is_name name.kind then Some name else None
after_as _ = None

abbrev pub item_with : List Token → Option Token → Option NamedItem
item_with tokens None = column_of tokens
item_with tokens (Some name) = Some (record { name = name; value = take (length tokens - 2) tokens })

-- value AS c, or a column
abbrev pub item_of : List Token → Option NamedItem
item_of tokens = item_with tokens (after_as (drop (length tokens - 2) tokens))

abbrev pub with_item : Option NamedItem → Option (List NamedItem) → Option (List NamedItem)
with_item None items = None
with_item (Some item) items = with_front item items

-- the items, if each has a name
abbrev pub items_of : List (List Token) → Option (List NamedItem)
items_of [] = Some []
items_of (part ∷ parts) = with_item (item_of part) (items_of parts)

abbrev pub has_name : Token → List NamedItem → Bool
has_name name [] = false
has_name name (item ∷ items) = if is_same_name name.kind item.name.kind then true else has_name name items

-- the name that the row number gets
abbrev pub number_name : List ℕ
number_name = codes "distinct on"

abbrev pub is_number_name : TokenKind → Bool
is_number_name (t.Word text) = bytes_eq text number_name
is_number_name (t.Quoted text) = bytes_eq text number_name
is_number_name _ = false

-- no two items have the same name, and none has that of the row number
abbrev pub are_distinct : List NamedItem → Bool
are_distinct [] = true
are_distinct (item ∷ items) = if is_number_name item.name.kind || has_name item.name items then false else are_distinct items
