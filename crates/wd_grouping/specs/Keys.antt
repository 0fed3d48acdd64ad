-- The keys of GROUP BY. A key that is a whole number means the item with this number, counted from 1. A key that is neither a column
-- nor a list of keys gets a column of its own.
use Rattle.std.specs.Prelude.{ℕ, ◌+◌, ◌-◌, ◌==◌, ◌&&◌, ◌||◌, not, codes, if◌then◌else◌, nat_lt, Bool, true, false, List, [], ◌∷◌, length, take, drop, Option, Some, None}
use Rattle.wd_lex.specs.declared.token.Token.{Token}
use Rattle.wd_clauses.specs.Names.{is_name}
use Rattle.wd_distinct_on.specs.Items.{NamedItem, column_of, item_of}
use Rattle.wd_distinct_on.specs.Lists.{with_front}
use Rattle.wd_using.specs.Kinds.{ends_value, has}
use Rattle.wd_grouping.specs.Kinds.{begins_sets, is_over, is_plain, number_of}

-- what is grouped by, and the name of the column that replaces it, if it is an expression
pub record GroupKey : Type 0 where
  pub value : List Token
  pub name : Option (List ℕ)

abbrev pub is_item : Option NamedItem → Bool
is_item None = false
is_item (Some item) = true

-- c or x.c
abbrev pub is_column : List Token → Bool
is_column tokens = is_item (column_of tokens)

-- whether a key may be a list of keys in brackets, or ROLLUP, CUBE or GROUPING SETS; what begins with a bracket or a plus sign may be
-- one, and so may a key of no tokens
abbrev pub begins_set : List Token → Bool
begins_set [] = true
begins_set (first ∷ tokens) = is_plain first.kind || begins_sets first.kind

-- whether a key is left as it is
abbrev pub stays : List Token → Bool
stays part = begins_set part || is_column part

abbrev pub all_stay : List (List Token) → Bool
all_stay [] = true
all_stay (part ∷ parts) = if stays part then all_stay parts else false

abbrev pub ordinal_of : List Token → Option ℕ
ordinal_of (token ∷ []) = number_of token.kind
ordinal_of tokens = None

-- the item with this number
abbrev pub item_at : ℕ → List (List Token) → Option (List Token)
item_at ordinal [] = None
item_at ordinal (item ∷ items) = if ordinal == 1 then Some item else item_at (ordinal - 1) items

-- whether tokens are the end of a value and a name that follows it
abbrev pub is_named_value : List Token → Bool
is_named_value (before ∷ name ∷ []) = ends_value before.kind && is_name name.kind
is_named_value tokens = false

-- an item without the name that follows its value without AS
abbrev pub without_name : List Token → List Token
without_name item = if is_named_value (drop (length item - 2) item) then take (length item - 1) item else item

abbrev pub value_in : List Token → Option NamedItem → List Token
value_in item None = without_name item
value_in item (Some named) = named.value

abbrev pub value_of_item : Option (List Token) → Option (List Token)
value_of_item None = None
value_of_item (Some item) = Some (value_in item (item_of item))

abbrev pub value_by : List (List Token) → List Token → Option ℕ → Option (List Token)
value_by items part None = Some part
value_by items part (Some ordinal) = value_of_item (item_at ordinal items)

-- the value of a key: that of the item with its number, without its name, or the key itself
abbrev pub value_of : List (List Token) → List Token → Option (List Token)
value_of items part = value_by items part (ordinal_of part)

-- the most expressions among the keys (this project's choice)
abbrev pub most_names : ℕ
most_names = 8

-- the names of the columns for expressions
abbrev pub name_at : ℕ → Option (List ℕ)
name_at number =
    if number == 0 then Some (codes "group 1")
    else (if number == 1 then Some (codes "group 2")
    else (if number == 2 then Some (codes "group 3")
    else (if number == 3 then Some (codes "group 4")
    else (if number == 4 then Some (codes "group 5")
    else (if number == 5 then Some (codes "group 6")
    else (if number == 6 then Some (codes "group 7")
    else (if number == 7 then Some (codes "group 8")
    else None)))))))

-- the most tokens of an expression (this project's choice)
abbrev pub most_in_expression : ℕ
most_in_expression = 256

-- whether rows may be grouped by an expression: it has no window call and is not too long
abbrev pub may_group : List Token → Bool
may_group value = not (nat_lt most_in_expression (length value)) && not (has is_over value)

abbrev pub named : List Token → Option (List ℕ) → Option GroupKey
named value None = None
named value (Some name) = if may_group value then Some (record { value = value; name = Some name }) else None

abbrev pub grouped_by : ℕ → Option (List Token) → Option GroupKey
grouped_by number None = None
grouped_by number (Some value) = if is_column value then Some (record { value = value; name = None }) else named value (name_at number)

-- a key; the given number of expressions come before it
abbrev pub key_of : ℕ → List (List Token) → List Token → Option GroupKey
key_of number items part = if stays part then Some (record { value = part; name = None }) else grouped_by number (value_of items part)

-- how many expressions come before the next key
abbrev pub next : ℕ → Option (List ℕ) → ℕ
next number None = number
next number (Some name) = if nat_lt number most_names then number + 1 else number

abbrev pub with_key : (ℕ → Option (List GroupKey)) → ℕ → Option GroupKey → Option (List GroupKey)
with_key further number None = None
with_key further number (Some key) = with_front key (further (next number key.name))

-- the keys, by these items, if each is read
abbrev pub keys_of : ℕ → List (List Token) → List (List Token) → Option (List GroupKey)
keys_of number items [] = Some []
keys_of number items (part ∷ parts) = with_key (λ further. keys_of further items parts) number (key_of number items part)

abbrev pub is_expression : Option (List ℕ) → Bool
is_expression None = false
is_expression (Some name) = true

-- whether an expression is among the keys
abbrev pub have_names : List GroupKey → Bool
have_names [] = false
have_names (key ∷ keys) = if is_expression key.name then true else have_names keys
