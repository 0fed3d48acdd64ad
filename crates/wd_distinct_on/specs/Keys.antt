-- The keys of DISTINCT ON and of ORDER BY. A key that is the name of an item stands for what the item stands for.
use Rattle.std.specs.Prelude.{◌&&◌, if◌then◌else◌, Bool, true, false, List, [], ◌∷◌, length, take, Option, Some, None}
use Rattle.wd_lex.specs.declared.token.Token.{Token}
use Rattle.wd_clauses.specs.Names.{is_name, is_same_name}
use Rattle.wd_distinct_on.specs.Kinds.{is_direction, is_number, is_same}
use Rattle.wd_distinct_on.specs.Items.{NamedItem}
use Rattle.wd_distinct_on.specs.Lists.{with_front}

-- what a key sorts by, and ASC, DESC and NULLS after it, where a name stood for an item; else the whole key, and nothing after it
pub record SortKey : Type 0 where
  pub value : List Token
  pub rest : List Token

-- whether the end of what a key sorts by is reached
abbrev pub ends_key : List Token → Bool
ends_key [] = true
ends_key (token ∷ tokens) = is_direction token.kind

-- what a name stands for: what the item with that name stands for, or these tokens where no item has it
abbrev pub value_or : List Token → Token → List NamedItem → List Token
value_or own name [] = own
value_or own name (item ∷ items) = if is_same_name name.kind item.name.kind then item.value else value_or own name items

abbrev pub key_of : List NamedItem → List Token → SortKey
key_of items [] = record { value = []; rest = [] }
key_of items (first ∷ rest) =
    if is_name first.kind && ends_key rest then record { value = value_or (first ∷ []) first items; rest = rest } else record { value = first ∷ rest; rest = [] }

-- a number alone is the position of an item, and is not read as a key
abbrev pub is_place : List Token → Bool
is_place [] = false
is_place (first ∷ rest) = is_number first.kind && ends_key rest

-- the keys, if none is the position of an item
abbrev pub keys_of : List NamedItem → List (List Token) → Option (List SortKey)
keys_of items [] = Some []
keys_of items (part ∷ parts) = if is_place part then None else with_front (key_of items part) (keys_of items parts)

-- what follows tokens at the start that say the same as these
abbrev pub strip : List Token → List Token → Option (List Token)
strip [] tokens = Some tokens
strip (x ∷ xs) [] = None
strip (x ∷ xs) (token ∷ tokens) = if is_same x.kind token.kind then strip xs tokens else None

abbrev pub ends_with : Option (List Token) → Bool
ends_with None = false
ends_with (Some rest) = ends_key rest

-- whether a key of ORDER BY sorts by a key of DISTINCT ON
abbrev pub sorts_by : SortKey → SortKey → Bool
sorts_by key order = ends_with (strip key.value order.value)

abbrev pub is_sorted_by : SortKey → List SortKey → Bool
is_sorted_by key [] = false
is_sorted_by key (order ∷ orders) = if sorts_by key order then true else is_sorted_by key orders

abbrev pub is_among : SortKey → List SortKey → Bool
is_among order [] = false
is_among order (key ∷ keys) = if sorts_by key order then true else is_among order keys

-- whether each key of DISTINCT ON is sorted by
abbrev pub all_sorted : List SortKey → List SortKey → Bool
all_sorted [] orders = true
all_sorted (key ∷ keys) orders = if is_sorted_by key orders then all_sorted keys orders else false

-- whether each key of ORDER BY sorts by one of these keys
abbrev pub all_among : List SortKey → List SortKey → Bool
all_among [] keys = true
all_among (order ∷ orders) keys = if is_among order keys then all_among orders keys else false

abbrev pub are_first : List SortKey → List SortKey → Bool
are_first keys orders = all_sorted keys orders && all_among orders keys

-- whether there is no ORDER BY, or its first keys are those of DISTINCT ON in some order
abbrev pub fits : List SortKey → List SortKey → Bool
fits keys [] = true
fits keys (order ∷ orders) = are_first keys (take (length keys) (order ∷ orders))
