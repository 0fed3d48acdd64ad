-- A query without DISTINCT ON.
use Rattle.std.specs.Prelude.{ℕ, ◌≡◌, ◌<◌, ◌&&◌, if◌then◌else◌, List, [], ◌∷◌, ◌++◌, length, take, drop, Option, Some, None, Result, Ok, Err}
use Rattle.wd_lex.specs.declared.token.Token.{Token}
use Rattle.wd_clauses.specs.declared.error.RespellError.{RespellError}
use Rattle.wd_clauses.specs.declared.error.RespellError.TheVariants.{TooLong, OutOfMemory}
use Rattle.wd_clauses.specs.Given.{most_tokens}
use Rattle.wd_clauses.specs.Parts.{parts}
use Rattle.wd_distinct_on.specs.Items.{NamedItem, are_distinct, items_of}
use Rattle.wd_distinct_on.specs.Keys.{SortKey, fits, keys_of}
use Rattle.wd_distinct_on.specs.Pieces.{Pieces, begins_select, select_at}
use Rattle.wd_distinct_on.specs.Selects.{respell_backwards}
use Rattle.wd_distinct_on.specs.Written.{written}

-- the parts of a list that may be empty
abbrev pub parts_in : List Token → Option (List (List Token))
parts_in [] = Some []
parts_in (token ∷ tokens) = parts (token ∷ tokens)

infixl 10 ◌>>=◌
abbrev pub ◌>>=◌ : {A B : Type 0} → Option A → (A → Option B) → Option B
None >>= f = None
(Some x) >>= f = f x

-- the items of a list
abbrev pub items_in : List Token → Option (List NamedItem)
items_in tokens = parts tokens >>= items_of

-- the keys of a list, by these items
abbrev pub keys_in : List NamedItem → List Token → Option (List SortKey)
keys_in items tokens = parts_in tokens >>= keys_of items

-- the replacement of a select after these tokens, if its names are distinct and its keys fit
abbrev pub if_fit : List Token → Pieces → List NamedItem → List SortKey → List SortKey → Option (List Token)
if_fit front select items keys orders = if are_distinct items && fits keys orders then Some (front ++ written select items keys orders) else None

abbrev pub with_orders : List Token → Pieces → List NamedItem → List SortKey → Option (List Token)
with_orders front select items keys = keys_in items select.order.keys >>= λ orders. if_fit front select items keys orders

abbrev pub with_keys : List Token → Pieces → List NamedItem → Option (List Token)
with_keys front select items = keys_in items select.keys >>= λ keys. with_orders front select items keys

-- the replacement of a select after these tokens
unfoldable pub respelled_select : List Token → Pieces → Option (List Token)
respelled_select front select = items_in select.items >>= λ items. with_keys front select items

-- a query in which the select that begins at a place is respelled
unfoldable pub respell_at : ℕ → List Token → Option (List Token)
respell_at place tokens = select_at (drop place tokens) >>= λ select. respelled_select (take place tokens) select

-- the most selects with DISTINCT ON that are looked at (this project's choice)
abbrev pub most_selects : ℕ
most_selects = 64

-- a query without DISTINCT ON
abbrev pub respelled : List Token → Result (List Token) RespellError
respelled tokens = respell_backwards begins_select respell_at most_selects tokens

-- What a function returned is what is respelled, unless memory ran out.
abbrev pub Gives : {X : Type 0} → (X → List Token) → Result X RespellError → Result (List Token) RespellError → Type 0
Gives view (Ok found) made = made ≡ Ok (view found)
Gives view (Err TooLong) made = made ≡ Err TooLong
Gives view (Err OutOfMemory) made = Unit {0}

abbrev pub IsTooLong : Option (List Token) → Type 0
IsTooLong None = ⊥
IsTooLong (Some tokens) = most_tokens < length tokens

-- What a function returned is what is written, if that is not too long, unless memory ran out.
abbrev pub MayWrite : {X : Type 0} → (X → List Token) → Result (Option X) RespellError → Option (List Token) → Type 0
MayWrite view (Ok None) made = made ≡ None
MayWrite view (Ok (Some found)) made = made ≡ Some (view found)
MayWrite view (Err TooLong) made = IsTooLong made
MayWrite view (Err OutOfMemory) made = Unit {0}
