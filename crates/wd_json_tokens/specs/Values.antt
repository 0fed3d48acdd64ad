-- The JSON value at the front of tokens, at the depth that is left for it.
use Rattle.std.specs.Prelude.{ℕ, List, length, Option}
use Rattle.json.specs.Token.{Token}
use Rattle.json.specs.Json as json
use Rattle.json.specs.Json.{parse_map}
use Rattle.serde_json.specs.Data.{Data, array, object, Items, Members, no_members}
use Rattle.serde_json.specs.Read.{of_json, of_items, of_members, converted}

-- the value at the front, with lists and objects nested no deeper than the number, and the tokens after it
unfoldable pub value_at : ℕ → List Token → Option (Data × List Token)
value_at depth ts = converted of_json (json.value depth ts)

-- the elements at the front up to the end of their list, and the tokens after it
unfoldable pub items_at : ℕ → List Token → Option (Items × List Token)
items_at depth ts = converted of_items (json.items (json.value depth) (length ts) ts)

-- the members at the front up to the end of their object, put one after another to those found before, and the tokens after it
unfoldable pub members_at : ℕ → Members → List Token → Option (Members × List Token)
members_at depth found ts = converted (λ ms. of_members ms found) (json.members (json.value depth) (length ts) ts)

-- a list whose bracket has been passed
abbrev pub list_at : ℕ → List Token → Option (Data × List Token)
list_at depth ts = parse_map array (items_at depth ts)

-- an object whose brace has been passed
abbrev pub object_at : ℕ → List Token → Option (Data × List Token)
object_at depth ts = parse_map object (members_at depth no_members ts)
