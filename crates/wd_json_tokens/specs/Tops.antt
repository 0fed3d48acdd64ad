-- What is seen of a JSON value at its top.
use Rattle.std.specs.Prelude.{◌≡◌, ℕ, ◌-◌, ◌<◌, List, Some}
use Rattle.json.specs.Token.{Token}
use Rattle.serde_json.specs.Data.{Data, null, boolean, number, string, array, object, Items, Members}
use Rattle.serde_json.specs.View.{number_view}
use Rattle.wd_json_tokens.specs.Values.{value_at, list_at, object_at}
use Rattle.wd_json_tokens.specs.declared.tops.Top.{Top}
use Rattle.wd_json_tokens.specs.declared.tops.Top.TheVariants as top

-- this value is seen at the top of d
abbrev pub IsTop : Top → Data → Type 0
IsTop top.Null d = d ≡ null
IsTop (top.Bool b) d = d ≡ boolean b
IsTop (top.Number n) d = d ≡ number (number_view n)
IsTop (top.Text s) d = d ≡ string s.now
IsTop top.List d = (ds : Items) × (d ≡ array ds)
IsTop top.Object d = (ms : Members) × (d ≡ object ms)

-- a value begins at the front of the tokens: a list or an object has its elements or members still to come, any other one is passed
abbrev pub Begins : ℕ → List Token → Top → List Token → Type 0
Begins depth old top.List new = (0 < depth) × (value_at depth old ≡ list_at (depth - 1) new)
Begins depth old top.Object new = (0 < depth) × (value_at depth old ≡ object_at (depth - 1) new)
Begins depth old t new = (d : Data) × (value_at depth old ≡ Some (d, new)) × IsTop t d

-- a value with this top is passed
abbrev pub Passes : ℕ → List Token → Top → List Token → Type 0
Passes depth old t new = (d : Data) × (value_at depth old ≡ Some (d, new)) × IsTop t d
