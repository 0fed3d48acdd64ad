-- What is read of a witness from tokens, part by part.
use Rattle.std.specs.Prelude.{◌≡◌, ◌≢◌, ℕ, List, [], ◌∷◌, All, codes, Bool, true, false, Option, Some, None, option_map, String, Vec, string_bytes, ⊤}
use Rattle.std.specs.declared.alloc.Global.{Global}
use Rattle.json.specs.Token.{Token}
use Rattle.serde_json.specs.Data.{Data, Members, no_members, member}
use Rattle.serde_json.specs.Find.{get_member}
use Rattle.wd_json_tokens.specs.Pairs.{Fills, with_member}
use Rattle.wd_json_tokens.specs.Values.{value_at}
use Rattle.wd_value.specs.Rows.{rows_of}
use Rattle.wd_value.specs.declared.value.Value.{Value}
use Rattle.wd_witness_text.specs.Json.{rows_json, tables_json, choice_json}
use Rattle.wd_witness_text.specs.Witnesses.{TableRows, Fits64}

-- d is the JSON value of this x, which fits, or of none that fits
abbrev pub IsFitting : {A : Type 0} → (A → Data) → (A → Type 0) → Option A → Data → Type 0
IsFitting form Fits (Some x) d = (d ≡ form x) × Fits x
IsFitting form Fits None d = (x : _) → Fits x → d ≢ form x

-- a value is taken from the tokens, which is the JSON value of this x, which fits, or of none that fits
abbrev pub TakesFitting : {A : Type 0} → (A → Data) → (A → Type 0) → Option A → ℕ → List Token → List Token → Type 0
TakesFitting form Fits o depth old new = (d : Data) × (value_at depth old ≡ Some (d, new)) × IsFitting form Fits o d

-- the whole numbers of rows have 64 bits
abbrev pub RowsFit : List (List Value) → Type 0
RowsFit rows = All (All Fits64) rows

-- the whole numbers of tables' rows have 64 bits
abbrev pub TablesFit : List TableRows → Type 0
TablesFit tables = All (λ t. RowsFit t.rows) tables

-- ---- tables

-- a table's rows under its name, if they are of a form
abbrev pub FoundTable : Type 0
FoundTable = String Global × Option (Vec (Vec Value Global) Global)

-- the members have these names, and their values are the JSON values of these rows, or of none that fit
abbrev pub HoldsTables : List FoundTable → Members → Type 0
HoldsTables [] no_members = ⊤
HoldsTables [] (member name d ms) = ⊥
HoldsTables (t ∷ tables) no_members = ⊥
HoldsTables (t ∷ tables) (member name d ms) = (name ≡ string_bytes t.0) × IsFitting rows_json RowsFit (option_map (λ v. rows_of v.items) t.1) d × HoldsTables tables ms

-- ---- the members of a witness

-- those that were found, in the order of their names
abbrev pub members_found : Option Data → Option Data → Option Data → Members
members_found first second tables = with_member (codes "first") first (with_member (codes "second") second (with_member (codes "tables") tables no_members))

-- a member has a name that is none of a witness's
abbrev pub HasOther : Members → Type 0
HasOther ms = (k : List ℕ) × (d : Data) × (get_member k ms ≡ Some d) × (k ≢ codes "first") × (k ≢ codes "second") × (k ≢ codes "tables")

-- the value of the member of tables, if it was found, is the JSON value of these, which fit, or of none that fit
abbrev pub FillsTables : Option (Option (List TableRows)) → Option Data → Type 0
FillsTables None v = v ≡ None
FillsTables (Some o) v = (d : Data) × (v ≡ Some d) × IsFitting tables_json TablesFit o d

-- the members have a witness's names at most, with these values, or another name too
abbrev pub HoldsWitness : Option (Option (List (List ℕ))) → Option (Option (List (List ℕ))) → Option (Option (List TableRows)) → Bool → Members → Type 0
HoldsWitness first second tables true ms = HasOther ms
HoldsWitness first second tables false ms = (a : Option Data) × (b : Option Data) × (c : Option Data) × Fills choice_json first a × Fills choice_json second b × FillsTables tables c × (ms ≡ members_found a b c)
