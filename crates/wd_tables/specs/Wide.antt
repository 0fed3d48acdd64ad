-- Records that have more fields than a table has columns, and how a scan for them steps through a text.
use Rattle.std.specs.Prelude.{◌≡◌, ℕ, ◌<◌, List, length}
use Rattle.csv.specs.Machine.{step}
use Rattle.csv.specs.Reading.{default_config}
use Rattle.csv.specs.declared.parser.Action.{Action}
use Rattle.csv.specs.declared.parser.Action.TheVariants as act
use Rattle.csv.specs.declared.parser.State.{State}
use Rattle.csv.specs.declared.parser.State.TheVariants as st
use Rattle.wd_tables.specs.Data.{record_at, records_of}
use Rattle.wd_tables.specs.declared.wide.Effect.{Effect}
use Rattle.wd_tables.specs.declared.wide.Effect.TheVariants.{Passes, JoinsField, EndsField, EndsRecord}
use Rattle.wd_tables.specs.declared.wide.Place.{Place}
use Rattle.wd_tables.specs.declared.wide.Place.TheVariants.{RecordStart, FieldStart, InField, InQuotes, AfterQuote, AfterReturn}

-- the text has a record with this number, with more than the given number of fields
abbrev pub IsWide : List ℕ → ℕ → ℕ → Type 0
IsWide text most n = (n < length (records_of text)) × (most < length (record_at text n))

-- the state of `csv` at a place
abbrev pub state_at : Place → State
state_at RecordStart = st.StartRecord
state_at FieldStart = st.StartField
state_at InField = st.InField
state_at InQuotes = st.InQuoted
state_at AfterQuote = st.AfterQuote
state_at AfterReturn = st.AfterCr

-- the action of `csv` that an effect stands for
abbrev pub action_of : Effect → Action
action_of Passes = act.Skip
action_of JoinsField = act.Copy
action_of EndsField = act.EndField
action_of EndsRecord = act.EndRecord

-- a byte leads from one place to the next with this effect, as `csv` steps with its default settings
abbrev pub IsStep : Place → ℕ → Place → Effect → Type 0
IsStep place byte next effect = (state_at next ≡ (step default_config (state_at place) byte).0) × (action_of effect ≡ (step default_config (state_at place) byte).1)
