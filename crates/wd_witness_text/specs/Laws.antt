-- What the definitions of texts imply.
use Rattle.std.specs.Prelude.{◌≡◌, ℕ, List}
use Rattle.wd_schema.specs.Tables.{TableRule}
use Rattle.wd_witness_text.specs.Witnesses.{WitnessRecord, AllFit64, IsOf}
use Rattle.wd_witness_text.specs.Json.{Spells}
use Rattle.wd_witness_text.specs.Refusals.{HasCause}
use Rattle.wd_witness_text.specs.declared.error.WitnessTextError.{WitnessTextError}
use Rattle.wd_witness_text.specs.declared.error.WitnessTextError.TheVariants as error

-- bytes spell at most one witness
abbrev pub SpellsOne : Type 0
SpellsOne = (bytes : List ℕ) (v w : WitnessRecord) → Spells v bytes → Spells w bytes → v ≡ w

-- bytes that spell a witness of a schema are refused only where memory runs out
abbrev pub IsReadBack : Type 0
IsReadBack = (schema : List TableRule) (bytes : List ℕ) (w : WitnessRecord) → Spells w bytes → IsOf schema w → AllFit64 w
    → (e : WitnessTextError) → HasCause schema e bytes → e ≡ error.OutOfMemory
