-- A table that is refused is a cause of the text's refusal.
use Rattle.std.proofs.Common.{ℕ, List, Any}
use Rattle.wd_schema.specs.Tables.{TableRule}
use Rattle.wd_witness_text.specs.Json.{Spells}
use Rattle.wd_witness_text.specs.Refusals.{HasCause, RefusesTable}
use Rattle.wd_witness_text.specs.Witnesses.{WitnessRecord}
use Rattle.wd_witness_text.specs.declared.error.WitnessTextError.{WitnessTextError}
use Rattle.wd_witness_text.specs.declared.error.WitnessTextError.TheVariants as error

pub caused : (schema : List TableRule) (e : WitnessTextError) (bytes : List ℕ) (w : WitnessRecord) → Spells w bytes → Any (RefusesTable schema e) w.tables → HasCause schema e bytes
caused schema error.NotJson bytes w spelled r = absurd r.4
caused schema error.Shape bytes w spelled r = absurd r.4
caused schema error.UnknownTable bytes w spelled r = (w, spelled, r)
caused schema error.TooManyRows bytes w spelled r = (w, spelled, r)
caused schema error.RowLength bytes w spelled r = (w, spelled, r)
caused schema error.OutOfMemory bytes w spelled r = tt
