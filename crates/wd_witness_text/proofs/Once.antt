-- That whole numbers have 64 bits is so in one way.
use Rattle.std.proofs.Common.{List, All, slice_index_or}
use mir.ValLaws.{SFits-prop}
use Rattle.std.specs.Int.{w64}
use Rattle.std.proofs.Props.{props}
use Rattle.wd_value.specs.declared.value.Value.{Value}
use Rattle.wd_value.specs.declared.value.Value.TheVariants.{Null, Int, Text, Bool as Truth}
use Rattle.wd_witness_text.specs.Witnesses.{WitnessRecord, Fits64, AllFit64}

fits_once : (v : Value) → IsProp (Fits64 v)
fits_once Null = search props
fits_once (Int n) = SFits-prop w64 n
fits_once (Text bytes) = search props
fits_once (Truth b) = search props

all_once : {A : Type 0} (P : A → Type 0) → ((x : A) → IsProp (P x)) → (xs : List A) → IsProp (All P xs)
all_once P once xs f g = λ i k d h. once (slice_index_or xs k d) (f k d h) (g k d h) i

pub all_fit_once : (w : WitnessRecord) → IsProp (AllFit64 w)
all_fit_once w = all_once (λ t. All (All Fits64) t.rows) (λ t. all_once (All Fits64) (λ row. all_once Fits64 fits_once row) t.rows) w.tables
