-- What a function of the code returned, compared with the definition of reading.
use Rattle.std.specs.Prelude.{◌≡◌, ℕ, Option, Some, None, Result, Ok, Err}
use Rattle.wd_read_cursor.specs.Cursor.{Fault, Unexpected, Limit}
use Rattle.wd_read_cursor.specs.declared.refusal.Refusal.{Refusal}
use Rattle.wd_read_cursor.specs.declared.refusal.Refusal.TheVariants as r

-- how many tokens are left from the refused one on
abbrev pub left_of : Refusal → Option ℕ
left_of (r.Unexpected left) = Some left
left_of (r.PastLimit left) = Some left
left_of r.OutOfMemory = None

-- The refusal is that of reading, unless memory ran out.
abbrev pub Fails : {Y : Type 0} → Refusal → Result Y Fault → Type 0
Fails r.OutOfMemory read = Unit {0}
Fails (r.Unexpected left) read = read ≡ Err (Unexpected left)
Fails (r.PastLimit left) read = read ≡ Err (Limit left)

-- What a function returned, seen by view, is what the definition reads, unless memory ran out.
abbrev pub Gives : {X Y : Type 0} → (X → Y) → Result X Refusal → Result Y Fault → Type 0
Gives view (Ok x) read = read ≡ Ok (view x)
Gives view (Err e) read = Fails e read

-- What a function found, seen by view.
abbrev pub Finds : {X Y : Type 0} → (X → Y) → Option X → Option Y → Type 0
Finds view None found = found ≡ None
Finds view (Some x) found = found ≡ Some (view x)

-- What a function found, seen by view, unless memory ran out.
abbrev pub MayFind : {X Y : Type 0} → (X → Y) → Result (Option X) Refusal → Option Y → Type 0
MayFind view (Ok o) found = Finds view o found
MayFind view (Err e) found = e ≡ r.OutOfMemory

-- The refusal of what begins here is that of reading, unless memory ran out.
abbrev pub MayFail : {Y : Type 0} → Refusal → Option (Result Y Fault) → Type 0
MayFail r.OutOfMemory read = Unit {0}
MayFail (r.Unexpected left) read = read ≡ Some (Err (Unexpected left))
MayFail (r.PastLimit left) read = read ≡ Some (Err (Limit left))

-- What a function read, if it began here.
abbrev pub MayGive : {X Y : Type 0} → (X → Y) → Result (Option X) Refusal → Option (Result Y Fault) → Type 0
MayGive view (Ok None) read = read ≡ None
MayGive view (Ok (Some x)) read = read ≡ Some (Ok (view x))
MayGive view (Err e) read = MayFail e read

-- What a function returned, seen by view, where the definition always reads something, unless memory ran out.
abbrev pub MayRead : {X Y : Type 0} → (X → Y) → Result X Refusal → Y → Type 0
MayRead view (Ok x) read = read ≡ view x
MayRead view (Err e) read = e ≡ r.OutOfMemory
