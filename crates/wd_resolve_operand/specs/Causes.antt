-- Why a query has no plan, and how definitions continue where there is no cause.
use Rattle.std.specs.Prelude.{◌≡◌, ℕ, Option, Some, None, Result, Ok, Err}
use Rattle.wd_resolve_operand.specs.declared.cause.Cause.{Cause}
use Rattle.wd_resolve_operand.specs.declared.cause.Cause.TheVariants as c
use Rattle.wd_resolve_operand.specs.declared.cause.ResolveError.{ResolveError}
use Rattle.wd_resolve_operand.specs.declared.cause.ResolveError.TheVariants.{Refused, OutOfMemory}

-- the number of a refusal
abbrev pub number : Cause → ℕ
number c.UnknownTable = 401
number c.UnknownColumn = 402
number c.Ambiguous = 403
number c.Types = 404
number c.WrongCall = 405
number c.CallNotAllowed = 406
number c.UnknownWindow = 407
number c.WindowCopy = 408
number c.FrameBounds = 409
number c.RangeOffset = 410
number c.GroupsWithoutOrder = 411
number c.WrongSortKey = 412
number c.TiesWithoutOrder = 413
number c.ForeignSortKey = 414
number c.TooMany = 415
number c.GroupCallNotAllowed = 416
number c.NotGrouped = 417
number c.GroupingOfOther = 418
number c.TooManySets = 419

-- the number of an error; none where memory ran out
abbrev pub error_number : ResolveError → Option ℕ
error_number (Refused cause) = Some (number cause)
error_number OutOfMemory = None

-- the meaning, or else the first cause for which there is none
abbrev pub Meant : Type 0 → Type 0
Meant A = Result A Cause

-- an operand before what is over it: the first cause decides
infixl 10 ◌>>=◌
abbrev pub ◌>>=◌ : {A B : Type 0} → Meant A → (A → Meant B) → Meant B
(Ok x) >>= f = f x
(Err cause) >>= f = Err cause

-- The refusal is the defined cause, unless memory ran out.
abbrev pub Fails : {Y : Type 0} → ResolveError → Meant Y → Type 0
Fails OutOfMemory meant = Unit {0}
Fails (Refused cause) meant = meant ≡ Err cause

-- What a function returned, seen by view, is the meaning, unless memory ran out.
abbrev pub Gives : {X Y : Type 0} → (X → Y) → Result X ResolveError → Meant Y → Type 0
Gives view (Ok x) meant = meant ≡ Ok (view x)
Gives view (Err e) meant = Fails e meant
