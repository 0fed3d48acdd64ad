-- What is not refused passes each of its checks.
use Rattle.std.proofs.Common.{◌≡◌, ℕ, Bool, true, false, List, [], ◌∷◌, refl, Option, Some, None, Result, Ok, Err}
use Rattle.std.specs.List.{AllByRecursion}
use Rattle.wd_certificate.specs.declared.error.CertError.{CertError}
use Rattle.wd_rules.specs.Rules.{first_of, or_else, refuse_unless, refuse_unless_shown}
use Rattle.wd_rules.specs.Traces.{Traced, and_then}

pub passed : (b : Bool) (refusal : CertError) → refuse_unless b refusal ≡ None → b ≡ true
passed true refusal e = refl
passed false refusal e = cc

pub first_passed : (a b : Option CertError) → or_else a b ≡ None → a ≡ None
first_passed None b e = refl
first_passed (Some refusal) b e = e

pub later_passed : (a b : Option CertError) → or_else a b ≡ None → b ≡ None
later_passed None b e = e
later_passed (Some refusal) b e = cc

pub each_passed : {X : Type 0} (f : X → Option CertError) (P : X → Type 0) → ((x : X) → f x ≡ None → P x) → (xs : List X) → first_of f xs ≡ None → AllByRecursion P xs
each_passed f P h [] e = tt
each_passed f P h (x ∷ xs) e = (h x (first_passed (f x) (first_of f xs) e), each_passed f P h xs (later_passed (f x) (first_of f xs) e))

-- a trace that is asked for is there and passes the test
pub shown_there : (P : Traced → Type 0) (node : ℕ) (refusal : CertError) (test : Traced → Bool) (o : Option Traced) → refuse_unless_shown node refusal test o ≡ None → ((trace : Traced) → o ≡ Some trace → test trace ≡ true → P trace) → (trace : Traced) × P trace
shown_there P node refusal test None e h = cc
shown_there P node refusal test (Some trace) e h = (trace, h trace refl (passed (test trace) refusal e))

-- a step that succeeds
pub ok_parts : {X Y : Type 0} (a : Result X CertError) (f : X → Result Y CertError) (y : Y) → and_then a f ≡ Ok y → (x : X) × (a ≡ Ok x) × (f x ≡ Ok y)
ok_parts (Ok x) f y e = (x, refl, e)
ok_parts (Err refusal) f y e = cc
