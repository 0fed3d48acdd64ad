-- What is meant, step by step.
use Rattle.std.proofs.Common.{◌≡◌, refl, Ok, Err}
use Rattle.wd_resolve_operand.specs.Causes.{Meant, ◌>>=◌}

pub bound : {A B : Type 0} (m : Meant A) (f : A → Meant B) (y : B) → (m >>= f) ≡ Ok y → (x : A) × (m ≡ Ok x) × (f x ≡ Ok y)
bound (Ok x) f y h = (x, refl, h)
bound (Err cause) f y h = cc

pub ok_is : {A : Type 0} (x y : A) → ◌≡◌ {A = Meant A} (Ok x) (Ok y) → x ≡ y
ok_is x y h = cc
