-- The refusals of certificates: their numbers and places, and what one says of a text.
use Rattle.std.specs.Prelude.{◌≢◌, ℕ, List, Option, Some, None, ⊤}
use Rattle.serde_json.specs.Data.{Data}
use Rattle.wd_certificate.specs.Certificates.{NodeRecord}
use Rattle.wd_json.specs.Json.{IsJsonOf}
use Rattle.wd_certificate.specs.Json.{certificate_json, SpellsVersion}
use Rattle.wd_certificate.specs.declared.error.CertError.{CertError}
use Rattle.wd_certificate.specs.declared.error.CertError.TheVariants.{NotJson, Shape, Version, Count, UnreachedUse, UnreachedClaim, UnjustifiedCall, SecondExchange, UnjustifiedLimit, OutOfRange, OutOfMemory}

-- the number of a refusal; out of memory has none
abbrev pub number_of : CertError → Option ℕ
number_of NotJson = Some 501
number_of Shape = Some 502
number_of Version = Some 503
number_of Count = Some 504
number_of (UnreachedUse node) = Some 505
number_of (UnreachedClaim node) = Some 506
number_of (UnjustifiedCall node) = Some 507
number_of (SecondExchange node) = Some 508
number_of (UnjustifiedLimit node) = Some 509
number_of (OutOfRange node) = Some 510
number_of OutOfMemory = None

-- the node that 505 to 510 name
abbrev pub place_of : CertError → Option ℕ
place_of NotJson = None
place_of Shape = None
place_of Version = None
place_of Count = None
place_of (UnreachedUse node) = Some node
place_of (UnreachedClaim node) = Some node
place_of (UnjustifiedCall node) = Some node
place_of (SecondExchange node) = Some node
place_of (UnjustifiedLimit node) = Some node
place_of (OutOfRange node) = Some node
place_of OutOfMemory = None

-- why a text is refused: it is no JSON; its JSON is of no certificate of any version; it spells a certificate of another version than 1
-- and 2. No text is refused for what its certificate says of a plan.
abbrev pub HasCause : CertError → List ℕ → Type 0
HasCause NotJson bytes = (d : Data) → ¬ IsJsonOf d bytes
HasCause Shape bytes = (d : Data) × IsJsonOf d bytes × ((version : ℕ) (nodes : List NodeRecord) → d ≢ certificate_json version nodes)
HasCause Version bytes = (version : ℕ) × (nodes : List NodeRecord) × SpellsVersion version nodes bytes × (version ≢ 1) × (version ≢ 2)
HasCause OutOfMemory bytes = ⊤
HasCause _ bytes = ⊥
