-- What the definitions of texts imply.
use Rattle.std.specs.Prelude.{◌≡◌, ℕ, List}
use Rattle.wd_certificate.specs.Certificates.{CertificateRecord, NodeRecord}
use Rattle.wd_certificate.specs.Json.{Spells, SpellsVersion}
use Rattle.wd_certificate.specs.Refusals.{HasCause}
use Rattle.wd_certificate.specs.declared.error.CertError.{CertError}
use Rattle.wd_certificate.specs.declared.error.CertError.TheVariants as error

-- bytes spell at most one certificate, of one version
abbrev pub SpellsOne : Type 0
SpellsOne = (bytes : List ℕ) (v w : ℕ) (a b : List NodeRecord) → SpellsVersion v a bytes → SpellsVersion w b bytes → (v ≡ w) × (a ≡ b)

-- bytes that spell a certificate of version 1 or 2 spell no other, and are refused only where memory runs out
abbrev pub IsReadBack : Type 0
IsReadBack = (bytes : List ℕ) (certificate : CertificateRecord) → Spells certificate bytes
    → ((other : CertificateRecord) → Spells other bytes → other ≡ certificate) × ((e : CertError) → HasCause e bytes → e ≡ error.OutOfMemory)
