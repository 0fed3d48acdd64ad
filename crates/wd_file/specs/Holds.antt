-- What becomes of the certificate that a lock has of a statement.
use Rattle.std.specs.Prelude.{◌≡◌, ◌≢◌, ℕ, List, get_or, Option, Some, None}
use Rattle.wd_accept.specs.Acceptance.{IsAccepted}
use Rattle.wd_certificate.specs.Certificates.{CertificateRecord, certificate_of}
use Rattle.wd_certificate.specs.Json.{certificate_text}
use Rattle.wd_lines.specs.declared.count.Kind.{Kind}
use Rattle.wd_lines.specs.declared.count.Kind.TheVariants.{Deterministic}
use Rattle.wd_lock.specs.Locks.{entries_of}
use Rattle.wd_query.specs.Laws.{HaveMeaning}
use Rattle.wd_file.specs.declared.file.Locked.{Locked}
use Rattle.wd_file.specs.declared.hold.Hold.{Hold}
use Rattle.wd_file.specs.declared.hold.Hold.TheVariants.{Unlocked, Kept, Stale, Lost}
use Rattle.wd_file.specs.declared.hold.Settled.{Settled}

-- the certificate that a lock has of the statement with a number
abbrev pub locked_at : Option Locked → ℕ → Option CertificateRecord
locked_at None number = None
locked_at (Some locked) number = get_or (entries_of locked.lock.now) number None

-- texts that have a meaning do not accept the certificate
abbrev pub IsRefused : List ℕ → List ℕ → CertificateRecord → Type 0
IsRefused schema query certificate = HaveMeaning schema query → ¬ IsAccepted schema query (certificate_text certificate)

-- a certificate is kept if it is accepted; otherwise it is stale if the query is deterministic without it, and lost if it is not
abbrev pub IsHoldOf : List ℕ → List ℕ → Kind → CertificateRecord → Hold → Type 0
IsHoldOf schema query kind certificate Unlocked = ⊥
IsHoldOf schema query kind certificate (Kept kept) = (certificate_of kept.now ≡ certificate) × IsAccepted schema query (certificate_text certificate)
IsHoldOf schema query kind certificate Stale = IsRefused schema query certificate × (kind ≡ Deterministic)
IsHoldOf schema query kind certificate Lost = IsRefused schema query certificate × (kind ≢ Deterministic)

-- what becomes of a certificate that a lock may have
abbrev pub IsHold : List ℕ → List ℕ → Kind → Option CertificateRecord → Hold → Type 0
IsHold schema query kind None hold = hold ≡ Unlocked
IsHold schema query kind (Some certificate) hold = IsHoldOf schema query kind certificate hold

-- what a statement counts as: deterministic also where its certificate in the lock is kept
abbrev pub kind_with : Hold → Kind → Kind
kind_with (Kept certificate) kind = Deterministic
kind_with Unlocked kind = kind
kind_with Stale kind = kind
kind_with Lost kind = kind

abbrev pub kind_of : Settled → Kind
kind_of settled = kind_with settled.hold settled.judged.kind
