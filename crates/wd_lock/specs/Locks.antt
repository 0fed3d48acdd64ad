-- What a lock says of the statements of a file, and its text.
use Rattle.std.specs.Prelude.{ℕ, Bool, List, map, Option, Some, None, is_some}
use Rattle.serde_json.specs.Data.{Data, null}
use Rattle.wd_certificate.specs.Certificates.{CertificateRecord, certificate_of}
use Rattle.wd_certificate.specs.Json.{certificate_json, version_number}
use Rattle.wd_json_lines.specs.Lines.{AreLines, lines_text}
use Rattle.wd_lock.specs.declared.entry.Entry.{Entry}
use Rattle.wd_lock.specs.declared.entry.Entry.TheVariants.{Open, Certified}
use Rattle.wd_lock.specs.declared.lock.Lock.{Lock}

-- a certificate, or none
abbrev pub entry_of : Entry → Option CertificateRecord
entry_of Open = None
entry_of (Certified certificate) = Some (certificate_of certificate)

-- what a lock has of each statement
abbrev pub entries_of : Lock → List (Option CertificateRecord)
entries_of lock = map entry_of lock.entries.items

abbrev pub is_certified : Option CertificateRecord → Bool
is_certified entry = is_some entry

-- the JSON of a certificate, and null for none
abbrev pub entry_json : Option CertificateRecord → Data
entry_json None = null
entry_json (Some certificate) = certificate_json (version_number certificate.version) certificate.nodes

-- bytes are a lock: a line for each statement
abbrev pub IsLock : List (Option CertificateRecord) → List ℕ → Type 0
IsLock entries bytes = AreLines entry_json entries bytes

-- the text of a lock as it is written
abbrev pub lock_text : List (Option CertificateRecord) → List ℕ
lock_text entries = lines_text entry_json entries
