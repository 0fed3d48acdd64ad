-- What the definitions of locks imply.
use Rattle.std.specs.Prelude.{◌≡◌, ℕ, List, Option}
use Rattle.wd_certificate.specs.Certificates.{CertificateRecord}
use Rattle.wd_lock.specs.Locks.{IsLock}

-- bytes are the lock of at most one list of certificates
abbrev pub HasOneLock : Type 0
HasOneLock = (bytes : List ℕ) (es fs : List (Option CertificateRecord)) → IsLock es bytes → IsLock fs bytes → es ≡ fs
