-- Bytes are one lock.
use Rattle.std.proofs.Common.{◌≡◌, ℕ, List, Option, Some, None, refl, sym, ap}
use Rattle.wd_certificate.specs.Certificates.{CertificateRecord}
use Rattle.wd_certificate.specs.Laws.{IsReadBack}
use Rattle.wd_json.specs.Json.{IsJsonOf}
use Rattle.wd_json_lines.proofs.Reading.{one_list_by, same_json}
use Rattle.wd_lock.specs.Laws.{HasOneLock}
use Rattle.wd_lock.specs.Locks.{entry_json}

one_entry : IsReadBack → (e f : Option CertificateRecord) (line : List ℕ) → IsJsonOf (entry_json e) line → IsJsonOf (entry_json f) line → e ≡ f
one_entry law None None line h k = refl
one_entry law None (Some c) line h k = absurd (let e = same_json (entry_json None) (entry_json (Some c)) line h k in cc)
one_entry law (Some c) None line h k = absurd (let e = same_json (entry_json (Some c)) (entry_json None) line h k in cc)
one_entry law (Some c) (Some d) line h k = ap (λ x. Some x) (sym ((law line c h).0 d k))

pub one_lock : IsReadBack → HasOneLock
one_lock law bytes es fs h k = one_list_by entry_json (one_entry law) bytes es fs h k
