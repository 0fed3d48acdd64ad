-- The texts of two certificates, byte for byte.
use Rattle.std.specs.Prelude.{◌≡◌, ℕ, List, [], ◌∷◌, codes, None}
use Rattle.wd_certificate.specs.Certificates.{TraceRecord, KeptRecord, NodeRecord, CertificateRecord}
use Rattle.wd_certificate.specs.Json.{certificate_text}
use Rattle.wd_certificate.specs.declared.certificate.Rule.{Rule}
use Rattle.wd_certificate.specs.declared.certificate.Rule.TheVariants as rule
use Rattle.wd_certificate.specs.declared.certificate.Target.TheVariants as target
use Rattle.wd_certificate.specs.declared.certificate.Version.TheVariants.{One, Two}

-- a trace with these columns and uses
abbrev pub trace : List ℕ → List ℕ → TraceRecord
trace from uses = record { from = from; uses = uses }

-- the fact that the columns of trace 0 determine the row
abbrev pub keeps_row : KeptRecord
keeps_row = record { to = target.Row ∷ []; trace = 0 }

-- a node without a limit's trace
abbrev pub node : List Rule → List KeptRecord → List TraceRecord → NodeRecord
node calls keep traces = record { calls = calls; keep = keep; limit = None; traces = traces }

-- a table's rows, numbered in the order of its key: a Scan, a Map, a Window and a Map
abbrev pub numbered_by_key : List NodeRecord
numbered_by_key =
    node [] (keeps_row ∷ []) (trace (0 ∷ []) (0 ∷ []) ∷ [])
    ∷ node [] (keeps_row ∷ []) (trace (0 ∷ []) (2 ∷ 0 ∷ []) ∷ [])
    ∷ node (rule.Unique 0 ∷ []) [] (trace (0 ∷ []) (0 ∷ []) ∷ [])
    ∷ node [] [] []
    ∷ []

-- these nodes as a certificate of version 1
abbrev pub version_1 : CertificateRecord
version_1 = record { nodes = numbered_by_key; version = One }

-- a certificate of version 2, of a Scan alone
abbrev pub version_2 : CertificateRecord
version_2 = record { nodes = node [] [] [] ∷ []; version = Two }

-- the texts of both
pub record HaveExampleTexts : Type 0 where
  pub of_version_1 : certificate_text version_1 ≡ codes "{\"nodes\":[{\"calls\":[],\"keep\":[{\"to\":[\"row\"],\"trace\":0}],\"limit\":null,\"traces\":[{\"from\":[0],\"uses\":[0]}]},{\"calls\":[],\"keep\":[{\"to\":[\"row\"],\"trace\":0}],\"limit\":null,\"traces\":[{\"from\":[0],\"uses\":[2,0]}]},{\"calls\":[{\"rule\":\"unique\",\"trace\":0}],\"keep\":[],\"limit\":null,\"traces\":[{\"from\":[0],\"uses\":[0]}]},{\"calls\":[],\"keep\":[],\"limit\":null,\"traces\":[]}],\"version\":1}"
  pub of_version_2 : certificate_text version_2 ≡ codes "{\"nodes\":[{\"calls\":[],\"keep\":[],\"limit\":null,\"traces\":[]}],\"version\":2}"
