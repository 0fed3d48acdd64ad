-- The entry of a node in a certificate.
use Rattle.std.specs.Prelude.{ℕ, List, ◌++◌, map, Option}
use Rattle.wd_certificate.specs.Certificates.{NodeRecord}
use Rattle.wd_certificate.specs.declared.certificate.Rule.{Rule}
use Rattle.wd_analyse.specs.Evidence.{Closing, trace_by}
use Rattle.wd_analyse.specs.Kept.{keep_by}

-- the entry, by what a node with `width` columns keeps, by the closings that show its calls or its limit, and by their rules
abbrev pub entry_by : ℕ → List Closing → List Closing → List Rule → Option ℕ → NodeRecord
entry_by width kept others calls limit = record { calls = calls; keep = keep_by width 0 kept; limit = limit; traces = map trace_by (kept ++ others) }
