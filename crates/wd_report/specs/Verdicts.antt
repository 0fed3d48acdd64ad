-- What is printed of a verdict.
use Rattle.std.specs.Prelude.{ℕ, List, ◌++◌, codes, flat_map}
use Rattle.wd_certificate.specs.Certificates.{certificate_of}
use Rattle.wd_certificate.specs.Json.{certificate_text}
use Rattle.wd_analyse.specs.declared.analysis.Reason.{Reason}
use Rattle.wd_witness_text.specs.Json.{witness_text}
use Rattle.wd_witness_text.specs.Witnesses.{witness_of}
use Rattle.wd_decide.specs.declared.list.ListVerdict.{ListVerdict}
use Rattle.wd_decide.specs.declared.list.ListVerdict.TheVariants as list
use Rattle.wd_decide.specs.declared.verdict.Verdict.{Verdict}
use Rattle.wd_decide.specs.declared.verdict.Verdict.TheVariants.{Deterministic, Depends, Unknown}
use Rattle.wd_report.specs.Words.{lack_words, line, list_word, order_words, place_words, verdict_word}

abbrev pub reason_line : Reason → List ℕ
reason_line reason = line (place_words reason.node reason.call ++ codes ": " ++ lack_words reason.lack)

-- the certificate on a line, the witness on a line, or the reasons, one a line
abbrev pub evidence_lines : Verdict → List ℕ
evidence_lines (Deterministic certificate) = line (certificate_text (certificate_of certificate))
evidence_lines (Depends witness) = line (witness_text (witness_of witness))
evidence_lines (Unknown reasons) = flat_map reason_line reasons.items

-- the verdict's word on a line, followed by its evidence
abbrev pub verdict_text : Verdict → List ℕ
verdict_text verdict = line (verdict_word verdict) ++ evidence_lines verdict

-- the exit status for a verdict
abbrev pub verdict_status : Verdict → ℕ
verdict_status (Deterministic certificate) = 0
verdict_status (Depends witness) = 1
verdict_status (Unknown reasons) = 2

-- for a verdict on a list: the certificate on a line, why the order is open, or the same as for a verdict
abbrev pub list_lines : ListVerdict → List ℕ
list_lines (list.Listed certificate) = line (certificate_text (certificate_of certificate))
list_lines (list.Unlisted reason) = line (order_words reason)
list_lines (list.Depends witness) = line (witness_text (witness_of witness))
list_lines (list.Unknown reasons) = flat_map reason_line reasons.items

abbrev pub list_text : ListVerdict → List ℕ
list_text verdict = line (list_word verdict) ++ list_lines verdict

abbrev pub list_status : ListVerdict → ℕ
list_status (list.Listed certificate) = 0
list_status (list.Unlisted reason) = 2
list_status (list.Depends witness) = 1
list_status (list.Unknown reasons) = 2
