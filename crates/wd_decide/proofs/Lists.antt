-- The verdict on a list, by the verdict.
use Rattle.std.proofs.Common.{◌≡◌, ℕ, Bool, true, false, not, cond, List, Option, Some, None, is_some, refl, sym, ◌∙◌, ap, subst}
use Rattle.std.proofs.lemmas.Bool.{false≢true}
use Rattle.std.specs.declared.alloc.Global.{Global}
use Rattle.std.specs.declared.vec.Vec.{Vec}
use Rattle.wd_schema.specs.Tables.{TableRule}
use Rattle.wd_plan.specs.Plans.{PlanTree}
use Rattle.wd_certificate.specs.Certificates.{NodeRecord, certificate_of, nodes_of}
use Rattle.wd_certificate.specs.declared.certificate.Certificate.{Certificate}
use Rattle.wd_rules.specs.Lists.{final_limit, goes_by_keys}
use Rattle.wd_analyse.specs.Analysis.{IsAnswer}
use Rattle.wd_analyse.specs.Lists.{IsLack, KeysComeFirst}
use Rattle.wd_analyse.specs.declared.analysis.Analysis.{Analysis}
use Rattle.wd_analyse.specs.declared.analysis.Reason.{Reason}
use Rattle.wd_analyse.specs.declared.analysis.Analysis.TheVariants.{Certified, Open}
use Rattle.wd_resolve.specs.Answers.{Answer}
use Rattle.wd_accept.specs.Lists.{answer_limit}
use Rattle.wd_witness_text.specs.declared.witness.Witness.{Witness}
use Rattle.wd_decide.specs.Lists.{IsListReason, IsListSound, IsOfVerdict, ListedAreSound, OthersAreVerdicts, reason_of}
use Rattle.wd_decide.specs.Verdicts.{IsVerdictOf}
use Rattle.wd_decide.specs.declared.list.ListReason.{ListReason}
use Rattle.wd_decide.specs.declared.list.ListVerdict.TheVariants as list
use Rattle.wd_decide.specs.declared.verdict.Verdict.{Verdict}
use Rattle.wd_decide.specs.declared.verdict.Verdict.TheVariants.{Deterministic, Depends, Unknown}
use Rattle.wd_decide.proofs.Sound.{valid_of}

-- ---- why a certificate shows no order

-- of an ordered query, what the keys of its last Limit lack
lack_reason : (tables : List TableRule) (read : Answer) (limit lack : Option ℕ) → answer_limit read ≡ limit → IsLack tables read.plan lack → (is_some limit ≡ true → is_some lack ≡ true) → IsListReason tables read (reason_of limit lack)
lack_reason tables read None lack e l h = e
lack_reason tables read (Some node) None e l h = absurd (false≢true (h refl))
lack_reason tables read (Some node) (Some column) e l h = (e, l)

-- by `keys`, or what they lack
lack_some : (nodes : List NodeRecord) (final : Option ℕ) (b : Bool) (lack : Option ℕ) → (is_some final ≡ true → is_some lack ≡ not (goes_by_keys nodes final)) → goes_by_keys nodes (cond b final None) ≡ false → is_some (cond b final None) ≡ true → is_some lack ≡ true
lack_some nodes final true lack h e s = h s ∙ ap not e
lack_some nodes final false lack h e s = absurd (false≢true s)

pub unlisted : KeysComeFirst → (tables : List TableRule) (read : Answer) (certificate : Certificate) (limit lack : Option ℕ) → IsAnswer tables read.plan (Certified certificate) → limit ≡ answer_limit read → goes_by_keys (nodes_of certificate) limit ≡ false → IsLack tables read.plan lack → IsListReason tables read (reason_of limit lack)
unlisted keys_come_first tables read certificate limit lack answer is e l =
    lack_reason tables read limit lack (sym is) l
    (λ s. lack_some (nodes_of certificate) (final_limit read.plan 0) read.ordered lack (λ t. keys_come_first tables read.plan certificate lack answer l t) (sym (ap (goes_by_keys (nodes_of certificate)) is) ∙ e) (sym (ap is_some is) ∙ s))

-- ---- laws

-- the verdict of a certificate is that of an analysis that certifies
pub certified_of : (tables : List TableRule) (plan : PlanTree) (analysis : Analysis) (certificate : Certificate) → IsAnswer tables plan analysis → IsVerdictOf tables plan analysis (Deterministic certificate) → IsAnswer tables plan (Certified certificate)
certified_of tables plan (Certified c) certificate answer is = subst (λ c. IsAnswer tables plan (Certified c)) is answer
certified_of tables plan (Open reasons marks) certificate answer is = absurd is

pub listed_are_sound : ListedAreSound
listed_are_sound schema query certificate (read, reads, v) = by v.verdict v.of_analysis v.of_verdict
  where
    by : (verdict : Verdict) → IsVerdictOf reads.tables read.plan v.analysis verdict → IsOfVerdict reads.tables read verdict (list.Listed certificate) → IsListSound schema query certificate
    by (Deterministic c) is (same, keys) =
        let plain : IsVerdictOf reads.tables read.plan v.analysis (Deterministic certificate) = subst (λ c. IsVerdictOf reads.tables read.plan v.analysis (Deterministic c)) same is in
        let valid = valid_of reads.tables read.plan v.analysis certificate v.analysed plain in
        record {
          plain = (read, reads, (v.analysis, v.analysed, plain));
          accepted = λ text spells. (read, reads, (certificate_of certificate, spells, valid, keys));
        }
    by (Depends found) is h = absurd h
    by (Unknown found) is h = absurd h

depends : (tables : List TableRule) (read : Answer) (analysis : Analysis) (verdict : Verdict) (witness : Witness) → IsVerdictOf tables read.plan analysis verdict → IsOfVerdict tables read verdict (list.Depends witness) → IsVerdictOf tables read.plan analysis (Depends witness)
depends tables read analysis (Deterministic c) witness is h = absurd h
depends tables read analysis (Depends found) witness is h = subst (λ w. IsVerdictOf tables read.plan analysis (Depends w)) h is
depends tables read analysis (Unknown found) witness is h = absurd h

unknown : (tables : List TableRule) (read : Answer) (analysis : Analysis) (verdict : Verdict) (reasons : Vec Reason Global) → IsVerdictOf tables read.plan analysis verdict → IsOfVerdict tables read verdict (list.Unknown reasons) → IsVerdictOf tables read.plan analysis (Unknown reasons)
unknown tables read analysis (Deterministic c) reasons is h = absurd h
unknown tables read analysis (Depends found) reasons is h = absurd h
unknown tables read analysis (Unknown found) reasons is h = subst (λ r. IsVerdictOf tables read.plan analysis (Unknown r)) h is

open_order : (tables : List TableRule) (read : Answer) (analysis : Analysis) (verdict : Verdict) (r : ListReason) → IsVerdictOf tables read.plan analysis verdict → IsOfVerdict tables read verdict (list.Unlisted r) → (certificate : Certificate) × IsVerdictOf tables read.plan analysis (Deterministic certificate)
open_order tables read analysis (Deterministic c) r is h = (c, is)
open_order tables read analysis (Depends found) r is h = absurd h
open_order tables read analysis (Unknown found) r is h = absurd h

pub others_are_verdicts : OthersAreVerdicts
others_are_verdicts = record {
  depends = λ schema query witness d. (d.0, d.1, (d.2.analysis, d.2.analysed, depends d.1.tables d.0 d.2.analysis d.2.verdict witness d.2.of_analysis d.2.of_verdict));
  unknown = λ schema query reasons d. (d.0, d.1, (d.2.analysis, d.2.analysed, unknown d.1.tables d.0 d.2.analysis d.2.verdict reasons d.2.of_analysis d.2.of_verdict));
  unlisted = λ schema query r d.
      let c = open_order d.1.tables d.0 d.2.analysis d.2.verdict r d.2.of_analysis d.2.of_verdict in
      (c.0, (d.0, d.1, (d.2.analysis, d.2.analysed, c.1)));
}
