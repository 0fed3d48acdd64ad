-- The kinds that verdicts count as.
use Rattle.std.specs.Prelude.{Option, Some, None}
use Rattle.wd_certain.specs.declared.certain.Certain.{Certain}
use Rattle.wd_further.specs.declared.judge.Found.{Found}
use Rattle.wd_decide.specs.declared.verdict.Verdict.{Verdict}
use Rattle.wd_decide.specs.declared.verdict.Verdict.TheVariants as v
use Rattle.wd_lines.specs.declared.count.Kind.{Kind}
use Rattle.wd_lines.specs.declared.count.Kind.TheVariants.{Deterministic, Depends, MayTie}

-- where the verdict is UNKNOWN, a query whose simpler plan is certified has one answer, and a query for which a further search found a
-- witness depends
abbrev pub kind_of : Verdict → Option Certain → Option Found → Kind
kind_of (v.Deterministic certificate) certain further = Deterministic
kind_of (v.Depends witness) certain further = Depends
kind_of (v.Unknown reasons) (Some certain) further = Deterministic
kind_of (v.Unknown reasons) None (Some found) = Depends
kind_of (v.Unknown reasons) None None = MayTie
