use Rattle.std.proofs.Math.Logic.{∥∥₁_elim}
use Rattle.wd_witness_text.specs.Witnesses.{witness_of}
use Rattle.wd_witness_text.proofs.Once.{all_fit_once}
use Rattle.wd_witness_text.proofs.read.parse_witness.Goals as goal

pub returns-in-Ok-Some-clause-fits : goal.returns-in-Ok-Some-clause-fits
returns-in-Ok-Some-clause-fits c = ∥∥₁_elim c.in-Ok-Some.fitting.fits (all_fit_once (witness_of c.in-Ok-Some.fitting.witness)) (λ h. h)

pub returns-in-Ok-None-clause-refused : goal.returns-in-Ok-None-clause-refused
returns-in-Ok-None-clause-refused c =
    let done = rw c.in-Ok-None.field-0-is at c.in-Ok-None.ensures.ok in
    λ schema. (done.0, done.1, λ w fits. done.2 (w, ∣ fits ∣₁))
