use Rattle.std.proofs.Common.{sym, subst}
use Rattle.std.proofs.lemmas.Result.{IfOk-weaker, IfErr-weaker}
use Rattle.wd_schema.specs.Schemas.{schema_of}
use Rattle.wd_witness_text.specs.Json.{Spells}
use Rattle.wd_witness_text.specs.Witnesses.{witness_of}
use Rattle.wd_witness_text.proofs.Inverse.{spells_one, is_read_back}
use Rattle.wd_witness_text.proofs.laws.read_back.Goals as goal

pub returns-clause-same : goal.returns-clause-same
returns-clause-same c =
    let spelled : Spells (witness_of c.args.witness.now) c.deref.result.now = subst (λ b. Spells (witness_of c.args.witness.now) b) (sym c.deref.ensures.value) c.in_ok-bytes.ensures.spells in
    IfOk-weaker c.read_witness.result _ _ (λ r h. spells_one c.deref.result.now _ _ h spelled) c.read_witness.ensures.ok

pub returns-clause-memory : goal.returns-clause-memory
returns-clause-memory c = λ fits.
    let spelled : Spells (witness_of c.args.witness.now) c.deref.result.now = subst (λ b. Spells (witness_of c.args.witness.now) b) (sym c.deref.ensures.value) c.in_ok-bytes.ensures.spells in
    IfErr-weaker c.read_witness.result _ _ (λ e h. is_read_back (schema_of c.args.schema.now) c.deref.result.now (witness_of c.args.witness.now) spelled fits c.in_ok-bytes.ensures.fits e h) c.read_witness.ensures.refused
