use Rattle.std.proofs.Common.{◌≡◌, ◌∙◌, ℕ, List, [], ◌∷◌, ap, map, refl, subst, sym, Bor}
use Rattle.wd_command.specs.Failures.{IsUnread}
use Rattle.wd_command.specs.Files.{AllRead, Reads, StandsNext}
use Rattle.wd_command.specs.Inputs.{table_by, task_of_paths}
use Rattle.wd_command.specs.Words.{Check, Explain, Verify, Refute, Run, inputs_of}
use Rattle.wd_command.specs.declared.failure.Failure.{Failure}
use Rattle.wd_command.specs.declared.task.Table.{Table}
use Rattle.wd_command.specs.declared.task.Task.{Task as CodeTask}
use Rattle.wd_command.proofs.FailureLemmas.{IfErr-from_same, IsUnread-after, IsUnread-weaker}
use Rattle.wd_command.proofs.FilesLemmas.{AllRead-trans, StandsNext-before, StandsNext-after}
use Rattle.wd_command.proofs.inputs.read_inputs.Goals as goal

abbrev inputs : CodeTask (Bor (List ℕ)) → List (List ℕ)
inputs task = inputs_of (task_of_paths task)

-- the schema or the query of a task could not be read
of_two : (task : CodeTask (Bor (List ℕ))) (schema query : List ℕ) (more : List (List ℕ)) (before after : Reads) → inputs task ≡ schema ∷ query ∷ more
    → (failure : Failure) → IsUnread (StandsNext (schema ∷ query ∷ [])) before after failure → IsUnread (StandsNext (inputs task)) before after failure
of_two task schema query more before after is failure h =
    subst (λ paths. IsUnread (StandsNext paths) before after failure) (sym is)
    (IsUnread-weaker before after _ _ (StandsNext-before (schema ∷ query ∷ []) more) failure h)

-- what comes after them could not
of_more : (task : CodeTask (Bor (List ℕ))) (schema query schema_text query_text : List ℕ) (more : List (List ℕ)) (before middle after : Reads)
    → inputs task ≡ schema ∷ query ∷ more → AllRead before middle ((schema, schema_text) ∷ (query, query_text) ∷ [])
    → (failure : Failure) → IsUnread (StandsNext more) middle after failure → IsUnread (StandsNext (inputs task)) before after failure
of_more task schema query schema_text query_text more before middle after is read failure h =
    subst (λ paths. IsUnread (StandsNext paths) before after failure) (sym is)
    (IsUnread-after before middle after _ _ _ read (StandsNext-after ((schema, schema_text) ∷ (query, query_text) ∷ []) more) failure h)

pub returns-in_err-schema-in-Verify-clause-err : goal.returns-in_err-schema-in-Verify-clause-err
returns-in_err-schema-in-Verify-clause-err g c =
    IfErr-from_same c.from_residual-in_err-schema-in-Verify.result c.in_err-schema-in-Verify.field-0.0 _ c.from_residual-in_err-schema-in-Verify.ensures.1
    (of_two c.args.task _ _ _ _ _ (ap inputs c.in-Verify.is) c.in_err-schema-in-Verify.field-0.0 c.in_err-schema-in-Verify.ensures.err)

pub returns-in_err-certificate-in-Verify-clause-err : goal.returns-in_err-certificate-in-Verify-clause-err
returns-in_err-certificate-in-Verify-clause-err g c =
    IfErr-from_same c.from_residual-in_err-certificate-in-Verify.result c.in_err-certificate-in-Verify.field-0.0 _ c.from_residual-in_err-certificate-in-Verify.ensures.1
    (of_more c.args.task _ _ _ _ _ _ _ _ (ap inputs c.in-Verify.is) c.in_ok-schema-in-Verify.ensures.read c.in_err-certificate-in-Verify.field-0.0 c.in_err-certificate-in-Verify.ensures.err)

pub returns-in_err-schema-in-Refute-clause-err : goal.returns-in_err-schema-in-Refute-clause-err
returns-in_err-schema-in-Refute-clause-err g c =
    IfErr-from_same c.from_residual-in_err-schema-in-Refute.result c.in_err-schema-in-Refute.field-0.0 _ c.from_residual-in_err-schema-in-Refute.ensures.1
    (of_two c.args.task _ _ _ _ _ (ap inputs c.in-Refute.is) c.in_err-schema-in-Refute.field-0.0 c.in_err-schema-in-Refute.ensures.err)

pub returns-in_err-witness-in-Refute-clause-err : goal.returns-in_err-witness-in-Refute-clause-err
returns-in_err-witness-in-Refute-clause-err g c =
    IfErr-from_same c.from_residual-in_err-witness-in-Refute.result c.in_err-witness-in-Refute.field-0.0 _ c.from_residual-in_err-witness-in-Refute.ensures.1
    (of_more c.args.task _ _ _ _ _ _ _ _ (ap inputs c.in-Refute.is) c.in_ok-schema-in-Refute.ensures.read c.in_err-witness-in-Refute.field-0.0 c.in_err-witness-in-Refute.ensures.err)

pub returns-in_err-schema-in-Run-clause-err : goal.returns-in_err-schema-in-Run-clause-err
returns-in_err-schema-in-Run-clause-err g c =
    IfErr-from_same c.from_residual-in_err-schema-in-Run.result c.in_err-schema-in-Run.field-0.0 _ c.from_residual-in_err-schema-in-Run.ensures.1
    (of_two c.args.task _ _ _ _ _ (ap inputs c.in-Run.is) c.in_err-schema-in-Run.field-0.0 c.in_err-schema-in-Run.ensures.err)

abbrev named : List (Table (Bor (List ℕ))) → List (List ℕ × List ℕ)
named tables = map (table_by (λ path. path.now)) tables

pub returns-in_err-tables-in-Run-clause-err : goal.returns-in_err-tables-in-Run-clause-err
returns-in_err-tables-in-Run-clause-err g c =
    let schema = c.in-Run.schema.now in
    let query = c.in-Run.query.now in
    IfErr-from_same c.from_residual-in_err-tables-in-Run.result c.in_err-tables-in-Run.field-0.0 _ c.from_residual-in_err-tables-in-Run.ensures.1
    (of_more c.args.task schema query _ _ (map (λ t. t.1) (named c.as_slice.result.now)) _ _ _
    (ap inputs c.in-Run.is ∙ ap (λ (tables : List (Table (Bor (List ℕ)))). schema ∷ query ∷ map (λ t. t.1) (named tables)) (sym c.as_slice.ensures.value))
    c.in_ok-schema-in-Run.ensures.read c.in_err-tables-in-Run.field-0.0 c.in_err-tables-in-Run.ensures.err)

pub returns-in_ok-schema-in-Check-clause-ok : goal.returns-in_ok-schema-in-Check-clause-ok
returns-in_ok-schema-in-Check-clause-ok g c =
    let texts = c.in_ok-schema-in-Check in
    record {
      task = Check c.in-Check.listed (c.in-Check.schema.now, texts.schema.items) (c.in-Check.query.now, texts.query.items);
      named = sym (ap task_of_paths c.in-Check.is);
      read = texts.ensures.read;
      are = refl;
    }

pub returns-in_ok-schema-in-Explain-clause-ok : goal.returns-in_ok-schema-in-Explain-clause-ok
returns-in_ok-schema-in-Explain-clause-ok g c =
    let texts = c.in_ok-schema-in-Explain in
    record {
      task = Explain (c.in-Explain.schema.now, texts.schema.items) (c.in-Explain.query.now, texts.query.items);
      named = sym (ap task_of_paths c.in-Explain.is);
      read = texts.ensures.read;
      are = refl;
    }

pub returns-in_ok-certificate-in-Verify-clause-ok : goal.returns-in_ok-certificate-in-Verify-clause-ok
returns-in_ok-certificate-in-Verify-clause-ok g c =
    let texts = c.in_ok-schema-in-Verify in
    let certificate = c.in_ok-certificate-in-Verify in
    record {
      task = Verify c.in-Verify.listed (c.in-Verify.schema.now, texts.schema.items) (c.in-Verify.query.now, texts.query.items) (c.in-Verify.certificate.now, certificate.certificate.items);
      named = sym (ap task_of_paths c.in-Verify.is);
      read = AllRead-trans _ _ _ _ _ texts.ensures.read certificate.ensures.read;
      are = refl;
    }

pub returns-in_ok-witness-in-Refute-clause-ok : goal.returns-in_ok-witness-in-Refute-clause-ok
returns-in_ok-witness-in-Refute-clause-ok g c =
    let texts = c.in_ok-schema-in-Refute in
    let witness = c.in_ok-witness-in-Refute in
    record {
      task = Refute (c.in-Refute.schema.now, texts.schema.items) (c.in-Refute.query.now, texts.query.items) (c.in-Refute.witness.now, witness.witness.items);
      named = sym (ap task_of_paths c.in-Refute.is);
      read = AllRead-trans _ _ _ _ _ texts.ensures.read witness.ensures.read;
      are = refl;
    }

pub returns-in_ok-tables-in-Run-clause-ok : goal.returns-in_ok-tables-in-Run-clause-ok
returns-in_ok-tables-in-Run-clause-ok g c =
    let texts = c.in_ok-schema-in-Run in
    let tables = c.in_ok-tables-in-Run.ensures.read in
    record {
      task = Run (c.in-Run.schema.now, texts.schema.items) (c.in-Run.query.now, texts.query.items) tables.tables;
      named = ap (Run c.in-Run.schema.now c.in-Run.query.now) (tables.named ∙ ap named c.as_slice.ensures.value) ∙ sym (ap task_of_paths c.in-Run.is);
      read = AllRead-trans _ _ _ _ _ texts.ensures.read tables.read;
      are = ap (Run texts.schema.items texts.query.items) tables.are;
    }
