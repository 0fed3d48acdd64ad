use Rattle.std.proofs.Common.{arith, ◌≡◌, ◌≢◌, ◌∙◌, ◌==◌, ℕ, List, [], ◌∷◌, length, map, Some, None, true, false, true≢false, ap, sym, subst, refl, ⊎_elim, Bor}
use Rattle.std.proofs.lemmas.Bool.{eqb-true}
use Rattle.std.specs.Option.{option_map}
use Rattle.std.specs.Prelude.{IfSome}
use Rattle.clap.specs.Kinds.{HasKind, IsAmong, Kinds}
use Rattle.clap.specs.Words.{App, Text, fault_of, is_simple, is_simple_and_free, kind_of, subcommand_of}
use Rattle.clap.specs.declared.error.Error.{Error}
use Rattle.clap.specs.declared.error.kind.ErrorKind.TheVariants as kind
use Rattle.clap.proofs.OnLiterals.{clap_on_literals}
use Rattle.wd_command.specs.CommandLine.{AreReadAs, AreWordsOf, AskFor, command_line, line_in}
use Rattle.wd_command.specs.Failures.{HasReason, IsFaultOfWords}
use Rattle.wd_command.specs.Files.{Reads}
use Rattle.wd_command.specs.Inputs.{task_of_paths}
use Rattle.wd_command.specs.Words.{IsCut, Task, Usage, words_of}
use Rattle.wd_command.specs.declared.failure.Failure.{Failure}
use Rattle.wd_command.specs.declared.failure.Failure.TheVariants.{OutOfMemory}
use Rattle.wd_command.proofs.FailureLemmas.{IfErr-from_known, IfErr-from_same, by_clap, by_word}
use Rattle.wd_command.proofs.FilesLemmas.{ReadsNothing-refl}
use Rattle.wd_command.proofs.words.read_words.Goals as goal

simple : is_simple command_line ≡ true
unfolding clap_on_literals
simple = refl

free : is_simple_and_free command_line ≡ true
unfolding clap_on_literals
free = refl

-- without words the usage is asked for
no_words : (words : List (Bor (List ℕ))) → (length words == 0) ≡ true → AskFor (map (λ w. w.now) words) Usage
no_words [] none = refl
no_words (word ∷ words) none = absurd (omega (arith, eqb-true (length (word ∷ words)) 0 none))

-- with words their task is
some_words : (words : List (Bor (List ℕ))) (task : Task) → (length words == 0) ≡ false → AreWordsOf (map (λ w. w.now) words) task → AskFor (map (λ w. w.now) words) task
some_words [] task some are = absurd (true≢false some)
some_words (word ∷ words) task some are = are

are_some : (words : List (Bor (List ℕ))) → (length words == 0) ≡ false → map (λ w. w.now) words ≢ []
are_some [] some none = true≢false some
are_some (word ∷ words) some none = cc

pub returns-then-is_empty-clause-ok : goal.returns-then-is_empty-clause-ok
returns-then-is_empty-clause-ok c = no_words c.args.words.now (sym c.is_empty.ensures ∙ c.if-is_empty.true)

pub returns-in-Some-clause-ok : goal.returns-in-Some-clause-ok
returns-in-Some-clause-ok c =
    let words : List Text = map (λ w. w.now) c.args.words.now in
    let parse = c.in_ok-matches.ensures in
    let same = c.in_ok-command.ensures in
    some_words c.args.words.now _ (sym c.is_empty.ensures ∙ c.if-is_empty.false) (record {
      read = record {
        fine = ap (λ (a : App). fault_of a words) (sym same) ∙ parse.kinds (ap is_simple_and_free same ∙ free);
        found = ap line_in (ap (λ (a : App). subcommand_of a words) (sym same) ∙ sym (parse.ok.2 (ap is_simple same ∙ simple)).1)
            ∙ sym c.in_ok-task.ensures.ok ∙ ap (option_map (λ t. words_of (task_of_paths t))) c.in-Some.is;
      };
      cut = subst (λ found. IfSome found (λ t. IsCut (task_of_paths t))) c.in-Some.is c.in_ok-task.ensures.cut;
    })

-- where no kind of fault comes, only memory can fail
by_memory : (e : Error) (kinds : Kinds) → kinds ≡ [] → HasKind kinds e → kind_of e ≡ kind.OutOfMemory
by_memory e kinds none has = ⊎_elim (λ memory. memory) (λ among. absurd (subst (IsAmong (kind_of e)) none among)) has

-- `clap` refused the words
refused : (words : List Text) (reads : Reads) (error : Error) → words ≢ [] → ((line : List Text) → AreReadAs words line → kind_of error ≡ kind.OutOfMemory)
    → (failure : Failure) → IsFaultOfWords error failure → HasReason words reads reads failure
refused words reads error some memory =
    by_clap _ (λ e. kind_of error ≢ kind.OutOfMemory) (λ e other. (record { some = some; other = λ line are. other (memory line are) }, ReadsNothing-refl reads))

pub returns-in_err-matches-clause-err : goal.returns-in_err-matches-clause-err
returns-in_err-matches-clause-err c =
    let words : List Text = map (λ w. w.now) c.args.words.now in
    let same = c.in_ok-command.ensures in
    IfErr-from_known c.from_residual-in_err-matches.result _ (λ failure. (reads : Reads) → HasReason words reads reads failure) c.from_residual-in_err-matches.ensures.1
    (λ failure is reads. refused words reads c.in_err-matches.field-0.0 (are_some c.args.words.now (sym c.is_empty.ensures ∙ c.if-is_empty.false))
    (λ line are. by_memory c.in_err-matches.field-0.0 _ (ap (λ (a : App). fault_of a words) same ∙ are.fine)
    (c.in_err-matches.ensures.kinds (ap is_simple_and_free same ∙ free))) failure is)

none_some : {X : Type 0} (x : X) → None ≡ Some x → ⊥
none_some x same = cc

pub returns-clause-err : goal.returns-clause-err
returns-clause-err c = λ reads.
    let words : List Text = map (λ w. w.now) c.args.words.now in
    let parse = c.in_ok-matches.ensures in
    let same = c.in_ok-command.ensures in
    refused words reads c.in_ok-error-in-None.error (are_some c.args.words.now (sym c.is_empty.ensures ∙ c.if-is_empty.false))
    (λ line are. absurd (none_some _ (sym (ap (option_map (λ t. words_of (task_of_paths t))) c.in-None.is)
    ∙ (c.in_ok-task.ensures.ok ∙ ap line_in ((parse.ok.2 (ap is_simple same ∙ simple)).1 ∙ ap (λ (a : App). subcommand_of a words) same) ∙ are.found))))
    _ c.from.ensures

pub returns-in_err-error-in-None-clause-err : goal.returns-in_err-error-in-None-clause-err
returns-in_err-error-in-None-clause-err c =
    let words : List Text = map (λ w. w.now) c.args.words.now in
    IfErr-from_known c.from_residual-in_err-error-in-None.result (λ failure. failure ≡ OutOfMemory) (λ failure. (reads : Reads) → HasReason words reads reads failure)
    c.from_residual-in_err-error-in-None.ensures.1 (λ failure is reads. subst (HasReason words reads reads) (sym is) tt)

pub returns-in_err-task-clause-err : goal.returns-in_err-task-clause-err
returns-in_err-task-clause-err c =
    let words : List Text = map (λ w. w.now) c.args.words.now in
    let parse = c.in_ok-matches.ensures in
    let same = c.in_ok-command.ensures in
    IfErr-from_same c.from_residual-in_err-task.result c.in_err-task.field-0.0 (λ failure. (reads : Reads) → HasReason words reads reads failure) c.from_residual-in_err-task.ensures.1
    (λ reads. by_word _ _ (λ word uncut. (
      (
        uncut.0,
        record {
          fine = ap (λ (a : App). fault_of a words) (sym same) ∙ parse.kinds (ap is_simple_and_free same ∙ free);
          found = ap line_in (ap (λ (a : App). subcommand_of a words) (sym same) ∙ sym (parse.ok.2 (ap is_simple same ∙ simple)).1) ∙ uncut.1;
        },
        uncut.2,
      ),
      ReadsNothing-refl reads,
    )) c.in_err-task.field-0.0 c.in_err-task.ensures.err)
