-- The lines of the commands, where no word but a flag after the name begins with a hyphen: `clap` takes them and no others, and finds what they ask for.
use Rattle.std.proofs.Common.{arith, ◌≡◌, ◌∙◌, ◌≤◌, Bool, true, false, List, [], ◌∷◌, Some, inl, inr, length, map, codes, refl, sym, ap, subst}
use Rattle.std.specs.Prelude.{⊤, drop, unwrap_or}
use Rattle.std.specs.List.{All}
use Rattle.std.specs.Str.{bytes_eq}
use lib.Pointwise.{bytes_decides}
use Rattle.clap.specs.Lexer.{usize_max}
use Rattle.clap.specs.Walk.{Text, rows_after}
use Rattle.clap.specs.Simple.{Shape, subcommand_of}
use Rattle.clap.specs.Faults.{fault_of}
use Rattle.clap.proofs.OnLiterals.{clap_on_literals}
use Rattle.wd_command.specs.CommandLine.{AreReadAs, AskFor, command_line, line_after, line_in}
use Rattle.wd_command.specs.Words.{ArePlain, Check, Explain, IsCut, IsPlain, Refute, Run, Task, Usage, Verify, arguments_of, run_words, word_of, words_of}
use Rattle.wd_command.proofs.CommandLineLemmas.{IsCommand, IsName, all_names, command_fault, command_rows, first_word, level, no_help, plain_first, plain_rest}
use Rattle.wd_command.proofs.CommandWordsLemmas.{check_found, explain_found, file_fine, file_refuses, file_shape, file_wanted, flagged, list_file_fine, list_file_shape, list_file_taken, list_file_wanted, list_fine, list_shape, list_taken, list_wanted, paths_fine, paths_refuse, paths_shape, paths_wanted, refute_found, tables_pass, tables_refuse, tables_rows, tables_shape, tables_words, three_pass, three_rows, three_words, two_pass, two_rows, two_words, verify_found}

check : IsCommand (codes "check") (list_shape (codes "check"))
unfolding clap_on_literals
check = record { step = refl; turn = refl; is = refl }

explain : IsCommand (codes "explain") (paths_shape (codes "explain"))
unfolding clap_on_literals
explain = record { step = refl; turn = refl; is = refl }

verify : IsCommand (codes "verify") (list_file_shape (codes "verify"))
unfolding clap_on_literals
verify = record { step = refl; turn = refl; is = refl }

refute : IsCommand (codes "refute") (file_shape (codes "refute"))
unfolding clap_on_literals
refute = record { step = refl; turn = refl; is = refl }

run : IsCommand (codes "run") (tables_shape (codes "run"))
unfolding clap_on_literals
run = record { step = refl; turn = refl; is = refl }

-- ---- what words without a fault are

-- a parse of the words finds them as they stand
abbrev pub IsLine : List Text → Type 0
IsLine words = line_in (subcommand_of command_line words) ≡ Some words

-- after the name of a command, and a flag or none
abbrev IsLineAfter : Text → Type 0
IsLineAfter name = (given : Bool) (words : List Text) → All IsPlain words → fault_of command_line (name ∷ flagged given words) ≡ [] → IsLine (name ∷ flagged given words)

line_is : (name : Text) (s : Shape) (given : Bool) (words rest : List Text) → IsCommand name s → words ≡ rest
    → line_after s.name (rows_after s.rules [] (flagged given rest)) ≡ Some (name ∷ flagged given rest) → IsLine (name ∷ flagged given words)
line_is name s given words rest command is finds =
    subst (λ (ws : List Text). IsLine (name ∷ flagged given ws)) (sym is) (ap line_in (command_rows name s command (flagged given rest)) ∙ finds)

-- the words after the name have no fault
after_name : (name : Text) (s : Shape) → IsCommand name s → (words : List Text) → fault_of command_line (name ∷ words) ≡ [] → level s words ≡ []
after_name name s command words none = sym (command_fault name s command words) ∙ none

not_given : {X : Type 0} → false ≡ true → X
not_given same = cc

line_of_check : IsLineAfter (codes "check")
line_of_check given words plain none =
    let s = list_shape (codes "check") in
    let takes = λ (is : given ≡ true). list_taken (codes "check") in
    let paths = two_words (codes "check") (drop 2 s.rules) given takes (list_wanted (codes "check") given) words plain (after_name (codes "check") s check (flagged given words) none) in
    line_is (codes "check") s given words (paths.0 ∷ paths.1 ∷ []) check paths.2
    (ap (line_after (codes "check")) (two_rows (codes "check") (drop 2 s.rules) given takes paths.0 paths.1 (subst (All IsPlain) paths.2 plain)) ∙ check_found given paths.0 paths.1)

line_of_explain : IsLineAfter (codes "explain")
line_of_explain true words plain none = absurd (paths_refuse (codes "explain") words (after_name (codes "explain") (paths_shape (codes "explain")) explain (flagged true words) none))
line_of_explain false words plain none =
    let s = paths_shape (codes "explain") in
    let paths = two_words (codes "explain") (drop 2 s.rules) false not_given (paths_wanted (codes "explain")) words plain (after_name (codes "explain") s explain words none) in
    line_is (codes "explain") s false words (paths.0 ∷ paths.1 ∷ []) explain paths.2
    (ap (line_after (codes "explain")) (two_rows (codes "explain") (drop 2 s.rules) false not_given paths.0 paths.1 (subst (All IsPlain) paths.2 plain)) ∙ explain_found paths.0 paths.1)

line_of_verify : IsLineAfter (codes "verify")
line_of_verify given words plain none =
    let s = list_file_shape (codes "verify") in
    let takes = λ (is : given ≡ true). list_file_taken (codes "verify") in
    let paths = three_words (codes "verify") (drop 3 s.rules) given takes (list_file_wanted (codes "verify") given) words plain (after_name (codes "verify") s verify (flagged given words) none) in
    line_is (codes "verify") s given words (paths.0 ∷ paths.1 ∷ paths.2 ∷ []) verify paths.3
    (ap (line_after (codes "verify")) (three_rows (codes "verify") (drop 3 s.rules) given takes paths.0 paths.1 paths.2 (subst (All IsPlain) paths.3 plain)) ∙ verify_found given paths.0 paths.1 paths.2)

line_of_refute : IsLineAfter (codes "refute")
line_of_refute true words plain none = absurd (file_refuses (codes "refute") words (after_name (codes "refute") (file_shape (codes "refute")) refute (flagged true words) none))
line_of_refute false words plain none =
    let s = file_shape (codes "refute") in
    let paths = three_words (codes "refute") (drop 3 s.rules) false not_given (file_wanted (codes "refute")) words plain (after_name (codes "refute") s refute words none) in
    line_is (codes "refute") s false words (paths.0 ∷ paths.1 ∷ paths.2 ∷ []) refute paths.3
    (ap (line_after (codes "refute")) (three_rows (codes "refute") (drop 3 s.rules) false not_given paths.0 paths.1 paths.2 (subst (All IsPlain) paths.3 plain)) ∙ refute_found paths.0 paths.1 paths.2)

line_of_run : IsLineAfter (codes "run")
line_of_run true words plain none = absurd (tables_refuse (codes "run") words (after_name (codes "run") (tables_shape (codes "run")) run (flagged true words) none))
line_of_run false words plain none =
    let name = codes "run" in
    let given = tables_words name words plain (after_name name (tables_shape name) run words none) in
    line_is name (tables_shape name) false words (given.0 ∷ given.1 ∷ given.2) run given.3
    (tables_rows name given.0 given.1 given.2 (subst (All IsPlain) given.3 plain))

line_of_help : IsLineAfter (codes "help")
line_of_help given words plain none = absurd (no_help (flagged given words) none)

-- after each of the names
abbrev EachLine : List Text → Type 0
EachLine [] = ⊤
EachLine (name ∷ names) = IsLineAfter name × EachLine names

each_line : EachLine all_names
each_line = (line_of_check, (line_of_explain, (line_of_verify, (line_of_refute, (line_of_run, (line_of_help, tt))))))

line_among : (names : List Text) → EachLine names → (word : Text) (given : Bool) (words : List Text) → All IsPlain words
    → fault_of command_line (word ∷ flagged given words) ≡ [] → IsName names word → IsLine (word ∷ flagged given words)
line_among [] lines word given words plain none there = absurd there
line_among (name ∷ names) lines word given words plain none (inl is) =
    subst (λ (w : Text). IsLine (w ∷ flagged given words)) (sym is)
    (lines.0 given words plain (subst (λ (w : Text). fault_of command_line (w ∷ flagged given words) ≡ []) is none))
line_among (name ∷ names) lines word given words plain none (inr there) = line_among names lines.1 word given words plain none there

line_with : (given : Bool) (word : Text) (words : List Text) → All IsPlain (word ∷ words) → fault_of command_line (word ∷ flagged given words) ≡ [] → IsLine (word ∷ flagged given words)
line_with given word words plain none =
    line_among all_names each_line word given words (plain_rest word words plain) none (first_word word (flagged given words) (plain_first word words plain) none)

pub line_found : (words : List Text) → ArePlain words → fault_of command_line words ≡ [] → IsLine words
line_found [] plain none = unfold clap_on_literals in cc
line_found (name ∷ []) plain none = line_with false name [] plain none
line_found (name ∷ word ∷ words) plain none = go (bytes_eq word (codes "--list")) refl
  where
    go : (is : Bool) → bytes_eq word (codes "--list") ≡ is → IsLine (name ∷ word ∷ words)
    go true is =
        let same = (bytes_decides word (codes "--list")).0 is in
        subst (λ (w : Text). IsLine (name ∷ w ∷ words)) (sym same)
        (line_with true name words (rw is at plain) (subst (λ (w : Text). fault_of command_line (name ∷ w ∷ words) ≡ []) same none))
    go false is = line_with false name (word ∷ words) (rw is at plain) none

-- they are read as nothing else
pub only_line : (words line : List Text) → ArePlain words → AreReadAs words line → words ≡ line
only_line words line plain are = ap (λ found. unwrap_or found line) (sym (line_found words plain are.fine) ∙ are.found)

-- ---- the lines of the commands have no fault, and are read as they stand

are_read : (name : Text) (s : Shape) (words : List Text) → IsCommand name s → level s words ≡ [] → line_after s.name (rows_after s.rules [] words) ≡ Some (name ∷ words)
    → AreReadAs (name ∷ words) (name ∷ words)
are_read name s words command none finds = record {
  fine = command_fault name s command words ∙ none;
  found = ap line_in (command_rows name s command words) ∙ finds;
}

check_taken : (given : Bool) (s q : Text) → All IsPlain (s ∷ q ∷ []) → AreReadAs (codes "check" ∷ flagged given (s ∷ q ∷ [])) (codes "check" ∷ flagged given (s ∷ q ∷ []))
check_taken given s q plain =
    let shape = list_shape (codes "check") in
    let takes = λ (is : given ≡ true). list_taken (codes "check") in
    are_read (codes "check") shape (flagged given (s ∷ q ∷ [])) check
    (two_pass (codes "check") (drop 2 shape.rules) given takes s q (list_fine (codes "check") given s q) plain)
    (ap (line_after (codes "check")) (two_rows (codes "check") (drop 2 shape.rules) given takes s q plain) ∙ check_found given s q)

verify_taken : (given : Bool) (s q f : Text) → All IsPlain (s ∷ q ∷ f ∷ []) → AreReadAs (codes "verify" ∷ flagged given (s ∷ q ∷ f ∷ [])) (codes "verify" ∷ flagged given (s ∷ q ∷ f ∷ []))
verify_taken given s q f plain =
    let shape = list_file_shape (codes "verify") in
    let takes = λ (is : given ≡ true). list_file_taken (codes "verify") in
    are_read (codes "verify") shape (flagged given (s ∷ q ∷ f ∷ [])) verify
    (three_pass (codes "verify") (drop 3 shape.rules) given takes s q f (list_file_fine (codes "verify") given s q f) plain)
    (ap (line_after (codes "verify")) (three_rows (codes "verify") (drop 3 shape.rules) given takes s q f plain) ∙ verify_found given s q f)

pub run_taken : (s q : Text) (tables : List Text) → All IsPlain (s ∷ q ∷ tables) → length tables ≤ usize_max → AreReadAs (run_words s q tables) (run_words s q tables)
run_taken s q tables plain below =
    are_read (codes "run") (tables_shape (codes "run")) (s ∷ q ∷ tables) run
    (tables_pass (codes "run") s q tables plain below) (tables_rows (codes "run") s q tables plain)

-- `clap` reads the words of a task as they stand, but for those of the usage, which has none
abbrev pub IsTaken : Task → Type 0
IsTaken Usage = ⊤
IsTaken task = AreReadAs (words_of task) (words_of task)

pub words_taken : (task : Task) → All IsPlain (arguments_of task) → length (arguments_of task) ≤ usize_max → IsTaken task
words_taken Usage plain below = tt
words_taken (Check true s q) plain below = check_taken true s q plain
words_taken (Check false s q) plain below = check_taken false s q plain
words_taken (Explain s q) plain below =
    let shape = paths_shape (codes "explain") in
    are_read (codes "explain") shape (s ∷ q ∷ []) explain
    (two_pass (codes "explain") (drop 2 shape.rules) false not_given s q (paths_fine (codes "explain") s q) plain)
    (ap (line_after (codes "explain")) (two_rows (codes "explain") (drop 2 shape.rules) false not_given s q plain) ∙ explain_found s q)
words_taken (Verify true s q f) plain below = verify_taken true s q f plain
words_taken (Verify false s q f) plain below = verify_taken false s q f plain
words_taken (Refute s q f) plain below =
    let shape = file_shape (codes "refute") in
    are_read (codes "refute") shape (s ∷ q ∷ f ∷ []) refute
    (three_pass (codes "refute") (drop 3 shape.rules) false not_given s q f (file_fine (codes "refute") s q f) plain)
    (ap (line_after (codes "refute")) (three_rows (codes "refute") (drop 3 shape.rules) false not_given s q f plain) ∙ refute_found s q f)
words_taken (Run s q tables) plain below = run_taken s q (map word_of tables) plain (omega (arith, below))

-- so they ask for it
pub asked_by : (task : Task) → IsCut task → IsTaken task → AskFor (words_of task) task
asked_by Usage cut taken = refl
asked_by (Check listed s q) cut taken = record { read = taken; cut = cut }
asked_by (Explain s q) cut taken = record { read = taken; cut = cut }
asked_by (Verify listed s q f) cut taken = record { read = taken; cut = cut }
asked_by (Refute s q f) cut taken = record { read = taken; cut = cut }
asked_by (Run s q tables) cut taken = record { read = taken; cut = cut }
