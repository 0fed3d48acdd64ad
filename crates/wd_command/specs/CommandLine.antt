-- The command line: its shape in the words of `clap`, and what words ask for.
use Rattle.std.specs.Prelude.{◌≡◌, ◌≢◌, ℕ, Bool, List, [], ◌∷◌, codes, if◌then◌else◌, Option, Some, None, option_and_then, option_map, fold, false, true, unwrap_or}
use Rattle.std.specs.Option.{option_map_or}
use Rattle.std.specs.Str.{bytes_eq}
use Rattle.clap.specs.Words.{App, Row, Rule, all_of, fault_of, first_of, new_app, new_rule, one_of, subcommand_of, with_rule, with_subcommand}
use Rattle.clap.specs.Simple.{on_top}
use Rattle.clap.specs.Lexer.{usize_max}
use Rattle.clap.specs.declared.builder.action.ArgAction.TheVariants.{SetTrue}
use Rattle.wd_command.specs.Words.{Task, Usage, Check, Explain, Verify, Refute, IsCut, run_words, words_of}

-- ---- the commands, in the words of `clap`

-- a positional word that is required
abbrev pub wanted : List ℕ → Rule
wanted id = record (new_rule id) { required = true; value_names = 1 }

-- any number of positional words
abbrev pub any_number : List ℕ → Rule
any_number id = record (new_rule id) { range = Some (record { start_inclusive = 0; end_inclusive = usize_max }); value_names = 1 }

-- a flag
abbrev pub flag : List ℕ → Rule
flag id = record (new_rule id) { long = Some id; action = Some SetTrue }

-- `NAME SCHEMA QUERY`
abbrev pub paths_command : List ℕ → App
paths_command name = with_rule (with_rule (new_app name) (wanted (codes "schema"))) (wanted (codes "query"))

-- `NAME SCHEMA QUERY FILE`
abbrev pub file_command : List ℕ → App
file_command name = with_rule (paths_command name) (wanted (codes "file"))

-- `NAME SCHEMA QUERY [NAME=PATH]...`
abbrev pub tables_command : List ℕ → App
tables_command name = with_rule (paths_command name) (any_number (codes "tables"))

-- a command that has the flag `--list` too
abbrev pub with_list : App → App
with_list command = with_rule command (flag (codes "list"))

-- the program's name, after which a command is required
abbrev pub program : App
program = on_top (λ top. record top { no_binary_name = true; subcommand_required = true }) (new_app (codes "wdcheck"))

-- the program's commands
abbrev pub commands : List App
commands = with_list (paths_command (codes "check")) ∷ paths_command (codes "explain") ∷ with_list (file_command (codes "verify"))
    ∷ file_command (codes "refute") ∷ tables_command (codes "run") ∷ []

abbrev pub command_line : App
command_line = fold (λ above command. with_subcommand above command.top) program commands

-- ---- what a parse has found

-- the paths of a schema and a query
abbrev pub two_paths : List Row → Option (List ℕ × List ℕ)
two_paths rows = option_and_then (λ schema. option_map (λ query. (schema, query)) (first_of (codes "query") rows)) (first_of (codes "schema") rows)

-- the paths of a schema and a query, and the path of one more file
abbrev pub three_paths : List Row → Option (List ℕ × List ℕ × List ℕ)
three_paths rows = option_and_then (λ file. option_map (λ paths. (paths.0, paths.1, file)) (two_paths rows)) (first_of (codes "file") rows)

-- whether the flag `--list` was given
abbrev pub is_listed : List Row → Bool
is_listed rows = option_map_or (λ text. bytes_eq text (codes "true")) (one_of (codes "list") rows) false

-- words NAME=PATH
abbrev pub tables_in : List Row → List (List ℕ)
tables_in rows = unwrap_or (all_of (codes "tables") rows) []

-- the command's words in one order: its name, the flag if it was given, the paths, and words NAME=PATH
abbrev pub line_after : List ℕ → List Row → Option (List (List ℕ))
line_after name rows = if bytes_eq name (codes "check") then option_map (λ paths. words_of (Check (is_listed rows) paths.0 paths.1)) (two_paths rows)
    else (if bytes_eq name (codes "explain") then option_map (λ paths. words_of (Explain paths.0 paths.1)) (two_paths rows)
    else (if bytes_eq name (codes "verify") then option_map (λ paths. words_of (Verify (is_listed rows) paths.0 paths.1 paths.2)) (three_paths rows)
    else (if bytes_eq name (codes "refute") then option_map (λ paths. words_of (Refute paths.0 paths.1 paths.2)) (three_paths rows)
    else (if bytes_eq name (codes "run") then option_map (λ paths. run_words paths.0 paths.1 (tables_in rows)) (two_paths rows)
    else None))))

-- those of the command that a parse has met
abbrev pub line_in : Option (List ℕ × List Row) → Option (List (List ℕ))
line_in met = option_and_then (λ command. line_after command.0 command.1) met

-- ---- what words ask for

-- `clap` finds no fault in the words, and what a parse of them finds are these words in one order
pub record AreReadAs (words line : List (List ℕ)) : Type 0 where
  pub fine : fault_of command_line words ≡ []
  pub found : line_in (subcommand_of command_line words) ≡ Some line

-- the words are those of the task, each word NAME=PATH of which is cut at its first `=`
pub record AreWordsOf (words : List (List ℕ)) (task : Task) : Type 0 where
  pub read : AreReadAs words (words_of task)
  pub cut : IsCut task

-- the words ask for the task by the paths of its inputs; without words it is the usage
abbrev pub AskFor : List (List ℕ) → Task → Type 0
AskFor [] task = task ≡ Usage
AskFor (word ∷ words) task = AreWordsOf (word ∷ words) task

-- there are words, and they are those of no command
pub record AreOtherWords (words : List (List ℕ)) : Type 0 where
  pub some : words ≢ []
  pub other : (line : List (List ℕ)) → AreReadAs words line → ⊥
