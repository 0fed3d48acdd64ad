-- What `clap` makes of words that begin with no hyphen: the first word, which names a command, and the words of a command one by one.
use Rattle.std.proofs.Common.{arith, ◌≡◌, ◌∙◌, ◌==◌, ◌++◌, ◌⊎◌, ℕ, Bool, true, false, suc, List, [], ◌∷◌, map, Option, Some, None, inl, inr, codes, refl, sym, ap, ap₂, ne_eqb}
use Rattle.std.specs.Prelude.{find, fold, is_some}
use Rattle.std.specs.List.{All}
use Rattle.std.specs.Option.{option_map, option_map_or}
use lib.Pointwise.{bytes_decides}
use Rattle.clap.specs.Walk.{Held, Names, Rule, Step, Text, Walk, Waiting, idle, option, positional, after_step, answers_to, arg_by_index, finished, nothing_held, plain_word, rows_after, settled, subcommand_met, to_positional, value, walk, walk_from, walked, word_met}
use Rattle.clap.specs.Lexer.{long_of, short_of}
use Rattle.std.specs.Str.{bytes_eq}
use Rattle.clap.specs.Simple.{App, Shape, built, built_leaf, entered, inherited, label_of, names_of, rows_at, subcommand_of}
use Rattle.clap.specs.Kinds.{Kinds, or_else}
use Rattle.clap.specs.Faults.{check_fault, defaults_fault, entered_fault, fault_of, level_fault, other_fault, settle_fault, step_fault, turn_fault, walk_fault}
use Rattle.clap.proofs.FaultLemmas.{stopped_fault}
use Rattle.clap.proofs.WalkLemmas.{walk_stopped}
use Rattle.clap.proofs.OnLiterals.{clap_on_literals}
use Rattle.wd_command.specs.CommandLine.{command_line, commands, program}
use Rattle.wd_command.specs.Words.{IsPlain}

-- ---- plain words

pub plain_first : (word : Text) (words : List Text) → All IsPlain (word ∷ words) → IsPlain word
plain_first word words plain = plain 0 word (omega arith)

pub plain_rest : (word : Text) (words : List Text) → All IsPlain (word ∷ words) → All IsPlain words
plain_rest word words plain k d below = plain (suc k) d (omega arith)

-- a word that begins with no hyphen is no flag
record IsNoFlag (word : Text) : Type 0 where
  dashes : bytes_eq word (45 ∷ 45 ∷ []) ≡ false
  long : long_of word ≡ None
  short : short_of word ≡ None

no_flag : (word : Text) → IsPlain word → IsNoFlag word
no_flag [] plain = record { dashes = refl; long = refl; short = refl }
no_flag (x ∷ xs) plain =
    let no_hyphen : (x == 45) ≡ false = ne_eqb x 45 plain in
    record { dashes = rw no_hyphen refl; long = rw no_hyphen refl; short = rw no_hyphen refl }

-- between two words, where the next one goes to the positional with this number
abbrev pub between : Held → Waiting → ℕ → Walk
between h waiting position = record { held = h; waiting = waiting; position = position; is_trailing = false; stopped = None }

-- before the first word
abbrev pub start : Walk
start = walk_from nothing_held

-- a plain word that names no command goes to a positional
module _ (names : Names) (waiting : Waiting) (position : ℕ) (word : Text) (h : Held) (plain : IsPlain word) (unnamed : subcommand_met names waiting word ≡ None) where
  value_met : (c : List Rule) → plain_word c waiting word h ≡ (h, value) → word_met c names false waiting position word h ≡ (h, value)
  value_met c is =
      let flag = no_flag word plain in
      rw (unnamed, flag.dashes, flag.long, flag.short) is

  no_other : (s : Shape) → other_fault s None word h ≡ []
  no_other s =
      let flag = no_flag word plain in
      rw (flag.dashes, flag.long, flag.short) refl

  -- its fault is that of the step
  pub value_turn : (s : Shape) → plain_word s.rules waiting word h ≡ (h, value) → turn_fault s names (between h waiting position) word ≡ step_fault s position h value
  value_turn s is =
      let fault : Option Text → Held × Step → Kinds = λ met step. or_else (other_fault s met word h) (step_fault s position step.0 step.1) in
      ap₂ fault unnamed (value_met s.rules is) ∙ ap (λ kinds. or_else kinds (step_fault s position h value)) (no_other s)

-- ---- the words of a command

unnamed : (waiting : Waiting) (word : Text) → subcommand_met [] waiting word ≡ None
unnamed idle word = refl
unnamed (option id) word = refl
unnamed positional word = refl

-- the word has no fault
pub record Takes (s : Shape) (before : Walk) (word : Text) (after : Walk) : Type 0 where
  pub turn : turn_fault s [] before word ≡ []
  pub step : walked s.rules [] before word ≡ after

-- a plain word goes to the next positional
pub taken : (s : Shape) (h : Held) (waiting : Waiting) (position : ℕ) (word : Text) (after : Walk) → IsPlain word → plain_word s.rules waiting word h ≡ (h, value)
    → step_fault s position h value ≡ [] → to_positional s.rules (arg_by_index s.rules position) word (between h waiting position) h ≡ after
    → Takes s (between h waiting position) word after
unfolding walked
taken s h waiting position word after plain is fine to =
    let alone = unnamed waiting word in
    record {
      turn = value_turn [] waiting position word h plain alone s is ∙ fine;
      step = ap (λ (met : Held × Step). after_step s.rules word (between h waiting position) met.0 met.1) (value_met [] waiting position word h plain alone s.rules is) ∙ to;
    }

-- the checks after the words
abbrev pub end_fault : Shape → Held → Kinds
end_fault s h = or_else (settle_fault s.rules s.args_override_self h)
    (or_else (defaults_fault (settled s.rules h).rows s.rules) (check_fault s (finished s.rules h) false))

-- the fault of the words that are left
abbrev pub rest_fault : Shape → Walk → List Text → Kinds
rest_fault s w words = or_else (walk_fault s [] w words) (end_fault s (fold (walked s.rules []) w words).held)

-- the fault of all the words of a command
abbrev pub level : Shape → List Text → Kinds
level s words = level_fault s [] nothing_held words false []

pub none_left : (s : Shape) (w : Walk) → rest_fault s w [] ≡ end_fault s w.held
unfolding walk_fault
none_left s w = refl

-- a word that the command takes leaves what f makes of the words to those after it
abbrev pub Follows : {X : Type 0} → Shape → (Walk → List Text → X) → Type 0
Follows s f = (before after : Walk) (word : Text) (words : List Text) → Takes s before word after → f before (word ∷ words) ≡ f after words

pub fault_follows : (s : Shape) → Follows s (rest_fault s)
unfolding walk_fault
fault_follows s before after word words takes =
    ap₂ (λ (kinds : Kinds) (w : Walk). or_else (or_else kinds (walk_fault s [] w words)) (end_fault s (fold (walked s.rules []) w words).held)) takes.turn takes.step

pub walk_follows : (s : Shape) → Follows s (fold (walked s.rules []))
walk_follows s before after word words takes = ap (λ w. fold (walked s.rules []) w words) takes.step

or_else_first : (a b : Kinds) → or_else a b ≡ [] → a ≡ []
or_else_first [] b none = refl
or_else_first (k ∷ ks) b none = none

or_else_none : (a : Kinds) → or_else a [] ≡ a
or_else_none [] = refl
or_else_none (k ∷ ks) = refl

-- where the words that are left have no fault, the next one has none
pub next_turn : (s : Shape) (w : Walk) (word : Text) (words : List Text) → rest_fault s w (word ∷ words) ≡ [] → turn_fault s [] w word ≡ []
unfolding walk_fault
next_turn s w word words none = or_else_first (turn_fault s [] w word) _ (or_else_first (or_else (turn_fault s [] w word) (walk_fault s [] (walked s.rules [] w word) words)) _ none)

-- ---- the first word

-- the program's commands, and one of them, as they are built
abbrev pub app : App
app = built command_line

abbrev pub shape : App → Shape
shape command = built_leaf (inherited program.top command.top)

abbrev pub IsName : List Text → Text → Type 0
IsName [] word = ⊥
IsName (name ∷ names) word = (word ≡ name) ⊎ IsName names word

named : (names : List Text) (word : Text) → IsName names word ⊎ (find (answers_to word) (map (λ name. (name, [])) names) ≡ None)
named [] word = inr refl
named (name ∷ names) word = go (bytes_eq name word) refl (named names word)
  where
    go : (is : Bool) → bytes_eq name word ≡ is → IsName names word ⊎ (find (answers_to word) (map (λ name. (name, [])) names) ≡ None)
        → IsName (name ∷ names) word ⊎ (find (answers_to word) (map (λ name. (name, [])) (name ∷ names)) ≡ None)
    go true is rest = inl (inl (sym ((bytes_decides name word).0 is)))
    go false is (inl there) = inl (inr there)
    go false is (inr none) = inr (rw is none)

-- the names of the commands, and of `help`
abbrev pub all_names : List Text
all_names = map (λ command. command.top.name) commands ++ codes "help" ∷ []

-- where the words have no fault, the first one has none
first_turn : (word : Text) (words : List Text) → fault_of command_line (word ∷ words) ≡ [] → turn_fault app.top (names_of app) start word ≡ []
unfolding walk_fault
first_turn word words none =
    let turn = turn_fault app.top (names_of app) start word in
    or_else_first turn _ (or_else_first (or_else turn (walk_fault app.top (names_of app) (walked app.top.rules (names_of app) start word) words)) _ none)

pub first_word : (word : Text) (words : List Text) → IsPlain word → fault_of command_line (word ∷ words) ≡ [] → IsName all_names word
unfolding clap_on_literals
first_word word words plain none = go (named all_names word)
  where
    go : IsName all_names word ⊎ (find (answers_to word) (map (λ name. (name, [])) all_names) ≡ None) → IsName all_names word
    go (inl there) = there
    go (inr lacks) =
        let refused = sym (value_turn (names_of app) idle 1 word nothing_held plain (ap (option_map (λ (s : Text × List Text). s.0)) lacks) app.top refl) ∙ first_turn word words none in
        cc

-- a call for help is no success
pub no_help : (words : List Text) → fault_of command_line (codes "help" ∷ words) ≡ [] → ⊥
unfolding clap_on_literals
no_help words none =
    let shown = first_turn (codes "help") words none in
    cc

-- the name of a command, and the command as it is built
pub record IsCommand (name : Text) (s : Shape) : Type 0 where
  pub step : walked app.top.rules (names_of app) start name ≡ record start { stopped = Some (name, []) }
  pub turn : turn_fault app.top (names_of app) start name ≡ []
  pub is : find (λ sub. answers_to name (label_of sub)) app.subs ≡ Some s

module _ (name : Text) (s : Shape) (command : IsCommand name s) (words : List Text) where
  stops : ◌≡◌ {A = Walk} (walk app.top.rules (names_of app) nothing_held (name ∷ words)) (record start { stopped = Some (name, words) })
  stops = ap (λ w. fold (walked app.top.rules (names_of app)) w words) command.step ∙ sym (walk_stopped app.top.rules (names_of app) start name [] words)

  passes : or_else (turn_fault app.top (names_of app) start name) (walk_fault app.top (names_of app) (walked app.top.rules (names_of app) start name) words) ≡ []
  passes = ap₂ (λ (kinds : Kinds) (w : Walk). or_else kinds (walk_fault app.top (names_of app) w words)) command.turn command.step
      ∙ stopped_fault app.top (names_of app) start (name, []) words

  -- the fault of a line is that of the words after the command's name
  pub command_fault : fault_of command_line (name ∷ words) ≡ level s words
  unfolding clap_on_literals
  command_fault =
      let checks : Walk → Bool → Kinds = λ w has. or_else (settle_fault app.top.rules app.top.args_override_self w.held)
      (or_else (defaults_fault (settled app.top.rules w.held).rows app.top.rules) (check_fault app.top (finished app.top.rules w.held) has)) in
      let on_walk : Kinds → Walk → Kinds = λ first w. or_else first (or_else (entered_fault app w.stopped) (checks w (is_some (entered app w.stopped)))) in
      let on_shape : Option Shape → Kinds = λ found. or_else (option_map_or (λ sub. level sub words) found [])
      (checks start (is_some (option_map (λ sub. rows_at sub words) found))) in
      ap₂ on_walk passes stops ∙ (ap on_shape command.is ∙ or_else_none (level s words))

  -- what a parse enters
  pub command_rows : subcommand_of command_line (name ∷ words) ≡ Some (s.name, rows_after s.rules [] words)
  command_rows = ap (λ (w : Walk). entered app w.stopped) stops ∙ ap (option_map (λ sub. rows_at sub words)) command.is
