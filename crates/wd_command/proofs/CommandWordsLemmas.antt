-- The words of each form of command, where none but a first `--list` begins with a hyphen: which of them have no fault, and what a parse finds in them.
use Rattle.std.proofs.Common.{arith, ◌≡◌, ◌∙◌, ◌≤◌, ℕ, zero, suc, Bool, true, false, List, [], ◌∷◌, ◌++◌, Option, Some, None, length, codes, refl, sym, ap, ap₂, append_assoc, append-nil}
use Rattle.std.specs.Prelude.{drop, fold, nat_lt, option_map}
use Rattle.std.specs.List.{All}
use Rattle.std.proofs.lemmas.Bool.Decides.{nat_tests}
use Rattle.clap.specs.Lexer.{usize_max}
use Rattle.clap.specs.Walk.{Held, Row, Rule, Text, Walk, finished, idle, nothing_held, positional, reading_by, rows_after, settled, value, walked}
use Rattle.clap.specs.Simple.{Shape, filled, with_index}
use Rattle.clap.specs.Kinds.{Kinds, or_else, range_kinds}
use Rattle.clap.specs.Faults.{check_fault, defaults_fault, step_fault, turn_fault, values_fault}
use Rattle.clap.specs.declared.parser.matches.ValueSource.TheVariants.{CommandLine}
use Rattle.clap.proofs.OnLiterals.{clap_on_literals}
use Rattle.wd_command.specs.CommandLine.{any_number, file_command, flag, line_after, paths_command, tables_command, tables_in, two_paths, wanted, with_list}
use Rattle.wd_command.specs.Words.{IsPlain, run_words}
use Rattle.wd_command.proofs.CommandLineLemmas.{Follows, Takes, between, end_fault, fault_follows, level, next_turn, none_left, plain_first, plain_rest, rest_fault, shape, start, taken, value_turn, walk_follows}

-- a positional with its number, as it is built, and what a parse finds for it
abbrev pub numbered : ℕ → Rule → Rule
numbered number rule = with_index number (filled rule)

abbrev row : Rule → List Text → Row
row rule values = record { id = rule.id; values = values; count = None; source = Some CommandLine; reading = reading_by rule }

abbrev schema_rule : Rule
schema_rule = numbered 1 (wanted (codes "schema"))

abbrev query_rule : Rule
query_rule = numbered 2 (wanted (codes "query"))

-- the rows, and the words that are given to a positional and make no row yet
abbrev held : List Row → Text → List Text → Held
held rows id words = record { rows = rows; pending = Some (id, words); skip = 0 }

-- ---- a first flag `--list`

-- the words with the flag before them, or without it
abbrev pub flagged : Bool → List Text → List Text
flagged true words = codes "--list" ∷ words
flagged false words = words

abbrev seen : Bool → List Row
seen true = row (filled (flag (codes "list"))) (codes "true" ∷ []) ∷ []
seen false = []

-- after it
abbrev pub start_with : Bool → Walk
start_with given = between (record nothing_held { rows = seen given }) idle 1

-- a command that has the flag takes it
abbrev TakesFlag : Shape → Type 0
TakesFlag s = Takes s start (codes "--list") (start_with true)

after_flag : {X : Type 0} (s : Shape) (f : Walk → List Text → X) → Follows s f → (given : Bool) → (given ≡ true → TakesFlag s) → (words : List Text)
    → f start (flagged given words) ≡ f (start_with given) words
after_flag s f follows true takes words = follows start (start_with true) (codes "--list") words (takes refl)
after_flag s f follows false takes words = refl

-- ---- commands that want just so many words

-- so many plain words are wanted, and no more
abbrev pub Wants : Shape → ℕ → Walk → Type 0
Wants s zero w = (word : Text) → IsPlain word → turn_fault s [] w word ≡ [] → ⊥
Wants s (suc n) w = (end_fault s w.held ≡ [] → ⊥) × ((word : Text) → IsPlain word → (after : Walk) × Takes s w word after × Wants s n after)

wanted_words : (s : Shape) (n : ℕ) (w : Walk) → Wants s n w → (words : List Text) → All IsPlain words → rest_fault s w words ≡ [] → length words ≡ n
wanted_words s zero w wants [] plain none = refl
wanted_words s zero w wants (word ∷ words) plain none = absurd (wants word (plain_first word words plain) (next_turn s w word words none))
wanted_words s (suc n) w wants [] plain none = absurd (wants.0 (sym (none_left s w) ∙ none))
wanted_words s (suc n) w wants (word ∷ words) plain none =
    let step = wants.1 word (plain_first word words plain) in
    let rest = wanted_words s n step.0 step.2 words (plain_rest word words plain) (sym (fault_follows s w step.0 word words step.1) ∙ none) in
    omega (arith, rest)

two_of : (words : List Text) → length words ≡ 2 → (s : Text) × (q : Text) × (words ≡ s ∷ q ∷ [])
two_of [] long = absurd (omega (arith, long))
two_of (s ∷ []) long = absurd (omega (arith, long))
two_of (s ∷ q ∷ []) long = (s, q, refl)
two_of (s ∷ q ∷ x ∷ words) long = absurd (omega (arith, long))

three_of : (words : List Text) → length words ≡ 3 → (s : Text) × (q : Text) × (f : Text) × (words ≡ s ∷ q ∷ f ∷ [])
three_of [] long = absurd (omega (arith, long))
three_of (s ∷ words) long =
    let rest = two_of words (omega (arith, long)) in
    (s, rest.0, rest.1, ap (λ (ws : List Text). s ∷ ws) rest.2)

-- ---- the paths of the schema and the query

abbrev after_schema : Bool → Text → Walk
after_schema given s = between (held (seen given) (codes "schema") (s ∷ [])) idle 2

abbrev after_paths : Bool → Text → Text → Walk
after_paths given s q = between (held (seen given ++ row schema_rule (s ∷ []) ∷ []) (codes "query") (q ∷ [])) idle 3

abbrev path_rows : Bool → Text → Text → List Row
path_rows given s q = seen given ++ row schema_rule (s ∷ []) ∷ row query_rule (q ∷ []) ∷ []

-- a command that wants both paths, and has further rules after those
module _ (name : Text) (more : List Rule) where
  abbrev with_more : Shape
  with_more = record (shape (paths_command name)) { rules = schema_rule ∷ query_rule ∷ more }

  takes_schema : (given : Bool) (s : Text) → IsPlain s → Takes with_more (start_with given) s (after_schema given s)
  takes_schema true s plain = taken with_more (start_with true).held idle 1 s (after_schema true s) plain refl refl refl
  takes_schema false s plain = taken with_more (start_with false).held idle 1 s (after_schema false s) plain refl refl refl

  takes_query : (given : Bool) (s q : Text) → IsPlain q → Takes with_more (after_schema given s) q (after_paths given s q)
  takes_query true s q plain = taken with_more (after_schema true s).held idle 2 q (after_paths true s q) plain refl refl refl
  takes_query false s q plain = taken with_more (after_schema false s).held idle 2 q (after_paths false s q) plain refl refl refl

  after_two : {X : Type 0} (f : Walk → List Text → X) → Follows with_more f → (given : Bool) (s q : Text) (words : List Text) → All IsPlain (s ∷ q ∷ words)
      → f (start_with given) (s ∷ q ∷ words) ≡ f (after_paths given s q) words
  after_two f follows given s q words plain =
      follows (start_with given) (after_schema given s) s (q ∷ words) (takes_schema given s (plain_first s (q ∷ words) plain))
      ∙ follows (after_schema given s) (after_paths given s q) q words (takes_query given s q (plain_first q words (plain_rest s (q ∷ words) plain)))

  -- and then so many
  wants_more : (n : ℕ) (given : Bool) → (end_fault with_more (start_with given).held ≡ [] → ⊥) → ((s : Text) → end_fault with_more (after_schema given s).held ≡ [] → ⊥)
      → ((s q : Text) → Wants with_more n (after_paths given s q)) → Wants with_more (suc (suc n)) (start_with given)
  wants_more n given none one rest =
      (none, λ s plain_s. (after_schema given s, takes_schema given s plain_s, (one s, λ q plain_q. (after_paths given s q, takes_query given s q plain_q, rest s q))))

  -- where the flag may stand before them
  module _ (given : Bool) (takes : given ≡ true → TakesFlag with_more) where
    walk_two : {X : Type 0} (f : Walk → List Text → X) → Follows with_more f → (s q : Text) (words : List Text) → All IsPlain (s ∷ q ∷ words)
        → f start (flagged given (s ∷ q ∷ words)) ≡ f (after_paths given s q) words
    walk_two f follows s q words plain = after_flag with_more f follows given takes (s ∷ q ∷ words) ∙ after_two f follows given s q words plain

    -- there are no more words and no less
    pub two_words : Wants with_more 2 (start_with given) → (words : List Text) → All IsPlain words → level with_more (flagged given words) ≡ []
        → (s : Text) × (q : Text) × (words ≡ s ∷ q ∷ [])
    two_words wants words plain none =
        two_of words (wanted_words with_more 2 (start_with given) wants words plain
        (sym (after_flag with_more (rest_fault with_more) (fault_follows with_more) given takes words) ∙ none))

    pub two_pass : (s q : Text) → end_fault with_more (after_paths given s q).held ≡ [] → All IsPlain (s ∷ q ∷ []) → level with_more (flagged given (s ∷ q ∷ [])) ≡ []
    two_pass s q fine plain =
        walk_two (rest_fault with_more) (fault_follows with_more) s q [] plain ∙ (none_left with_more (after_paths given s q) ∙ fine)

    pub two_rows : (s q : Text) → All IsPlain (s ∷ q ∷ []) → rows_after with_more.rules [] (flagged given (s ∷ q ∷ [])) ≡ finished with_more.rules (after_paths given s q).held
    two_rows s q plain = ap (λ (w : Walk). finished with_more.rules w.held) (walk_two (fold (walked with_more.rules [])) (walk_follows with_more) s q [] plain)

-- ---- NAME SCHEMA QUERY

abbrev pub paths_shape : Text → Shape
paths_shape name = shape (paths_command name)

abbrev pub list_shape : Text → Shape
list_shape name = shape (with_list (paths_command name))

-- a further word is refused
third_word : (s : Shape) (given : Bool) → ((a b : Text) → step_fault s 3 (after_paths given a b).held value ≡ [] → ⊥) → (a b : Text) → Wants s 0 (after_paths given a b)
third_word s given refused a b word plain none = refused a b (sym (value_turn [] idle 3 word (after_paths given a b).held plain refl s refl) ∙ none)

pub paths_wanted : (name : Text) → Wants (paths_shape name) 2 (start_with false)
unfolding clap_on_literals
paths_wanted name = wants_more name (drop 2 (paths_shape name).rules) 0 false (λ none. cc) (λ s none. cc) (third_word (paths_shape name) false (λ s q none. cc))

pub list_wanted : (name : Text) (given : Bool) → Wants (list_shape name) 2 (start_with given)
unfolding clap_on_literals
list_wanted name true = wants_more name (drop 2 (list_shape name).rules) 0 true (λ none. cc) (λ s none. cc) (third_word (list_shape name) true (λ s q none. cc))
list_wanted name false = wants_more name (drop 2 (list_shape name).rules) 0 false (λ none. cc) (λ s none. cc) (third_word (list_shape name) false (λ s q none. cc))

pub list_taken : (name : Text) → TakesFlag (list_shape name)
unfolding clap_on_literals
list_taken name = record { turn = refl; step = refl }

-- without the flag among its rules a command refuses it
pub paths_refuse : (name : Text) (words : List Text) → level (paths_shape name) (flagged true words) ≡ [] → ⊥
unfolding clap_on_literals
paths_refuse name words none =
    let refused = next_turn (paths_shape name) start (codes "--list") words none in
    cc

pub paths_fine : (name s q : Text) → end_fault (paths_shape name) (after_paths false s q).held ≡ []
unfolding clap_on_literals
paths_fine name s q = refl

pub list_fine : (name : Text) (given : Bool) (s q : Text) → end_fault (list_shape name) (after_paths given s q).held ≡ []
unfolding clap_on_literals
list_fine name true s q = refl
list_fine name false s q = refl

pub explain_found : (s q : Text) → line_after (codes "explain") (finished (paths_shape (codes "explain")).rules (after_paths false s q).held) ≡ Some (codes "explain" ∷ s ∷ q ∷ [])
explain_found s q = refl

pub check_found : (given : Bool) (s q : Text) → line_after (codes "check") (finished (list_shape (codes "check")).rules (after_paths given s q).held) ≡ Some (codes "check" ∷ flagged given (s ∷ q ∷ []))
check_found true s q = refl
check_found false s q = refl

-- ---- NAME SCHEMA QUERY FILE

abbrev file_rule : Rule
file_rule = numbered 3 (wanted (codes "file"))

abbrev after_file : Bool → Text → Text → Text → Walk
after_file given s q f = between (held (path_rows given s q) (codes "file") (f ∷ [])) idle 4

-- a command that wants both paths and a third one, and has further rules after those
module _ (name : Text) (rest : List Rule) where
  abbrev with_file : Shape
  with_file = with_more name (file_rule ∷ rest)

  takes_file : (given : Bool) (s q f : Text) → IsPlain f → Takes with_file (after_paths given s q) f (after_file given s q f)
  takes_file true s q f plain = taken with_file (after_paths true s q).held idle 3 f (after_file true s q f) plain refl refl refl
  takes_file false s q f plain = taken with_file (after_paths false s q).held idle 3 f (after_file false s q f) plain refl refl refl

  wants_file : (given : Bool) → (end_fault with_file (start_with given).held ≡ [] → ⊥) → ((s : Text) → end_fault with_file (after_schema given s).held ≡ [] → ⊥)
      → ((s q : Text) → end_fault with_file (after_paths given s q).held ≡ [] → ⊥) → ((s q f : Text) → Wants with_file 0 (after_file given s q f)) → Wants with_file 3 (start_with given)
  wants_file given none one two full =
      wants_more name (file_rule ∷ rest) 1 given none one (λ s q. (two s q, λ f plain_f. (after_file given s q f, takes_file given s q f plain_f, full s q f)))

  -- where the flag may stand before them
  module _ (given : Bool) (takes : given ≡ true → TakesFlag with_file) where
    walk_three : {X : Type 0} (g : Walk → List Text → X) → Follows with_file g → (s q f : Text) → All IsPlain (s ∷ q ∷ f ∷ [])
        → g start (flagged given (s ∷ q ∷ f ∷ [])) ≡ g (after_file given s q f) []
    walk_three g follows s q f plain =
        walk_two name (file_rule ∷ rest) given takes g follows s q (f ∷ []) plain
        ∙ follows (after_paths given s q) (after_file given s q f) f [] (takes_file given s q f (plain_first f [] (plain_rest q (f ∷ []) (plain_rest s (q ∷ f ∷ []) plain))))

    -- there are no more words and no less
    pub three_words : Wants with_file 3 (start_with given) → (words : List Text) → All IsPlain words → level with_file (flagged given words) ≡ []
        → (s : Text) × (q : Text) × (f : Text) × (words ≡ s ∷ q ∷ f ∷ [])
    three_words wants words plain none =
        three_of words (wanted_words with_file 3 (start_with given) wants words plain
        (sym (after_flag with_file (rest_fault with_file) (fault_follows with_file) given takes words) ∙ none))

    pub three_pass : (s q f : Text) → end_fault with_file (after_file given s q f).held ≡ [] → All IsPlain (s ∷ q ∷ f ∷ []) → level with_file (flagged given (s ∷ q ∷ f ∷ [])) ≡ []
    three_pass s q f fine plain =
        walk_three (rest_fault with_file) (fault_follows with_file) s q f plain ∙ (none_left with_file (after_file given s q f) ∙ fine)

    pub three_rows : (s q f : Text) → All IsPlain (s ∷ q ∷ f ∷ []) → rows_after with_file.rules [] (flagged given (s ∷ q ∷ f ∷ [])) ≡ finished with_file.rules (after_file given s q f).held
    three_rows s q f plain = ap (λ (w : Walk). finished with_file.rules w.held) (walk_three (fold (walked with_file.rules [])) (walk_follows with_file) s q f plain)

abbrev pub file_shape : Text → Shape
file_shape name = shape (file_command name)

abbrev pub list_file_shape : Text → Shape
list_file_shape name = shape (with_list (file_command name))

-- a further word is refused
fourth_word : (s : Shape) (given : Bool) → ((a b c : Text) → step_fault s 4 (after_file given a b c).held value ≡ [] → ⊥) → (a b c : Text) → Wants s 0 (after_file given a b c)
fourth_word s given refused a b c word plain none = refused a b c (sym (value_turn [] idle 4 word (after_file given a b c).held plain refl s refl) ∙ none)

pub file_wanted : (name : Text) → Wants (file_shape name) 3 (start_with false)
unfolding clap_on_literals
file_wanted name = wants_file name (drop 3 (file_shape name).rules) false (λ none. cc) (λ s none. cc) (λ s q none. cc) (fourth_word (file_shape name) false (λ s q f none. cc))

pub list_file_wanted : (name : Text) (given : Bool) → Wants (list_file_shape name) 3 (start_with given)
unfolding clap_on_literals
list_file_wanted name true = wants_file name (drop 3 (list_file_shape name).rules) true (λ none. cc) (λ s none. cc) (λ s q none. cc) (fourth_word (list_file_shape name) true (λ s q f none. cc))
list_file_wanted name false = wants_file name (drop 3 (list_file_shape name).rules) false (λ none. cc) (λ s none. cc) (λ s q none. cc) (fourth_word (list_file_shape name) false (λ s q f none. cc))

pub list_file_taken : (name : Text) → TakesFlag (list_file_shape name)
unfolding clap_on_literals
list_file_taken name = record { turn = refl; step = refl }

pub file_refuses : (name : Text) (words : List Text) → level (file_shape name) (flagged true words) ≡ [] → ⊥
unfolding clap_on_literals
file_refuses name words none =
    let refused = next_turn (file_shape name) start (codes "--list") words none in
    cc

pub file_fine : (name s q f : Text) → end_fault (file_shape name) (after_file false s q f).held ≡ []
unfolding clap_on_literals
file_fine name s q f = refl

pub list_file_fine : (name : Text) (given : Bool) (s q f : Text) → end_fault (list_file_shape name) (after_file given s q f).held ≡ []
unfolding clap_on_literals
list_file_fine name true s q f = refl
list_file_fine name false s q f = refl

pub refute_found : (s q f : Text) → line_after (codes "refute") (finished (file_shape (codes "refute")).rules (after_file false s q f).held) ≡ Some (codes "refute" ∷ s ∷ q ∷ f ∷ [])
refute_found s q f = refl

pub verify_found : (given : Bool) (s q f : Text) → line_after (codes "verify") (finished (list_file_shape (codes "verify")).rules (after_file given s q f).held) ≡ Some (codes "verify" ∷ flagged given (s ∷ q ∷ f ∷ []))
verify_found true s q f = refl
verify_found false s q f = refl

-- ---- NAME SCHEMA QUERY [NAME=PATH]...

below_most : (n : ℕ) → n ≤ usize_max → range_kinds 0 usize_max n ≡ []
below_most n below =
    let none_lacks : nat_lt n 0 ≡ false = grind (arith, nat_tests) in
    let none_over : nat_lt usize_max n ≡ false = grind (arith, nat_tests) in
    rw (none_lacks, none_over) refl

any_text : (tables : List Text) → values_fault (numbered 3 (any_number (codes "tables"))) tables ≡ []
any_text [] = refl
any_text (t ∷ tables) = any_text tables

abbrev after_tables : Text → Text → List Text → Walk
after_tables s q tables = between (held (path_rows false s q) (codes "tables") tables) positional 3

-- after all of the words
abbrev after_all : Text → Text → List Text → Walk
after_all s q [] = after_paths false s q
after_all s q (t ∷ tables) = after_tables s q (t ∷ tables)

module _ (name : Text) where
  abbrev pub tables_shape : Shape
  tables_shape = shape (tables_command name)

  takes_first : (s q t : Text) → IsPlain t → Takes tables_shape (after_paths false s q) t (after_tables s q (t ∷ []))
  takes_first s q t plain = taken tables_shape (after_paths false s q).held idle 3 t (after_tables s q (t ∷ [])) plain refl refl refl

  takes_more : (s q : Text) (seen : List Text) (t : Text) → IsPlain t → Takes tables_shape (after_tables s q seen) t (after_tables s q (seen ++ t ∷ []))
  takes_more s q seen t plain = taken tables_shape (after_tables s q seen).held positional 3 t (after_tables s q (seen ++ t ∷ [])) plain refl refl refl

  module _ {X : Type 0} (f : Walk → List Text → X) (follows : Follows tables_shape f) where
    more_tables : (s q : Text) (seen tables : List Text) → All IsPlain tables → f (after_tables s q seen) tables ≡ f (after_tables s q (seen ++ tables)) []
    more_tables s q seen [] plain = ap (λ all. f (after_tables s q all) []) (sym (append-nil seen))
    more_tables s q seen (t ∷ tables) plain =
        follows (after_tables s q seen) (after_tables s q (seen ++ t ∷ [])) t tables (takes_more s q seen t (plain_first t tables plain))
        ∙ (more_tables s q (seen ++ t ∷ []) tables (plain_rest t tables plain) ∙ ap (λ all. f (after_tables s q all) []) (append_assoc seen (t ∷ []) tables))

    all_tables : (s q : Text) (tables : List Text) → All IsPlain tables → f (after_paths false s q) tables ≡ f (after_all s q tables) []
    all_tables s q [] plain = refl
    all_tables s q (t ∷ tables) plain =
        follows (after_paths false s q) (after_tables s q (t ∷ [])) t tables (takes_first s q t (plain_first t tables plain))
        ∙ more_tables s q (t ∷ []) tables (plain_rest t tables plain)

    all_words : (s q : Text) (tables : List Text) → All IsPlain (s ∷ q ∷ tables) → f start (s ∷ q ∷ tables) ≡ f (after_all s q tables) []
    all_words s q tables plain =
        after_two name (drop 2 tables_shape.rules) f follows false s q tables plain ∙ all_tables s q tables (plain_rest q tables (plain_rest s (q ∷ tables) plain))

  -- both paths are wanted
  pub tables_words : (words : List Text) → All IsPlain words → level tables_shape words ≡ [] → (s : Text) × (q : Text) × (tables : List Text) × (words ≡ s ∷ q ∷ tables)
  unfolding clap_on_literals
  tables_words [] plain none = cc
  tables_words (s ∷ []) plain none =
      let missing = sym (fault_follows tables_shape start (after_schema false s) s [] (takes_schema name (drop 2 tables_shape.rules) false s (plain_first s [] plain))) ∙ none in
      cc
  tables_words (s ∷ q ∷ tables) plain none = (s, q, tables, refl)

  -- the flag is refused
  pub tables_refuse : (words : List Text) → level tables_shape (flagged true words) ≡ [] → ⊥
  unfolding clap_on_literals
  tables_refuse words none =
      let refused = next_turn tables_shape start (codes "--list") words none in
      cc

  tables_end : (s q : Text) (tables : List Text) → length tables ≤ usize_max → end_fault tables_shape (after_all s q tables).held ≡ []
  unfolding clap_on_literals
  tables_end s q [] below = refl
  tables_end s q (t ∷ tables) below =
      let h = (after_tables s q (t ∷ tables)).held in
      ap₂ (λ (range values : Kinds). or_else (or_else range values)
      (or_else (defaults_fault (settled tables_shape.rules h).rows tables_shape.rules) (check_fault tables_shape (finished tables_shape.rules h) false)))
      (below_most (length (t ∷ tables)) below) (any_text (t ∷ tables))

  abbrev run_line : List Row → Option (List Text)
  run_line rows = option_map (λ paths. run_words paths.0 paths.1 (tables_in rows)) (two_paths rows)

  rows_at_end : (s q : Text) (tables : List Text) → run_line (finished tables_shape.rules (after_all s q tables).held) ≡ Some (run_words s q tables)
  rows_at_end s q [] = refl
  rows_at_end s q (t ∷ tables) = refl

  module _ (s q : Text) (tables : List Text) (plain : All IsPlain (s ∷ q ∷ tables)) where
    pub tables_pass : length tables ≤ usize_max → level tables_shape (s ∷ q ∷ tables) ≡ []
    tables_pass below =
        all_words (rest_fault tables_shape) (fault_follows tables_shape) s q tables plain
        ∙ (none_left tables_shape (after_all s q tables) ∙ tables_end s q tables below)

    pub tables_rows : run_line (rows_after tables_shape.rules [] (s ∷ q ∷ tables)) ≡ Some (run_words s q tables)
    tables_rows =
        ap (λ (w : Walk). run_line (finished tables_shape.rules w.held)) (all_words (fold (walked tables_shape.rules [])) (walk_follows tables_shape) s q tables plain)
        ∙ rows_at_end s q tables
