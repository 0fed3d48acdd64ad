-- What the words of the command line ask for.
use Rattle.std.specs.Prelude.{◌≡◌, ◌≢◌, ℕ, Bool, List, [], ◌∷◌, ◌++◌, map, codes, if◌then◌else◌, All, Any, Contains, ⊤}
use Rattle.std.specs.Str.{bytes_eq}

-- a word that does not begin with a hyphen
abbrev pub IsPlain : List ℕ → Type 0
IsPlain [] = ⊤
IsPlain (byte ∷ rest) = byte ≢ 45

-- the word NAME=PATH
abbrev pub word_of : List ℕ × List ℕ → List ℕ
word_of table = table.0 ++ 61 ∷ table.1

-- the text has no `=`, as what comes before the first `=` of a word
abbrev pub HasNoEquals : List ℕ → Type 0
HasNoEquals text = ¬ (Contains text 61)

-- the words are those of the tables, each cut at its first `=`
pub record AreCut (words : List (List ℕ)) (tables : List (List ℕ × List ℕ)) : Type 0 where
  pub joined : words ≡ map word_of tables
  pub first : All (λ t. HasNoEquals t.0) tables

-- ---- tasks

-- what is asked of the program: its usage, or a command over its inputs by name; a T stands for an input, as its path or its text does
pub data TaskOf (T : Type 0) : Type 0 where
  Usage : TaskOf T
  Check : (listed : Bool) (schema query : T) → TaskOf T
  Explain : (schema query : T) → TaskOf T
  Verify : (listed : Bool) (schema query certificate : T) → TaskOf T
  Refute : (schema query witness : T) → TaskOf T
  Run : (schema query : T) (tables : List (List ℕ × T)) → TaskOf T

-- a task by the paths, or by the texts, of its inputs
abbrev pub Task : Type 0
Task = TaskOf (List ℕ)

-- a task with each input mapped by f
abbrev pub with_inputs : {T U : Type 0} → (T → U) → TaskOf T → TaskOf U
with_inputs f Usage = Usage
with_inputs f (Check listed schema query) = Check listed (f schema) (f query)
with_inputs f (Explain schema query) = Explain (f schema) (f query)
with_inputs f (Verify listed schema query certificate) = Verify listed (f schema) (f query) (f certificate)
with_inputs f (Refute schema query witness) = Refute (f schema) (f query) (f witness)
with_inputs f (Run schema query tables) = Run (f schema) (f query) (map (λ t. (t.0, f t.1)) tables)

-- the inputs of a task in the order of the words, a table's made of its name and itself by f
abbrev pub inputs_by : {T : Type 0} → (List ℕ × T → T) → TaskOf T → List T
inputs_by f Usage = []
inputs_by f (Check listed schema query) = schema ∷ query ∷ []
inputs_by f (Explain schema query) = schema ∷ query ∷ []
inputs_by f (Verify listed schema query certificate) = schema ∷ query ∷ certificate ∷ []
inputs_by f (Refute schema query witness) = schema ∷ query ∷ witness ∷ []
inputs_by f (Run schema query tables) = schema ∷ query ∷ map f tables

-- the inputs of a task, in the order of the words
abbrev pub inputs_of : {T : Type 0} → TaskOf T → List T
inputs_of task = inputs_by (λ t. t.1) task

-- ---- the words of tasks by paths

-- the flag `--list`, where it is given
abbrev pub flag_of : Bool → List (List ℕ)
flag_of listed = if listed then codes "--list" ∷ [] else []

-- the name of the command, and the flag after it
abbrev pub head_of : Task → List (List ℕ)
head_of Usage = []
head_of (Check listed schema query) = codes "check" ∷ flag_of listed
head_of (Explain schema query) = codes "explain" ∷ []
head_of (Verify listed schema query certificate) = codes "verify" ∷ flag_of listed
head_of (Refute schema query witness) = codes "refute" ∷ []
head_of (Run schema query tables) = codes "run" ∷ []

-- what follows the name of the command and the flag
abbrev pub arguments_of : Task → List (List ℕ)
arguments_of task = inputs_by word_of task

-- the words of a task
abbrev pub words_of : Task → List (List ℕ)
words_of task = head_of task ++ arguments_of task

-- the words of `run` with these words in the place of NAME=PATH
abbrev pub run_words : List ℕ → List ℕ → List (List ℕ) → List (List ℕ)
run_words schema query tables = codes "run" ∷ schema ∷ query ∷ tables

-- a word in the place of NAME=PATH has no `=`
abbrev pub HasUncut : List (List ℕ) → List ℕ → Type 0
HasUncut words word = (schema query : List ℕ) × (tables : List (List ℕ)) × (words ≡ run_words schema query tables) × Any (λ w. w ≡ word) tables × HasNoEquals word

-- the name of each table of a task has no `=`, so that its word is cut there
abbrev pub IsCut : Task → Type 0
IsCut (Run schema query tables) = All (λ t. HasNoEquals t.0) tables
IsCut task = ⊤

-- the words without a flag `--list` right after the first word
abbrev pub without_flag : List (List ℕ) → List (List ℕ)
without_flag (name ∷ word ∷ words) = if bytes_eq word (codes "--list") then name ∷ words else name ∷ word ∷ words
without_flag words = words

-- no word begins with a hyphen, except that flag
abbrev pub ArePlain : List (List ℕ) → Type 0
ArePlain words = All IsPlain (without_flag words)
