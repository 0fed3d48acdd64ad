use Rattle.std.proofs.Common.{arith, ◌≡◌, ◌∙◌, ℕ, Bool, false, true, zero, suc, List, [], ◌∷◌, ap, codes, drop, map, refl, sym, subst}
use Rattle.std.specs.List.{Any, Contains}
use Rattle.std.specs.Prelude.{unwrap_or}
use Rattle.std.specs.Str.{bytes_eq}
use Rattle.wd_command.specs.CommandLine.{AreOtherWords, AreReadAs}
use Rattle.wd_command.specs.Failures.{HasReason, IsUncutWord}
use Rattle.wd_command.specs.Files.{Reads}
use Rattle.wd_command.specs.Laws.{IsPastWords}
use Rattle.wd_command.specs.Words.{HasNoEquals, Task, Usage, Check, Explain, Verify, Refute, Run, run_words, word_of, words_of}
use Rattle.wd_command.specs.declared.failure.Failure.{Failure}
use Rattle.wd_command.specs.declared.failure.Failure.TheVariants.{CommandLine, NotText, Unassigned, Refused, Fault, CannotRead, CannotWrite, OutOfMemory}
use Rattle.wd_command.proofs.LineLemmas.{IsTaken, only_line, words_taken}
use Rattle.wd_command.proofs.laws.plain_tasks_are_judged.Goals as goal

-- a word NAME=PATH has an `=`
joined_has : (name path : List ℕ) → Contains (word_of (name, path)) 61
joined_has [] path = (zero, omega arith, refl)
joined_has (byte ∷ name) path =
    let later = joined_has name path in
    (suc later.0, omega (arith, later.1), later.2)

none_lacks : (tables : List (List ℕ × List ℕ)) (word : List ℕ) → HasNoEquals word → Any (λ w. w ≡ word) (map word_of tables) → ⊥
none_lacks [] word lacks (k, other, below, is, same) = absurd (omega (arith, below))
none_lacks (t ∷ tables) word lacks (zero, other, below, is, same) = lacks (subst (λ w. Contains w 61) (is ∙ same) (joined_has t.0 t.1))
none_lacks (t ∷ tables) word lacks (suc k, other, below, is, same) = none_lacks tables word lacks (k, other, omega (arith, below), is, same)

-- the words are those of `run`
are_of_run : List (List ℕ) → Bool
are_of_run [] = false
are_of_run (name ∷ words) = bytes_eq name (codes "run")

not_run : {X : Type 0} → false ≡ true → X
not_run same = cc

-- each word NAME=PATH of a task has an `=`
none_uncut : (task : Task) (s q : List ℕ) (tables : List (List ℕ)) (word : List ℕ) → words_of task ≡ run_words s q tables → Any (λ w. w ≡ word) tables → HasNoEquals word → ⊥
unfolding are_of_run
none_uncut Usage s q tables word same there lacks = not_run (ap are_of_run same)
none_uncut (Check listed a b) s q tables word same there lacks = not_run (ap are_of_run same)
none_uncut (Explain a b) s q tables word same there lacks = not_run (ap are_of_run same)
none_uncut (Verify listed a b f) s q tables word same there lacks = not_run (ap are_of_run same)
none_uncut (Refute a b f) s q tables word same there lacks = not_run (ap are_of_run same)
none_uncut (Run a b ts) s q tables word same there lacks = none_lacks ts word lacks (subst (λ words. Any (λ w. w ≡ word) (drop 3 words)) (sym same) there)

-- words are read in one way
read_once : (words a b : List (List ℕ)) → AreReadAs words a → AreReadAs words b → a ≡ b
read_once words a b first second = ap (λ found. unwrap_or found a) (sym first.found ∙ second.found)

only_words : (task : Task) (line : List (List ℕ)) → IsTaken task → AreReadAs (words_of task) line → words_of task ≡ line
only_words Usage line taken read = only_line [] line (λ k d below. absurd (omega (arith, below))) read
only_words task line taken read = read_once (words_of task) (words_of task) line taken read

not_other : (task : Task) → IsTaken task → AreOtherWords (words_of task) → ⊥
not_other Usage taken other = other.some refl
not_other task taken other = other.other (words_of task) taken

not_uncut : (task : Task) (word : List ℕ) → IsTaken task → IsUncutWord (words_of task) word → ⊥
not_uncut task word taken (line, read, (s, q, tables, is, there, lacks)) = none_uncut task s q tables word (only_words task line taken read ∙ is) there lacks

past_words : (task : Task) (before after : Reads) (failure : Failure) → IsTaken task → HasReason (words_of task) before after failure → IsPastWords failure
past_words task before after (CommandLine error) taken h = absurd (not_other task taken h.0)
past_words task before after NotText taken h = h
past_words task before after (Unassigned word) taken h = absurd (not_uncut task word.now taken h.0)
past_words task before after (Refused refusal) taken h = tt
past_words task before after (Fault fault) taken h = tt
past_words task before after (CannotRead path) taken h = tt
past_words task before after CannotWrite taken h = h
past_words task before after OutOfMemory taken h = tt

pub returns : goal.returns
returns c task before after failure plain below h = past_words task before after failure (words_taken task plain (omega arith)) h
