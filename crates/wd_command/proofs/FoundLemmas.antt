-- What is read of the matches of a command, by their rows.
use Rattle.std.proofs.Common.{◌≡◌, ◌∙◌, ℕ, List, [], Option, Some, None, ap, sym, map}
use Rattle.std.specs.Option.{option_map, unwrap_or}
use Rattle.std.specs.Borrow.{Bor}
use Rattle.clap.specs.Words.{all_of, first_of, found_of, first_value, matched_of, raw_values, rows_of}
use Rattle.clap.proofs.WalkLemmas.{first_value-rows, raw_values-rows}
use Rattle.clap.specs.declared.parser.matches.ArgMatches.{ArgMatches}

-- `get_str` reads the first value in the rows
pub first_read : (m : ArgMatches) (id : List ℕ) (given is : Option (Bor (List ℕ))) → option_map (λ s. s.now) given ≡ first_value (found_of m) id → given ≡ is
    → first_of id (rows_of (found_of m)) ≡ option_map (λ s. s.now) is
first_read m id given is read same = sym (read ∙ first_value-rows (found_of m) id) ∙ ap (option_map (λ (s : Bor (List ℕ)). s.now)) same

-- `get_strs` reads all of them; where there are none, an empty list stands for them
pub all_read : (m : ArgMatches) (id : List ℕ) (given : Option (Bor (List (Bor (List ℕ))))) (none words : Bor (List (Bor (List ℕ))))
    → option_map (λ s. map (λ v. v.now) s.now) given ≡ option_map raw_values (matched_of (found_of m) id) → none.now ≡ [] → words ≡ unwrap_or given none
    → unwrap_or (all_of id (rows_of (found_of m))) [] ≡ map (λ v. v.now) words.now
all_read m id given none words read empty is =
    ap (λ (o : Option (List (List ℕ))). unwrap_or o []) (sym (read ∙ raw_values-rows (found_of m) id)) ∙ go given is
  where
    go : (o : Option (Bor (List (Bor (List ℕ))))) → words ≡ unwrap_or o none → unwrap_or (option_map (λ s. map (λ v. v.now) s.now) o) [] ≡ map (λ v. v.now) words.now
    go None same = sym (ap (λ (w : Bor (List (Bor (List ℕ)))). map (λ v. v.now) w.now) same ∙ ap (map (λ (v : Bor (List ℕ)). v.now)) empty)
    go (Some w) same = sym (ap (λ (w : Bor (List (Bor (List ℕ)))). map (λ v. v.now) w.now) same)
