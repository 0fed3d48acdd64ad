-- The longest front of a list that passes a test.
use Rattle.std.proofs.Common.{◌≡◌, ℕ, suc, ◌+◌, Bool, true, false, cond, ◌&&◌, List, [], ◌∷◌, ◌++◌, length, take, drop, refl, sym, ap, ◌∙◌, arith, rules}
use Rattle.std.proofs.lemmas.List.{take-append-drop, take_at, drop_at}
use Rattle.std.specs.List.{prefix_len, take_while, list_all}
use Rattle.wd_lex.specs.Reading.{drop_while}

-- the list ends, or its first element fails
abbrev pub Stops : (ℕ → Bool) → List ℕ → Type 0
Stops p [] = Unit {0}
Stops p (b ∷ bytes) = p b ≡ false

pub and_left : (a b : Bool) → (a && b) ≡ true → a ≡ true
and_left true b e = refl
and_left false b e = e

pub and_right : (a b : Bool) → (a && b) ≡ true → b ≡ true
and_right true b e = e
and_right false b e = absurd (search (rules, e))

module _ (p : ℕ → Bool) where
  pub prefix_len_yes : (b : ℕ) (bytes : List ℕ) → p b ≡ true → prefix_len p (b ∷ bytes) ≡ suc (prefix_len p bytes)
  prefix_len_yes b bytes e = ap (λ t. cond t (1 + prefix_len p bytes) 0) e ∙ omega arith

  pub prefix_len_no : (b : ℕ) (bytes : List ℕ) → p b ≡ false → prefix_len p (b ∷ bytes) ≡ 0
  prefix_len_no b bytes e = ap (λ t. cond t (1 + prefix_len p bytes) 0) e

  pub take_while_yes : (b : ℕ) (bytes : List ℕ) → p b ≡ true → take_while p (b ∷ bytes) ≡ b ∷ take_while p bytes
  take_while_yes b bytes e = ap (λ n. take n (b ∷ bytes)) (prefix_len_yes b bytes e)

  pub take_while_no : (b : ℕ) (bytes : List ℕ) → p b ≡ false → take_while p (b ∷ bytes) ≡ []
  take_while_no b bytes e = ap (λ n. take n (b ∷ bytes)) (prefix_len_no b bytes e)

  pub drop_while_yes : (b : ℕ) (bytes : List ℕ) → p b ≡ true → drop_while p (b ∷ bytes) ≡ drop_while p bytes
  drop_while_yes b bytes e = ap (λ n. drop n (b ∷ bytes)) (prefix_len_yes b bytes e)

  pub drop_while_no : (b : ℕ) (bytes : List ℕ) → p b ≡ false → drop_while p (b ∷ bytes) ≡ b ∷ bytes
  drop_while_no b bytes e = ap (λ n. drop n (b ∷ bytes)) (prefix_len_no b bytes e)

  -- the front and what follows are the list
  pub run_whole : (bytes : List ℕ) → take_while p bytes ++ drop_while p bytes ≡ bytes
  run_whole bytes = take-append-drop (prefix_len p bytes) bytes

  run_passes_by : (b : ℕ) (bytes : List ℕ) (t : Bool) → p b ≡ t → list_all p (take_while p bytes) ≡ true → list_all p (take_while p (b ∷ bytes)) ≡ true
  run_passes_by b bytes true e rest = ap (list_all p) (take_while_yes b bytes e) ∙ ap (λ t. t && list_all p (take_while p bytes)) e ∙ rest
  run_passes_by b bytes false e rest = ap (list_all p) (take_while_no b bytes e)

  -- each element of the front passes
  pub run_passes : (bytes : List ℕ) → list_all p (take_while p bytes) ≡ true
  run_passes [] = refl
  run_passes (b ∷ bytes) = run_passes_by b bytes (p b) refl (run_passes bytes)

  run_stops_by : (b : ℕ) (bytes : List ℕ) (t : Bool) → p b ≡ t → Stops p (drop_while p bytes) → Stops p (drop_while p (b ∷ bytes))
  run_stops_by b bytes true e rest = rw (drop_while_yes b bytes e) rest
  run_stops_by b bytes false e rest = rw (drop_while_no b bytes e) e

  -- what follows fails
  pub run_stops : (bytes : List ℕ) → Stops p (drop_while p bytes)
  run_stops [] = tt
  run_stops (b ∷ bytes) = run_stops_by b bytes (p b) refl (run_stops bytes)

  stops_at : (rest : List ℕ) → Stops p rest → prefix_len p rest ≡ 0
  stops_at [] stops = refl
  stops_at (b ∷ rest) stops = prefix_len_no b rest stops

  -- a list that passes is the front, where what follows fails
  pub run_len : (bytes rest : List ℕ) → list_all p bytes ≡ true → Stops p rest → prefix_len p (bytes ++ rest) ≡ length bytes
  run_len [] rest passes stops = stops_at rest stops
  run_len (b ∷ bytes) rest passes stops =
      prefix_len_yes b (bytes ++ rest) (and_left (p b) (list_all p bytes) passes) ∙ ap suc (run_len bytes rest (and_right (p b) (list_all p bytes) passes) stops)

  pub take_while_run : (bytes rest : List ℕ) → list_all p bytes ≡ true → Stops p rest → take_while p (bytes ++ rest) ≡ bytes
  take_while_run bytes rest passes stops = take_at bytes rest (prefix_len p (bytes ++ rest)) (sym (run_len bytes rest passes stops))

  pub drop_while_run : (bytes rest : List ℕ) → list_all p bytes ≡ true → Stops p rest → drop_while p (bytes ++ rest) ≡ rest
  drop_while_run bytes rest passes stops = drop_at bytes rest (prefix_len p (bytes ++ rest)) (sym (run_len bytes rest passes stops))
