-- Counting lines.
use Rattle.std.proofs.Common.{◌≡◌, ◌∙◌, ℕ, ◌+◌, ◌-◌, ◌<◌, Bool, true, false, cond, List, [], ◌∷◌, ◌++◌, length, map, take, get_or, Some, None, String, unwrap_or, refl, sym, ap, arith, append_assoc}
use Rattle.std.proofs.lemmas.Grind.{flat_map-append}
use Rattle.std.proofs.lemmas.List.{append-nil, take_more}
use Rattle.std.proofs.lemmas.List.Sums.{sum_by_push}
use Rattle.std.specs.Cmp.Lexicographic.{bytes_decides}
use Rattle.std.specs.HashMap.{HashMap, get_by_text}
use Rattle.std.specs.List.{count_by, flat_map, fold}
use Rattle.std.specs.Map.{update}
use Rattle.std.specs.Str.{bytes_eq}
use Rattle.std.specs.String.{string_bytes}
use Rattle.std.specs.declared.alloc.Global.{Global}
use Rattle.wd_baseline.specs.Counts.{count_in, one_if}

module _ {Y S : Type 0} (old new : HashMap (String Y) ℕ S) (line : List ℕ) where
  -- a count that is set to one more
  pub added : ((other : List ℕ) → get_by_text new other ≡ update bytes_eq (get_by_text old) line (Some (count_in old line + 1)) other)
      → (other : List ℕ) → count_in new other ≡ count_in old other + one_if (bytes_eq line other)
  added sets other = ap (λ o. unwrap_or o 0) (sets other) ∙ by_case (bytes_eq line other) refl
    where
      by_case : (b : Bool) → bytes_eq line other ≡ b → unwrap_or (cond (bytes_eq line other) (Some (count_in old line + 1)) (get_by_text old other)) 0 ≡ count_in old other + one_if (bytes_eq line other)
      by_case true same = rw same (ap (λ l. count_in old l + 1) ((bytes_decides line other).0 same))
      by_case false differs = rw differs (omega arith)

-- a count that is set to one less
module _ {Y S : Type 0} (old new : HashMap (String Y) ℕ S) (line : List ℕ) (was left : ℕ) where
  pub taken : Some was ≡ get_by_text old line → left ≡ was - 1 → ((other : List ℕ) → get_by_text new other ≡ update bytes_eq (get_by_text old) line (Some left) other)
      → (other : List ℕ) → count_in new other ≡ count_in old other - one_if (bytes_eq line other)
  taken known less sets other = ap (λ o. unwrap_or o 0) (sets other) ∙ by_case (bytes_eq line other) refl
    where
      here : was ≡ count_in old line
      here = ap (λ o. unwrap_or o 0) known

      by_case : (b : Bool) → bytes_eq line other ≡ b → unwrap_or (cond (bytes_eq line other) (Some left) (get_by_text old other)) 0 ≡ count_in old other - one_if (bytes_eq line other)
      by_case true same = rw same (less ∙ ap (λ n. n - 1) (here ∙ ap (count_in old) ((bytes_decides line other).0 same)))
      by_case false differs = rw differs (omega arith)

-- a line that is not counted is not taken
pub none_taken : {Y S : Type 0} (m : HashMap (String Y) ℕ S) (line other : List ℕ) → None ≡ get_by_text m line → count_in m other ≡ count_in m other - one_if (bytes_eq line other)
none_taken m line other none = by_case (bytes_eq line other) refl
  where
    by_case : (b : Bool) → bytes_eq line other ≡ b → count_in m other ≡ count_in m other - one_if (bytes_eq line other)
    by_case true same =
        let zero_there : count_in m other ≡ 0 = ap (count_in m) (sym ((bytes_decides line other).0 same)) ∙ ap (λ o. unwrap_or o 0) (sym none) in
        rw same (omega (arith, zero_there))
    by_case false differs = rw differs (omega arith)

-- one line more is counted once more, where it is that one
pub count_more : (line : List ℕ) (lines : List (String Global)) (i : ℕ) (d : String Global) → i < length lines
    → count_by (λ s. bytes_eq (string_bytes s) line) (take (i + 1) lines) ≡ count_by (λ s. bytes_eq (string_bytes s) line) (take i lines) + one_if (bytes_eq (string_bytes (get_or lines i d)) line)
count_more line lines i d within =
    ap (count_by (λ s. bytes_eq (string_bytes s) line)) (take_more lines i d within) ∙ sum_by_push (λ s. cond (bytes_eq (string_bytes s) line) 1 0) (take i lines) (get_or lines i d)

-- lines are counted by their bytes
fold_map : {A : Type 0} (f : A → List ℕ) (line : List ℕ) (n : ℕ) (xs : List A) → fold (λ a x. a + cond (bytes_eq (f x) line) 1 0) n xs ≡ fold (λ a t. a + cond (bytes_eq t line) 1 0) n (map f xs)
fold_map f line n [] = refl
fold_map f line n (x ∷ xs) = fold_map f line (n + cond (bytes_eq (f x) line) 1 0) xs

pub count_by-map : {A : Type 0} (f : A → List ℕ) (line : List ℕ) (xs : List A) → count_by (λ x. bytes_eq (f x) line) xs ≡ count_by (λ t. bytes_eq t line) (map f xs)
count_by-map f line xs = fold_map f line 0 xs

-- lists with the same bytes are counted alike
pub same_counts : {A B : Type 0} (f : A → List ℕ) (g : B → List ℕ) (line : List ℕ) (xs : List A) (ys : List B) → map f xs ≡ map g ys → count_by (λ x. bytes_eq (f x) line) xs ≡ count_by (λ y. bytes_eq (g y) line) ys
same_counts f g line xs ys e = count_by-map f line xs ∙ ap (count_by (λ t. bytes_eq t line)) e ∙ sym (count_by-map g line ys)

-- ---- lines with their line feeds

pub feeds_more : (f : String Global → List ℕ) (lines : List (String Global)) (i : ℕ) (d : String Global) → i < length lines → flat_map f (take (i + 1) lines) ≡ flat_map f (take i lines) ++ f (get_or lines i d)
feeds_more f lines i d within =
    ap (flat_map f) (take_more lines i d within) ∙ flat_map-append f (take i lines) (get_or lines i d ∷ []) ∙ ap (λ e. flat_map f (take i lines) ++ e) (append-nil (f (get_or lines i d)))

pub fed : (f : String Global → List ℕ) (start before between after : List ℕ) (lines : List (String Global)) (i : ℕ) (d : String Global) → before ≡ start ++ flat_map f (take i lines) → i < length lines
    → f (get_or lines i d) ≡ string_bytes (get_or lines i d) ++ 10 ∷ [] → between ≡ before ++ string_bytes (get_or lines i d) → after ≡ between ++ 10 ∷ [] → after ≡ start ++ flat_map f (take (i + 1) lines)
fed f start before between after lines i d so_far within line added ended =
    ended ∙ ap (λ t. t ++ 10 ∷ []) (added ∙ ap (λ t. t ++ string_bytes (get_or lines i d)) so_far) ∙ append_assoc (start ++ flat_map f (take i lines)) (string_bytes (get_or lines i d)) (10 ∷ [])
    ∙ ap (λ t. (start ++ flat_map f (take i lines)) ++ t) (sym line) ∙ append_assoc start (flat_map f (take i lines)) (f (get_or lines i d)) ∙ ap (λ t. start ++ t) (sym (feeds_more f lines i d within))
