-- What the first file at a path is.
use Rattle.std.proofs.Common.{◌≡◌, ◌∙◌, ℕ, ◌≤◌, ◌&&◌, List, [], ◌∷◌, ◌++◌, map, length, Some, nat_le, bytes_eq, get_or, leb-true, subst, sym, ap, Bor}
use Rattle.std.proofs.Math.ListN.{get_or-map}
use Rattle.std.proofs.lemmas.Bool.{and_parts}
use Rattle.std.proofs.lemmas.List.{map-append}
use Rattle.std.proofs.lemmas.List.Quantifiers.{position-Some}
use Rattle.std.proofs.lemmas.Slice.Eq.{bytes_eq-Decides}
use Rattle.wd_run.specs.Runs.{data_of}
use Rattle.wd_command.specs.declared.files.TheConstants.{MOST_BYTES}
use Rattle.wd_command.specs.Files.{File}
use Rattle.wd_command.specs.Memory.{file_at, first_at}

abbrev pub nothing : Bor (List ℕ)
nothing = record { ref_ptr = (0, 0); now = [] }

abbrev pub shown : Bor (List ℕ) × Bor (List ℕ) → File
shown given = (given.0.now, given.1.now)

-- the file with that number is at the path, and short enough
pub record IsFound (path : List ℕ) (files : List File) (i : ℕ) : Type 0 where
  pub at_path : (file_at files i).0 ≡ path
  pub bounded : length (file_at files i).1 ≤ MOST_BYTES

pub first_at-Some : (path : List ℕ) (given : List (Bor (List ℕ) × Bor (List ℕ))) (i : ℕ) → first_at path given ≡ Some i → IsFound path (data_of given) i
first_at-Some path given i found =
    let first = position-Some (λ g. bytes_eq g.0.now path && nat_le (length g.1.now) MOST_BYTES) given i (nothing, nothing) found in
    let file = get_or given i (nothing, nothing) in
    let passes = and_parts (bytes_eq file.0.now path) (nat_le (length file.1.now) MOST_BYTES) first.1 in
    let same : file_at (data_of given) i ≡ (file.0.now, file.1.now) = get_or-map shown given i (nothing, nothing) in
    record {
      at_path = ap (λ (f : File). f.0) same ∙ (bytes_eq-Decides file.0.now path).0 passes.0;
      bounded =
          let short : length file.1.now ≤ MOST_BYTES = leb-true (length file.1.now) MOST_BYTES passes.1 in
          subst (λ (f : File). length f.1 ≤ MOST_BYTES) (sym same) short;
    }

-- a file's bytes are those of the pair with that number
pub bytes_at : (given : List (Bor (List ℕ) × Bor (List ℕ))) (i : ℕ) → (file_at (data_of given) i).1 ≡ (get_or given i (nothing, nothing)).1.now
bytes_at given i = ap (λ (f : File). f.1) (get_or-map shown given i (nothing, nothing))

-- what is read next comes after the others
pub map-after : (f : ℕ → File) (before after : List ℕ) (i : ℕ) (file : File) → after ≡ before ++ i ∷ [] → f i ≡ file → map f after ≡ map f before ++ file ∷ []
map-after f before after i file more same = ap (map f) more ∙ map-append f before (i ∷ []) ∙ ap (λ (x : File). map f before ++ x ∷ []) same
