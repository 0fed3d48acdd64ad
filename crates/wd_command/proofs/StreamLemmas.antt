-- What writes that follow one another leave on a stream.
use Rattle.std.proofs.Common.{arith, ◌≡◌, ◌∙◌, ◌<◌, ℕ, zero, suc, List, [], ◌∷◌, ◌++◌, length, take, drop, flat_map, get_or, Option, refl, sym, subst, ap, append_assoc, take-append-drop}
use Rattle.std.proofs.Math.Seq.{take-append_seam, take-length}
use Rattle.std.proofs.KnownBytes.{Appends-nil, Appends-trans}
use Rattle.std.specs.Io.KnownBytes.{Appends}
use Rattle.wd_command.specs.Streams.{AppendsPart}

-- a beginning of a text that stands between others
taken_between : (first text rest : List ℕ) (n : ℕ) → take (length (first ++ take n text)) (first ++ (text ++ rest)) ≡ first ++ take n text
taken_between first text rest n =
    let parts : (first ++ take n text) ++ (drop n text ++ rest) ≡ first ++ (text ++ rest) =
    append_assoc first (take n text) (drop n text ++ rest)
    ∙ ap (λ l. first ++ l) (sym (append_assoc (take n text) (drop n text) rest) ∙ ap (λ l. l ++ rest) (take-append-drop n text)) in
    subst (λ l. take (length (first ++ take n text)) l ≡ first ++ take n text) parts (take-append_seam (first ++ take n text) (drop n text ++ rest))

-- a beginning of the next text, after a text that was written whole
pub AppendsPart-after : (before middle after : Option (List ℕ)) (first text rest : List ℕ) → Appends before middle first → AppendsPart middle after text
    → AppendsPart before after (first ++ (text ++ rest))
AppendsPart-after before middle after first text rest written more =
    (length (first ++ take more.0 text), subst (Appends before after) (sym (taken_between first text rest more.0)) (Appends-trans before middle after first (take more.0 text) written more.1))

-- a beginning of the first text
pub AppendsPart-first : (before after : Option (List ℕ)) (text rest : List ℕ) → AppendsPart before after text → AppendsPart before after (text ++ rest)
AppendsPart-first before after text rest part = AppendsPart-after before before after [] text rest (Appends-nil before) part

-- the whole is a beginning
pub AppendsPart-whole : (before after : Option (List ℕ)) (text : List ℕ) → Appends before after text → AppendsPart before after text
AppendsPart-whole before after text written = (length text, subst (Appends before after) (sym (take-length text)) written)

-- the text at a place, between those before and those after it
pub flat_map_at : {X : Type 0} (f : X → List ℕ) (xs : List X) (i : ℕ) (d : X) → i < length xs
    → flat_map f xs ≡ flat_map f (take i xs) ++ (f (get_or xs i d) ++ flat_map f (drop (suc i) xs))
flat_map_at f [] i d below = absurd (omega (arith, below))
flat_map_at f (x ∷ xs) zero d below = refl
flat_map_at f (x ∷ xs) (suc i) d below =
    ap (λ l. f x ++ l) (flat_map_at f xs i d (omega (arith, below))) ∙ sym (append_assoc (f x) (flat_map f (take i xs)) _)
