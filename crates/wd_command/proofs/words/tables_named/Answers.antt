use Rattle.std.proofs.Common.{arith, ◌≡◌, ◌∙◌, ◌<◌, ℕ, zero, suc, List, [], ◌∷◌, ◌++◌, ap₂, length, map, get_or, refl, sym, Bor}
use Rattle.std.proofs.Math.ListN.{length-map}
use Rattle.std.specs.List.{Any}
use Rattle.std.proofs.lemmas.List.{map-append, take_more}
use Rattle.std.proofs.lemmas.List.Elements.{All-push}
use Rattle.wd_command.specs.Words.{AreCut, HasNoEquals, word_of}
use Rattle.wd_command.proofs.words.tables_named.Goals as goal

abbrev nothing : Bor (List ℕ)
nothing = record { ref_ptr = (0, 0); now = [] }

-- one more word is cut
one_more : (words : List (List ℕ)) (tables : List (List ℕ × List ℕ)) (word : List ℕ) (table : List ℕ × List ℕ) → AreCut words tables → word ≡ word_of table
    → HasNoEquals table.0 → AreCut (words ++ word ∷ []) (tables ++ table ∷ [])
one_more words tables word table cut is first = record {
  joined = ap₂ (λ (ws : List (List ℕ)) (w : List ℕ). ws ++ w ∷ []) cut.joined is ∙ sym (map-append word_of tables (table ∷ []));
  first = All-push (λ t. HasNoEquals t.0) tables table cut.first first;
}

pub loop-word-preserved : goal.loop-word-preserved
loop-word-preserved c =
    rw (c.in_ok-push.ensures.items, take_more c.args.words.now c.loop-word.word-index nothing c.loop-word-test.true, map-append, map-append)
    (one_more _ _ _ _ c.loop-word.invariant c.in-Some.ensures.joined c.in-Some.ensures.first)

at_mapped : (words : List (Bor (List ℕ))) (k : ℕ) (d : Bor (List ℕ)) (e : List ℕ) → k < length words → get_or (map (λ w. w.now) words) k e ≡ (get_or words k d).now
at_mapped [] k d e below = absurd (omega arith)
at_mapped (word ∷ words) zero d e below = refl
at_mapped (word ∷ words) (suc k) d e below = at_mapped words k d e (omega arith)

-- a word is among the words
among : (words : List (Bor (List ℕ))) (k : ℕ) (d : Bor (List ℕ)) → k < length words → Any (λ w. w ≡ (get_or words k d).now) (map (λ w. w.now) words)
among words k d below = (k, (get_or words k d).now, omega (arith, below, length-map words (λ w. w.now)), at_mapped words k d (get_or words k d).now below, refl)

pub returns-in_default-clause-err : goal.returns-in_default-clause-err
returns-in_default-clause-err c =
    (c.in_default.ensures.none, among c.args.words.now c.loop-word.word-index nothing c.loop-word-test.true)
