-- Quotes: an inside is read back, and what is read is an inside.
use Rattle.std.proofs.Common.{◌≡◌, ◌≢◌, ℕ, Bool, true, false, cond, eqb, ◌⊎◌, inr, ⊎_elim, suc, ◌<◌, List, [], ◌∷◌, ◌++◌, length, get_or, Option, Some, None, refl, sym, ap, ◌∙◌, arith, append_assoc, append-nil, eq-eqb, ne_eqb, eqb-true}
use Rattle.std.proofs.lemmas.Bool.{cases_eq, eqb-false}
use Rattle.wd_lex.specs.Pieces.{doubled}
use Rattle.wd_lex.specs.Causes.{BeginsWith, IsOpen}
use Rattle.wd_lex.specs.Reading.{unquote, following}

-- ---- reading an inside again

unquote_pair : (q : ℕ) (bytes : List ℕ) → unquote q (q ∷ q ∷ bytes) ≡ following (q ∷ []) (unquote q bytes)
unquote_pair q bytes = rw (eq-eqb q q refl) refl

unquote_other : (q b : ℕ) (bytes : List ℕ) → eqb b q ≡ false → unquote q (b ∷ bytes) ≡ following (b ∷ []) (unquote q bytes)
unquote_other q b [] ne = rw ne refl
unquote_other q b (c ∷ bytes) ne = rw ne refl

unquote_close : (q : ℕ) (rest : List ℕ) → ¬ (BeginsWith q rest) → unquote q (q ∷ rest) ≡ Some ([], rest)
unquote_close q [] ends = rw (eq-eqb q q refl) refl
unquote_close q (c ∷ rest) ends = rw (eq-eqb q q refl, ne_eqb c q ends) refl

doubled_same : (q : ℕ) (inside : List ℕ) → doubled q (q ∷ inside) ≡ q ∷ q ∷ doubled q inside
doubled_same q inside = rw (eq-eqb q q refl) refl

doubled_other : (q b : ℕ) (inside : List ℕ) → eqb b q ≡ false → doubled q (b ∷ inside) ≡ b ∷ doubled q inside
doubled_other q b inside ne = rw ne refl

unquote_more : (q b : ℕ) (inside rest : List ℕ) (t : Bool) → eqb b q ≡ t → unquote q (doubled q inside ++ q ∷ rest) ≡ Some (inside, rest)
    → unquote q (doubled q (b ∷ inside) ++ q ∷ rest) ≡ Some (b ∷ inside, rest)
unquote_more q b inside rest true same e =
    let is : b ≡ q = eqb-true b q same in
    ap (λ x. unquote q (doubled q (x ∷ inside) ++ q ∷ rest)) is ∙ ap (λ l. unquote q (l ++ q ∷ rest)) (doubled_same q inside)
    ∙ unquote_pair q (doubled q inside ++ q ∷ rest) ∙ ap (following (q ∷ [])) e ∙ ap (λ x. Some (x ∷ inside, rest)) (sym is)
unquote_more q b inside rest false other e =
    ap (λ l. unquote q (l ++ q ∷ rest)) (doubled_other q b inside other) ∙ unquote_other q b (doubled q inside ++ q ∷ rest) other ∙ ap (following (b ∷ [])) e

-- a doubled inside is read back, up to a quote that no other follows
pub unquote-doubled : (q : ℕ) (inside rest : List ℕ) → ¬ (BeginsWith q rest) → unquote q (doubled q inside ++ q ∷ rest) ≡ Some (inside, rest)
unquote-doubled q [] rest ends = unquote_close q rest ends
unquote-doubled q (b ∷ inside) rest ends = unquote_more q b inside rest (eqb b q) refl (unquote-doubled q inside rest ends)

-- ---- what is read

-- the bytes are the doubled inside, a quote, and what follows
pub record Unquotes (q : ℕ) (bytes inside rest : List ℕ) : Type 0 where
  pub whole : bytes ≡ doubled q inside ++ q ∷ rest
  pub ends : ¬ (BeginsWith q rest)

abbrev pub UnquotesIf : ℕ → List ℕ → Option (List ℕ × List ℕ) → Type 0
UnquotesIf q bytes None = Unit {0}
UnquotesIf q bytes (Some found) = Unquotes q bytes found.0 found.1

pair_is : (q : ℕ) (bytes : List ℕ) (found : Option (List ℕ × List ℕ)) → UnquotesIf q bytes found → UnquotesIf q (q ∷ q ∷ bytes) (following (q ∷ []) found)
pair_is q bytes None h = tt
pair_is q bytes (Some found) h = record {
  whole = ap (λ l. q ∷ q ∷ l) h.whole ∙ sym (ap (λ l. l ++ q ∷ found.1) (doubled_same q found.0));
  ends = h.ends;
}

other_is : (q b : ℕ) (bytes : List ℕ) (found : Option (List ℕ × List ℕ)) → eqb b q ≡ false → UnquotesIf q bytes found → UnquotesIf q (b ∷ bytes) (following (b ∷ []) found)
other_is q b bytes None ne h = tt
other_is q b bytes (Some found) ne h = record {
  whole = ap (λ l. b ∷ l) h.whole ∙ sym (ap (λ l. l ++ q ∷ found.1) (doubled_other q b found.0 ne));
  ends = h.ends;
}

last_is : (q b : ℕ) (t : Bool) → eqb b q ≡ t → UnquotesIf q (b ∷ []) (cond t (Some ([], [])) None)
last_is q b true same = record { whole = ap (λ x. x ∷ []) (eqb-true b q same); ends = λ h. h }
last_is q b false other = tt

close_is : (q c : ℕ) (bytes : List ℕ) (t : Bool) → eqb c q ≡ t → UnquotesIf q bytes (unquote q bytes)
    → UnquotesIf q (q ∷ c ∷ bytes) (cond t (following (q ∷ []) (unquote q bytes)) (Some ([], c ∷ bytes)))
close_is q c bytes true same h = rw (eqb-true c q same) (pair_is q bytes (unquote q bytes) h)
close_is q c bytes false other h = record { whole = refl; ends = eqb-false c q other }

more_is : (q b c : ℕ) (bytes : List ℕ) (t : Bool) → eqb b q ≡ t → UnquotesIf q bytes (unquote q bytes) → UnquotesIf q (c ∷ bytes) (unquote q (c ∷ bytes))
    → UnquotesIf q (b ∷ c ∷ bytes) (cond t (cond (eqb c q) (following (b ∷ []) (unquote q bytes)) (Some ([], c ∷ bytes))) (following (b ∷ []) (unquote q (c ∷ bytes))))
more_is q b c bytes true same past next = rw (eqb-true b q same) (close_is q c bytes (eqb c q) refl past)
more_is q b c bytes false other past next = other_is q b (c ∷ bytes) (unquote q (c ∷ bytes)) other next

pub unquote_is : (q : ℕ) (bytes : List ℕ) → UnquotesIf q bytes (unquote q bytes)
unquote_is q [] = tt
unquote_is q (b ∷ []) = last_is q b (eqb b q) refl
unquote_is q (b ∷ c ∷ bytes) = more_is q b c bytes (eqb b q) refl (unquote_is q bytes) (unquote_is q (c ∷ bytes))

-- ---- none closes

pub begins_or_not : (q : ℕ) (rest : List ℕ) → BeginsWith q rest ⊎ (¬ (BeginsWith q rest))
begins_or_not q [] = inr (λ h. h)
begins_or_not q (b ∷ rest) = cases_eq b q

pub IsOpen-from_unquote : (q : ℕ) (bytes : List ℕ) → unquote q bytes ≡ None → IsOpen q bytes
IsOpen-from_unquote q bytes none = λ inside rest e.
    ⊎_elim (λ begins. begins) (λ ends. absurd (let known = sym none ∙ ap (unquote q) e ∙ unquote-doubled q inside rest ends in cc)) (begins_or_not q rest)

none_by : (q : ℕ) (bytes : List ℕ) (found : Option (List ℕ × List ℕ)) → UnquotesIf q bytes found → IsOpen q bytes → found ≡ None
none_by q bytes None h opened = refl
none_by q bytes (Some found) h opened = absurd (h.ends (opened found.0 found.1 h.whole))

pub unquote-IsOpen : (q : ℕ) (bytes : List ℕ) → IsOpen q bytes → unquote q bytes ≡ None
unquote-IsOpen q bytes opened = none_by q bytes (unquote q bytes) (unquote_is q bytes) opened

-- ---- one step, as the code takes it: up to the next quote

after-after : (front more : List ℕ) (found : Option (List ℕ × List ℕ)) → following (front ++ more) found ≡ following front (following more found)
after-after front more None = refl
after-after front more (Some found) = ap (λ l. Some (l, found.1)) (append_assoc front more found.0)

after-nil : (found : Option (List ℕ × List ℕ)) → following [] found ≡ found
after-nil None = refl
after-nil (Some found) = refl

-- no quote stands in it
abbrev pub Lacks : ℕ → List ℕ → Type 0
Lacks q bytes = (i : ℕ) → i < length bytes → get_or bytes i 0 ≢ q

lacks_more : (q b : ℕ) (bytes : List ℕ) → Lacks q (b ∷ bytes) → Lacks q bytes
lacks_more q b bytes lacks = λ i lt. lacks (suc i) (omega arith)

unquote_past : (q : ℕ) (before bytes : List ℕ) → Lacks q before → unquote q (before ++ bytes) ≡ following before (unquote q bytes)
unquote_past q [] bytes lacks = sym (after-nil (unquote q bytes))
unquote_past q (b ∷ before) bytes lacks =
    unquote_other q b (before ++ bytes) (ne_eqb b q (lacks 0 (omega arith))) ∙ ap (following (b ∷ [])) (unquote_past q before bytes (lacks_more q b before lacks))
    ∙ sym (after-after (b ∷ []) before (unquote q bytes))

pub unquote_none : (q : ℕ) (bytes : List ℕ) → Lacks q bytes → unquote q bytes ≡ None
unquote_none q bytes lacks = ap (unquote q) (sym (append-nil bytes)) ∙ unquote_past q bytes [] lacks

pub unquote_pair_step : (q : ℕ) (inside rest before after more : List ℕ) → rest ≡ before ++ q ∷ after → Lacks q before → after ≡ q ∷ more
    → following ((inside ++ before) ++ q ∷ []) (unquote q more) ≡ following inside (unquote q rest)
unquote_pair_step q inside rest before after more whole lacks pair = sym (
    ap (following inside) (ap (unquote q) (whole ∙ ap (λ l. before ++ q ∷ l) pair) ∙ unquote_past q before (q ∷ q ∷ more) lacks ∙ ap (following before) (unquote_pair q more))
    ∙ sym (after-after inside before (following (q ∷ []) (unquote q more))) ∙ sym (after-after (inside ++ before) (q ∷ []) (unquote q more)))

not_begins : (q : ℕ) (after : List ℕ) → ((more : List ℕ) → after ≢ q ∷ more) → ¬ (BeginsWith q after)
not_begins q [] ends = λ h. h
not_begins q (b ∷ after) ends = λ same. ends after (ap (λ x. x ∷ after) same)

pub unquote_close_step : (q : ℕ) (inside rest before after : List ℕ) → rest ≡ before ++ q ∷ after → Lacks q before → ((more : List ℕ) → after ≢ q ∷ more)
    → Some (inside ++ before, after) ≡ following inside (unquote q rest)
unquote_close_step q inside rest before after whole lacks ends = sym (
    ap (following inside) (ap (unquote q) whole ∙ unquote_past q before (q ∷ after) lacks ∙ ap (following before) (unquote_close q after (not_begins q after ends)))
    ∙ ap (λ l. Some (inside ++ l, after)) (append-nil before))
