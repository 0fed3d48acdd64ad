-- What quotes hold, up to a quote in it.
use Rattle.std.proofs.Common.{◌≡◌, ℕ, suc, List, [], ◌∷◌, ◌++◌, refl, sym, ap, ◌∙◌, arith, append_assoc, append-nil, eq-eqb, ne_eqb}
use Rattle.wd_lex.specs.Pieces.{doubled}
use Rattle.wd_lex.proofs.QuoteFacts.{Lacks}

lacks_more : (q b : ℕ) (bytes : List ℕ) → Lacks q (b ∷ bytes) → Lacks q bytes
lacks_more q b bytes lacks = λ i lt. lacks (suc i) (omega arith)

doubled_past : (q : ℕ) (before rest : List ℕ) → Lacks q before → doubled q (before ++ rest) ≡ before ++ doubled q rest
doubled_past q [] rest lacks = refl
doubled_past q (b ∷ before) rest lacks = rw (ne_eqb b q (lacks 0 (omega arith))) (ap (λ l. b ∷ l) (doubled_past q before rest (lacks_more q b before lacks)))

doubled_same : (q : ℕ) (rest : List ℕ) → doubled q (q ∷ rest) ≡ q ∷ q ∷ doubled q rest
doubled_same q rest = rw (eq-eqb q q refl) refl

-- up to the next quote, which is doubled
pub doubled_step : (q : ℕ) (text rest before after : List ℕ) → rest ≡ before ++ q ∷ after → Lacks q before → (((text ++ before) ++ q ∷ []) ++ q ∷ []) ++ doubled q after ≡ text ++ doubled q rest
doubled_step q text rest before after whole lacks =
    append_assoc ((text ++ before) ++ q ∷ []) (q ∷ []) (doubled q after) ∙ append_assoc (text ++ before) (q ∷ []) (q ∷ doubled q after) ∙ append_assoc text before (q ∷ q ∷ doubled q after)
    ∙ ap (λ l. text ++ l) (ap (λ l. before ++ l) (sym (doubled_same q after)) ∙ sym (doubled_past q before (q ∷ after) lacks) ∙ ap (doubled q) (sym whole))

-- what has no quote stands as it is
pub doubled_none : (q : ℕ) (rest : List ℕ) → Lacks q rest → doubled q rest ≡ rest
doubled_none q rest lacks = ap (doubled q) (sym (append-nil rest)) ∙ doubled_past q rest [] lacks ∙ append-nil rest
