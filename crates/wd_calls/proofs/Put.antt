-- Values put into a column.
use Rattle.std.proofs.Common.{◌≡◌, ◌∙◌, inl, inr, ℕ, zero, suc, ◌<◌, List, [], ◌∷◌, ◌++◌, length, get_or, refl, sym, subst, arith, Result}
use Rattle.std.specs.Prelude.{IsErr, SomeIndex}
use Rattle.std.proofs.lemmas.Bool.{cases_lt}
use Rattle.std.proofs.lemmas.List.{get_or_append_left, get_or_push, length_push}
use Rattle.wd_value.specs.declared.value.Value.{Value}
use Rattle.wd_value.specs.declared.value.Fault.{Fault}
use Rattle.wd_calls.specs.declared.column.CallColumn.{CallColumn}
use Rattle.wd_calls.specs.CallColumns.{ArePut, StandsAt}

pub put_none : (f : ℕ → Result Value Fault) (column : CallColumn) → ArePut f [] column column
put_none f column = record { long = refl; kept = λ p h. h; put = λ k l. absurd (omega arith); said = λ h. inl h }

module _ (f : ℕ → Result Value Fault) (ps : List ℕ) (q : ℕ) {a b c : CallColumn} (first : ArePut f ps a b) (then : ArePut f (q ∷ []) b c) where
  after : (k : ℕ) → k < length ps → get_or (ps ++ q ∷ []) k 0 ≡ get_or ps k 0
  after k l = get_or_append_left ps (q ∷ []) 0 k l

  last : (k : ℕ) → k ≡ length ps → get_or (ps ++ q ∷ []) k 0 ≡ q
  last k e = get_or_push ps q 0 k (sym e)

  -- one more is put
  pub put_more : ArePut f (ps ++ q ∷ []) a c
  put_more = record {
    long = then.long ∙ first.long;
    kept = λ p h. then.kept p (first.kept p h);
    put = λ k l low. elim (cases_lt k (length ps)) [
      | inl before ↦ (
          let at = after k before in
          subst (λ p. StandsAt c p (f p)) (sym at) (then.kept (get_or ps k 0) (first.put k before (subst (λ p. p < length a.values.items) at low))))
      | inr past ↦ (
          let at = last k (let long = length_push ps q in omega arith) in
          subst (λ p. StandsAt c p (f p)) (sym at) (then.put 0 (omega arith) (subst (λ n. q < n) (sym first.long) (subst (λ p. p < length a.values.items) at low))))
    ];
    said = λ h. elim (then.said h) [
      | inl early ↦ elim (first.said early) [
        | inl old ↦ inl old
        | inr some ↦ inr (some.0, (let long = length_push ps q in let l = some.1 in omega arith), subst (λ p. IsErr (f p)) (sym (after some.0 some.1)) some.2)
      ]
      | inr some ↦ inr (length ps, (let long = length_push ps q in omega arith), subst (λ p. IsErr (f p)) (sym (last (length ps) refl)) (only some))
    ];
  }
    where
      only : SomeIndex (q ∷ []) (λ k. IsErr (f (get_or (q ∷ []) k 0))) → IsErr (f q)
      only (zero, l, fault) = fault
      only (suc k, l, fault) = absurd (omega arith)
