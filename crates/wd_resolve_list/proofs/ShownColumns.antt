-- The columns that a select list shows, one after another.
use Rattle.std.proofs.Common.{◌≡◌, sym, ap, refl, subst, ℕ, Bool, true, false, cond, List, [], ◌∷◌, ◌++◌, filter, Option, Ok, Err}
use Rattle.std.proofs.lemmas.List.{append-nil, append_assoc}
use Rattle.wd_resolve_operand.specs.declared.cause.Cause.{Cause}
use Rattle.wd_resolve_operand.specs.Causes.{Meant, ◌>>=◌}
use Rattle.wd_resolve_scope.specs.declared.scope.ScopeColumn.{ScopeColumn}
use Rattle.wd_resolve_scope.specs.Grouped.{GroupedRule, column_allowed}
use Rattle.wd_resolve_call.proofs.Meanings.{ok_is}
use Rattle.wd_resolve_list.specs.Outputs.{BoundOutput, columns_shown, column_output}

-- outputs after those that are there
abbrev pub after : List BoundOutput → Meant (List BoundOutput) → Meant (List BoundOutput)
after before more = more >>= λ outputs. Ok (before ++ outputs)

one_more : (before : List BoundOutput) (o : BoundOutput) (more : Meant (List BoundOutput)) → after before (more >>= λ outputs. Ok (o ∷ outputs)) ≡ after (before ++ o ∷ []) more
one_more before o (Ok outputs) = ap (λ (all : List BoundOutput). Ok all) (sym (append_assoc before (o ∷ []) outputs))
one_more before o (Err cause) = refl

-- the first column, where it is shown, stands before those of the rest
pub column_first : (groups : Option GroupedRule) (test : ℕ × ScopeColumn → Bool) (x : ℕ × ScopeColumn) (xs : List (ℕ × ScopeColumn)) (before shown : List BoundOutput) →
    columns_shown groups (filter test (x ∷ [])) ≡ Ok shown → after before (columns_shown groups (filter test (x ∷ xs))) ≡ after (before ++ shown) (columns_shown groups (filter test xs))
column_first groups test x xs before shown h = by (test x) h
  where
    allowed : (a : Meant Unit) → (a >>= λ u. Ok (column_output x ∷ [])) ≡ Ok shown → after before (a >>= λ u. columns_shown groups (filter test xs) >>= λ outputs. Ok (column_output x ∷ outputs)) ≡ after (before ++ shown) (columns_shown groups (filter test xs))
    allowed (Ok u) e = subst (λ (s : List BoundOutput). after before (columns_shown groups (filter test xs) >>= λ outputs. Ok (column_output x ∷ outputs)) ≡ after (before ++ s) (columns_shown groups (filter test xs))) (ok_is _ _ e) (one_more before (column_output x) (columns_shown groups (filter test xs)))
    allowed (Err cause) e = cc

    by : (b : Bool) → columns_shown groups (cond b (x ∷ []) []) ≡ Ok shown → after before (columns_shown groups (cond b (x ∷ filter test xs) (filter test xs))) ≡ after (before ++ shown) (columns_shown groups (filter test xs))
    by true e = allowed (column_allowed groups x.0) e
    by false e = subst (λ (s : List BoundOutput). after before (columns_shown groups (filter test xs)) ≡ after (before ++ s) (columns_shown groups (filter test xs))) (ok_is _ _ e) (ap (λ (all : List BoundOutput). after all (columns_shown groups (filter test xs))) (sym (append-nil before)))

-- the cause for which the first column can't be shown is that of all
pub column_refused : (groups : Option GroupedRule) (test : ℕ × ScopeColumn → Bool) (x : ℕ × ScopeColumn) (xs : List (ℕ × ScopeColumn)) (before : List BoundOutput) (cause : Cause) →
    columns_shown groups (filter test (x ∷ [])) ≡ Err cause → after before (columns_shown groups (filter test (x ∷ xs))) ≡ Err cause
column_refused groups test x xs before cause h = by (test x) h
  where
    allowed : (a : Meant Unit) → (a >>= λ u. Ok (column_output x ∷ [])) ≡ Err cause → after before (a >>= λ u. columns_shown groups (filter test xs) >>= λ outputs. Ok (column_output x ∷ outputs)) ≡ Err cause
    allowed (Ok u) e = cc
    allowed (Err other) e = cc

    by : (b : Bool) → columns_shown groups (cond b (x ∷ []) []) ≡ Err cause → after before (columns_shown groups (cond b (x ∷ filter test xs) (filter test xs))) ≡ Err cause
    by true e = allowed (column_allowed groups x.0) e
    by false e = cc
