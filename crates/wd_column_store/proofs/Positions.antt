-- The positions of one row more.
use Rattle.std.proofs.Common.{◌≡◌, ℕ, zero, suc, ◌+◌, [], ◌∷◌, ◌++◌, ap, ◌∙◌, arith, add-one}
use Rattle.std.specs.List.{range_with_len}
use Rattle.wd_value.specs.Bags.{positions}

range_with_len_push : (a n : ℕ) → range_with_len a (suc n) ≡ range_with_len a n ++ (a + n) ∷ []
range_with_len_push a zero = ap (λ k. k ∷ []) (omega arith)
range_with_len_push a (suc n) = ap (λ ks. a ∷ ks) (range_with_len_push (a + 1) n ∙ ap (λ k. range_with_len (a + 1) n ++ k ∷ []) (omega arith))

pub positions_push : (n : ℕ) → positions (n + 1) ≡ positions n ++ n ∷ []
positions_push n = rw (add-one, range_with_len_push 0 n) (ap (λ k. positions n ++ k ∷ []) (omega arith))
