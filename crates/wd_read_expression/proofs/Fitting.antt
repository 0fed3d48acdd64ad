-- Expressions within limits, as reading looks at them: at most c operators in a chain, and at most d levels left to open.
use Rattle.std.specs.Prelude.{ℕ, zero, suc, ◌≤◌}
use Rattle.wd_syntax.specs.Tokens.{operator_height}
use Rattle.wd_syntax.specs.Tree.{Tree, Constant, Column, Qualified, CallAll, Call, Case, Bracket, Signed, Binary, IsNull, Negated, Trees, no_trees, more_trees, Arms, no_arms, more_arms, Otherwise, no_else, or_else, OverTree, no_over, over_name, over_window, WindowTree, window, Keys, no_keys, more_keys}
use Rattle.wd_syntax.specs.Limits.{operators}

-- one level deeper, if a level is left
abbrev pub Below : ℕ → (ℕ → Type 0) → Type 0
Below zero P = ⊥
Below (suc d) P = P d

abbrev mutual
  pub Fits : ℕ → ℕ → Tree → Type 0
  Fits c d (Constant l) = Unit {0}
  Fits c d (Column a) = Unit {0}
  Fits c d (Qualified a b) = Unit {0}
  Fits c d (CallAll f over) = Below d (λ k. Unit {0}) × OverFits c d over
  Fits c d (Call f bs over) = Below d (λ k. AllFit c k bs) × OverFits c d over
  Fits c d (Case arms other) = Below d (λ k. ArmsFit c k arms × ElseFits c k other)
  Fits c d (Bracket a) = Below d (λ k. Fits c k a)
  Fits c d (Signed s a) = Below d (λ k. Fits c k a)
  Fits c d (Binary o a b) = Fits c d a × Fits c d b × (operators (operator_height o) (Binary o a b) ≤ c)
  Fits c d (IsNull a not) = Fits c d a × (operators 5 (IsNull a not) ≤ c)
  Fits c d (Negated a) = Below d (λ k. Fits c k a)

  pub AllFit : ℕ → ℕ → Trees → Type 0
  AllFit c d no_trees = Unit {0}
  AllFit c d (more_trees a bs) = Fits c d a × AllFit c d bs

  pub ArmsFit : ℕ → ℕ → Arms → Type 0
  ArmsFit c d no_arms = Unit {0}
  ArmsFit c d (more_arms when gives arms) = Fits c d when × Fits c d gives × ArmsFit c d arms

  pub ElseFits : ℕ → ℕ → Otherwise → Type 0
  ElseFits c d no_else = Unit {0}
  ElseFits c d (or_else a) = Fits c d a

  pub OverFits : ℕ → ℕ → OverTree → Type 0
  OverFits c d no_over = Unit {0}
  OverFits c d (over_name n) = Unit {0}
  OverFits c d (over_window w) = Below d (λ k. WindowFits c k w)

  pub WindowFits : ℕ → ℕ → WindowTree → Type 0
  WindowFits c d (window base partition order frame) = AllFit c d partition × KeysFit c d order

  pub KeysFit : ℕ → ℕ → Keys → Type 0
  KeysFit c d no_keys = Unit {0}
  KeysFit c d (more_keys a direction nulls keys) = Fits c d a × KeysFit c d keys
