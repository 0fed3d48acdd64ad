-- The token at which an expression passes a limit, as reading meets it: it opens a level where none is left, or is one operator too
-- many of its chain.
use Rattle.std.specs.Prelude.{◌≡◌, ◌⊎◌, ℕ, zero, suc}
use Rattle.wd_lex.specs.declared.token.Terminal.TheVariants as m
use Rattle.wd_read_cursor.specs.Tokens.{Kinds, ◌▸◌}
use Rattle.wd_syntax.specs.Tokens.{operator_terminal, sign_terminal, operator_height}
use Rattle.wd_syntax.specs.Tree.{Tree, Constant, Column, Qualified, CallAll, Call, Case, Bracket, Signed, Binary, IsNull, Negated, Trees, no_trees, more_trees, Arms, no_arms, more_arms, Otherwise, no_else, or_else, OverTree, no_over, over_name, over_window, WindowTree, window, Keys, no_keys, more_keys}
use Rattle.wd_syntax.specs.Spelling.{frame_onto, direction_onto, nulls_onto, not_onto, onto, list_onto, more_onto, arms_onto, else_onto, over_onto, window_onto, order_onto, more_keys_onto}
use Rattle.wd_syntax.specs.Limits.{operators}

-- `here` begins with a token that opens a level: it passes the limit where no level is left, and else something within.
abbrev pub Opens : ℕ → (ℕ → Type 0) → Kinds → Kinds → Type 0
Opens zero P here rest = rest ≡ here
Opens (suc d) P here rest = P d

-- In a tree that stands before ts, the token that begins `rest` passes a limit.
abbrev mutual
  pub Passes : ℕ → ℕ → Tree → Kinds → Kinds → Type 0
  Passes c d (Constant l) ts rest = ⊥
  Passes c d (Column a) ts rest = ⊥
  Passes c d (Qualified a b) ts rest = ⊥
  Passes c d (CallAll f over) ts rest = Opens d (λ k. ⊥) (m.LeftBracket ▸ m.Star ▸ m.RightBracket ▸ over_onto over ts) rest ⊎ OverPasses c d over ts rest
  Passes c d (Call f bs over) ts rest = Opens d (λ k. OnePasses c k bs (m.RightBracket ▸ over_onto over ts) rest) (m.LeftBracket ▸ list_onto bs (m.RightBracket ▸ over_onto over ts)) rest ⊎ OverPasses c d over ts rest
  Passes c d (Case arms other) ts rest = Opens d (λ k. ArmPasses c k arms (else_onto other (m.End ▸ ts)) rest ⊎ ElsePasses c k other (m.End ▸ ts) rest) (m.Case ▸ arms_onto arms (else_onto other (m.End ▸ ts))) rest
  Passes c d (Bracket a) ts rest = Opens d (λ k. Passes c k a (m.RightBracket ▸ ts) rest) (m.LeftBracket ▸ onto a (m.RightBracket ▸ ts)) rest
  Passes c d (Signed s a) ts rest = Opens d (λ k. Passes c k a ts rest) (sign_terminal s ▸ onto a ts) rest
  Passes c d (Binary o a b) ts rest = Passes c d a (operator_terminal o ▸ onto b ts) rest ⊎ (Passes c d b ts rest ⊎ ((operators (operator_height o) (Binary o a b) ≡ suc c) × (rest ≡ operator_terminal o ▸ onto b ts)))
  Passes c d (IsNull a not) ts rest = Passes c d a (m.Is ▸ not_onto not (m.Null ▸ ts)) rest ⊎ ((operators 5 (IsNull a not) ≡ suc c) × (rest ≡ m.Is ▸ not_onto not (m.Null ▸ ts)))
  Passes c d (Negated a) ts rest = Opens d (λ k. Passes c k a ts rest) (m.Not ▸ onto a ts) rest

  pub OnePasses : ℕ → ℕ → Trees → Kinds → Kinds → Type 0
  OnePasses c d no_trees ts rest = ⊥
  OnePasses c d (more_trees a bs) ts rest = Passes c d a (more_onto bs ts) rest ⊎ OnePasses c d bs ts rest

  pub ArmPasses : ℕ → ℕ → Arms → Kinds → Kinds → Type 0
  ArmPasses c d no_arms ts rest = ⊥
  ArmPasses c d (more_arms when gives arms) ts rest = (Passes c d when (m.Then ▸ onto gives (arms_onto arms ts)) rest ⊎ Passes c d gives (arms_onto arms ts) rest) ⊎ ArmPasses c d arms ts rest

  pub ElsePasses : ℕ → ℕ → Otherwise → Kinds → Kinds → Type 0
  ElsePasses c d no_else ts rest = ⊥
  ElsePasses c d (or_else a) ts rest = Passes c d a ts rest

  pub OverPasses : ℕ → ℕ → OverTree → Kinds → Kinds → Type 0
  OverPasses c d no_over ts rest = ⊥
  OverPasses c d (over_name n) ts rest = ⊥
  OverPasses c d (over_window w) ts rest = Opens d (λ k. WindowPasses c k w (m.RightBracket ▸ ts) rest) (m.LeftBracket ▸ window_onto w (m.RightBracket ▸ ts)) rest

  pub WindowPasses : ℕ → ℕ → WindowTree → Kinds → Kinds → Type 0
  WindowPasses c d (window base partition order frame) ts rest = OnePasses c d partition (order_onto order (frame_onto frame ts)) rest ⊎ KeyPasses c d order (frame_onto frame ts) rest

  pub KeyPasses : ℕ → ℕ → Keys → Kinds → Kinds → Type 0
  KeyPasses c d no_keys ts rest = ⊥
  KeyPasses c d (more_keys a direction nulls keys) ts rest = Passes c d a (direction_onto direction (nulls_onto nulls (more_keys_onto keys ts))) rest ⊎ KeyPasses c d keys ts rest
