-- The positions that a Join's rows pair, as sides.
use Rattle.std.proofs.Common.{◌≡◌, ℕ, ◌<◌, ◌≤◌, length, Option, Some, None}
use Rattle.wd_value.specs.Rows.{column_of, row_at}
use Rattle.wd_step_facts.specs.Facts.{Paired}

-- the positions on each side give its columns, and both give the row
pub record AreSides (n : Paired) (split columns : ℕ) : Type 0 where
  pub left : (p q c : ℕ) → p < length n.rows → q < length n.rows → n.left p ≡ n.left q → c < split → column_of (row_at n.rows p) c ≡ column_of (row_at n.rows q) c
  pub right : (p q c : ℕ) → p < length n.rows → q < length n.rows → n.right p ≡ n.right q → split ≤ c → c < columns → column_of (row_at n.rows p) c ≡ column_of (row_at n.rows q) c
  pub both : (p q : ℕ) → p < length n.rows → q < length n.rows → n.left p ≡ n.left q → n.right p ≡ n.right q → p ≡ q

abbrev pub HasSides : Paired → Option ℕ → ℕ → Type 0
HasSides n None columns = Unit {0}
HasSides n (Some split) columns = AreSides n split columns
