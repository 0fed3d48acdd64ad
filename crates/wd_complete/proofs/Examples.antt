-- The example is of the plain class.
use Rattle.std.proofs.Common.{◌≡◌, false, refl, subst, List, [], ◌∷◌, None, Ok}
use Rattle.std.specs.Prelude.{codes}
use Rattle.wd_syntax.specs.Tree as tree
use Rattle.wd_syntax.specs.Tree.{shown}
use Rattle.wd_plan.specs.declared.expression.ValueKind.TheVariants.{Text, Truth}
use Rattle.wd_plan.specs.Plans.{Scan}
use Rattle.wd_resolve_operand.specs.BoundExpressions.{Reference}
use Rattle.wd_resolve_call.proofs.Meanings.{ok_is}
use Rattle.wd_resolve_scope.specs.Resolving.{all_defined}
use Rattle.wd_resolve_call.specs.Rows.{column}
use Rattle.wd_resolve_call.specs.Windows.{NamedBoundWindow, BoundWindow, default_frame}
use Rattle.wd_resolve.specs.Selected.{JoinedTables}
use Rattle.wd_complete.specs.Examples.{ExampleIsPlain, the_over, unquoted}
use Rattle.wd_complete.specs.Queries.{IsPlainWindow, in_list, over_meant}

-- the columns in scope
abbrev the_from : JoinedTables
the_from = record {
  scope = record {
    tables = codes "p" ∷ [];
    columns = record { table = codes "p"; name = codes "a"; kind = Truth } ∷ record { table = codes "p"; name = codes "b"; kind = Text } ∷ [];
  };
  plan = Scan 0 2;
}

-- the window: no partition, in the order of the first column
abbrev the_window : BoundWindow
the_window = record { partition = []; order = record { expression = Reference (column 0); kind = Truth; key = record { desc = false; nulls_first = false } } ∷ []; frame = default_frame; framed = false }

the_window_is : IsPlainWindow the_window
the_window_is = record { partition = tt; order = (tt, tt) }

abbrev PlainKnown : List NamedBoundWindow → Type 0
PlainKnown known = (w : BoundWindow) → over_meant (in_list the_from.scope known) the_over ≡ Ok w → IsPlainWindow w

abbrev PlainFrom : JoinedTables → Type 0
PlainFrom from = (known : List NamedBoundWindow) → all_defined from.scope None [] [] ≡ Ok known → (w : BoundWindow) → over_meant (in_list from.scope known) the_over ≡ Ok w → IsPlainWindow w

pub example : ExampleIsPlain
example = record {
  table = unquoted (codes "p");
  alias = None;
  quantifier = None;
  windows = [];
  before = shown (tree.Column (unquoted (codes "b"))) None ∷ [];
  function = unquoted (codes "row_number");
  over = the_over;
  output = None;
  after = [];
  semicolon = false;
  is = refl;
  not_grouped = refl;
  all = refl;
  plain_before = (tt, tt);
  plain_after = tt;
  row_number = refl;
  window = λ from e. subst PlainFrom (ok_is the_from from e) (λ known f. subst PlainKnown (ok_is [] known f) (λ w g. subst IsPlainWindow (ok_is the_window w g) the_window_is));
}
