-- That there are some sort keys.
use Rattle.std.proofs.Common.{◌≡◌, refl, ◌<◌, arith, List, [], ◌∷◌, map, length, true}
use Rattle.wd_syntax.specs.declared.expression.SortKey.{SortKey}
use Rattle.wd_syntax.specs.Tree.{keys_of}
use Rattle.wd_syntax.specs.View.{view_key}
use Rattle.wd_resolve.specs.Lowering.{is_sorted}

pub some_keys : (keys : List SortKey) → 0 < length keys → true ≡ is_sorted (keys_of (map view_key keys))
some_keys [] h = absurd (omega arith)
some_keys (key ∷ keys) h = refl
