-- The text of a witness, byte for byte.
use Rattle.std.specs.Prelude.{◌≡◌, [], ◌∷◌, codes, true, pos, negsuc}
use Rattle.wd_value.specs.declared.value.Value.TheVariants.{Null, Int, Text, Bool as Truth}
use Rattle.wd_witness_text.specs.Json.{witness_text}
use Rattle.wd_witness_text.specs.Witnesses.{WitnessRecord}

-- a table of two rows, whose choices are the two orders, and a table of one row
abbrev pub in_both_orders : WitnessRecord
in_both_orders = record {
  tables = record { name = codes "s"; rows = (Null ∷ Text (codes "a\"b\\\n") ∷ Truth true ∷ []) ∷ [] }
      ∷ record { name = codes "t"; rows = (Int (pos 1) ∷ []) ∷ (Int (negsuc 1) ∷ []) ∷ [] }
      ∷ [];
  first = (0 ∷ 1 ∷ []) ∷ [] ∷ [];
  second = (1 ∷ 0 ∷ []) ∷ [] ∷ [];
}

-- the text of this witness
abbrev pub HasExampleText : Type 0
HasExampleText = witness_text in_both_orders ≡ codes "{\"first\":[[0,1],[]],\"second\":[[1,0],[]],\"tables\":{\"s\":[[null,\"a\\\"b\\\\\\n\",true]],\"t\":[[1],[-2]]}}"
