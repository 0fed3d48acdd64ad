-- Expressions as they are written in SQL, word by word.
use Rattle.std.specs.Prelude.{◌≡◌, ℕ, ◌+◌, ◌-◌, ◌*◌, true, false, nat_le, nat_lt, nat_eq, int_lt, pos, List, [], ◌∷◌, ◌++◌, length, get_or, flat_map, codes, chars, encode_utf8, if◌then◌else◌}
use Rattle.std.specs.Fmt.{signed_decimal}
use Rattle.wd_value.specs.declared.value.Value.{Value}
use Rattle.wd_value.specs.declared.value.Value.TheVariants.{Null, Int, Text, Bool as Truth}
use Rattle.wd_plan.specs.Expressions.{Expression, Column, Literal, Negate, Arithmetic, Compare, Not, And, Or, IsNull, IsNotNull, Case, expression_of}
use Rattle.wd_plan.specs.Walks.{steps}
use Rattle.wd_plan.specs.declared.expression.ArithmeticOp.{ArithmeticOp}
use Rattle.wd_plan.specs.declared.expression.ArithmeticOp.TheVariants.{Add, Subtract, Multiply, Divide, Remainder}
use Rattle.wd_plan.specs.declared.expression.ComparisonOp.{ComparisonOp}
use Rattle.wd_plan.specs.declared.expression.ComparisonOp.TheVariants.{Equal, NotEqual, Less, LessOrEqual, Greater, GreaterOrEqual}
use Rattle.wd_plan.specs.declared.expression.Branch.{Branch}
use Rattle.wd_plan.specs.declared.expression.Branch.TheVariants.{First, Later}
use Rattle.wd_spelling.specs.declared.spell.Item.{Item}
use Rattle.wd_spelling.specs.declared.spell.Item.TheVariants as item

-- ---- words

abbrev pub arithmetic_word : ArithmeticOp → List ℕ
arithmetic_word Add = codes " + "
arithmetic_word Subtract = codes " - "
arithmetic_word Multiply = codes " * "
arithmetic_word Divide = codes " / "
arithmetic_word Remainder = codes " % "

abbrev pub comparison_word : ComparisonOp → List ℕ
comparison_word Equal = codes " = "
comparison_word NotEqual = codes " <> "
comparison_word Less = codes " < "
comparison_word LessOrEqual = codes " <= "
comparison_word Greater = codes " > "
comparison_word GreaterOrEqual = codes " >= "

-- within a text in quotes, a quote is doubled
abbrev pub quoted_char : ℕ → List ℕ
quoted_char c = if nat_eq c 39 then codes "''" else encode_utf8 c

abbrev pub literal_word : Value → List ℕ
literal_word Null = codes "NULL"
literal_word (Int n) = signed_decimal n
literal_word (Text text) = codes "'" ++ flat_map quoted_char (chars text) ++ codes "'"
literal_word (Truth true) = codes "TRUE"
literal_word (Truth false) = codes "FALSE"

-- ---- how closely operators bind (SQL, boolean value expression; PG, Operator Precedence): from 1 for OR to 8 for operands that need no
-- brackets

abbrev pub arithmetic_level : ArithmeticOp → ℕ
arithmetic_level Add = 5
arithmetic_level Subtract = 5
arithmetic_level Multiply = 6
arithmetic_level Divide = 6
arithmetic_level Remainder = 6

-- a number below zero begins with a sign
abbrev pub literal_level : Value → ℕ
literal_level Null = 8
literal_level (Int n) = if int_lt n (pos 0) then 7 else 8
literal_level (Text text) = 8
literal_level (Truth truth) = 8

abbrev pub level : Expression → ℕ
level (Column c) = 8
level (Literal v kind) = literal_level v
level (Negate a) = 7
level (Arithmetic op a b) = arithmetic_level op
level (Compare op a b) = 4
level (Not a) = 3
level (And a b) = 2
level (Or a b) = 1
level (IsNull a) = 4
level (IsNotNull a) = 4
level (Case branch a b c) = 8

-- ---- expressions

-- the words of an operand, in brackets if it binds less closely than its place requires
abbrev pub within : (asked : ℕ) → Expression → List (List ℕ) → List (List ℕ)
within asked e words = if nat_lt (level e) asked then codes "(" ∷ (words ++ codes ")" ∷ []) else words

-- the word of a first branch of a CASE, and that of a further one
abbrev pub branch_word : Branch → List ℕ
branch_word First = codes "CASE WHEN "
branch_word Later = codes " WHEN "

-- the words before and after the rest of a CASE, if that is no further branch
abbrev pub else_word : Expression → List ℕ
else_word (Case Later a b c) = []
else_word e = codes " ELSE "

abbrev pub end_word : Expression → List ℕ
end_word (Case Later a b c) = []
end_word e = codes " END"

-- the words of an expression over columns of these names; an operator is between its operands, with a blank on either side
abbrev pub spelled : (names : List (List ℕ)) → Expression → List (List ℕ)
spelled names (Column c) = get_or names c (codes "?") ∷ []
spelled names (Literal v kind) = literal_word v ∷ []
spelled names (Negate a) = codes "-" ∷ within 8 a (spelled names a)
spelled names (Arithmetic op a b) = within (arithmetic_level op) a (spelled names a) ++ arithmetic_word op ∷ within (arithmetic_level op + 1) b (spelled names b)
spelled names (Compare op a b) = within 5 a (spelled names a) ++ comparison_word op ∷ within 5 b (spelled names b)
spelled names (Not a) = codes "NOT " ∷ within 3 a (spelled names a)
spelled names (And a b) = within 2 a (spelled names a) ++ codes " AND " ∷ within 3 b (spelled names b)
spelled names (Or a b) = within 1 a (spelled names a) ++ codes " OR " ∷ within 2 b (spelled names b)
spelled names (IsNull a) = within 5 a (spelled names a) ++ codes " IS NULL" ∷ []
spelled names (IsNotNull a) = within 5 a (spelled names a) ++ codes " IS NOT NULL" ∷ []
spelled names (Case branch a b c) = branch_word branch ∷ (spelled names a ++ codes " THEN " ∷ (spelled names b ++ else_word c ∷ (spelled names c ++ end_word c ∷ [])))

-- words as long as they fit into the given number of bytes, and `..` in place of the first that doesn't fit
abbrev pub fitting : (room : ℕ) → List (List ℕ) → List ℕ
fitting room [] = []
fitting room (word ∷ words) = if nat_le (length word) room then word ++ fitting (room - length word) words else codes ".."

-- ---- what is still to be written, the last of it first

abbrev pub item_words : (names : List (List ℕ)) → Item → List (List ℕ)
item_words names (item.Word word) = word.now ∷ []
item_words names (item.Name c) = get_or names c (codes "?") ∷ []
item_words names (item.Literal v) = literal_word v.now ∷ []
item_words names (item.Operand asked e) = within asked (expression_of e.now) (spelled names (expression_of e.now))

-- the single word of an item other than an operand
abbrev pub IsWordOf : (names : List (List ℕ)) → Item → List ℕ → Type 0
IsWordOf names (item.Word word) text = text ≡ word.now
IsWordOf names (item.Name c) text = text ≡ get_or names c (codes "?")
IsWordOf names (item.Literal v) text = text ≡ literal_word v.now
IsWordOf names (item.Operand asked e) text = text ≡ []

abbrev pub waiting_words : (names : List (List ℕ)) → List Item → List (List ℕ)
waiting_words names [] = []
waiting_words names (item ∷ items) = waiting_words names items ++ item_words names item

abbrev pub item_weight : Item → ℕ
item_weight (item.Word word) = 1
item_weight (item.Name c) = 1
item_weight (item.Literal v) = 1
item_weight (item.Operand asked e) = 4 * steps (expression_of e.now)
