-- Steps of the code's loops.
use Rattle.std.proofs.Common.{◌≡◌, ℕ, suc, ◌+◌, ◌-◌, ◌<◌, ◌≤◌, List, [], ◌∷◌, ◌++◌, length, map, Some, Ok, Err, refl, sym, ap, ◌∙◌, arith}
use Rattle.std.proofs.Common.{Bool}
use Rattle.std.specs.Prelude.{IsTrue}
use Rattle.std.proofs.lemmas.Bool.{false≢true}
use Rattle.std.proofs.lemmas.List.{map_push}
use Rattle.wd_lex.specs.Lexed.{kinds_of}
use Rattle.wd_lex.specs.declared.token.Token.{Token}
use Rattle.wd_lex.specs.declared.token.Terminal.TheVariants as m
use Rattle.wd_syntax.specs.declared.expression.Operator.{Operator}
use Rattle.wd_syntax.specs.declared.expression.Link.{Link}
use Rattle.wd_syntax.specs.declared.expression.Height.{Height}
use Rattle.wd_syntax.specs.declared.expression.Height.TheVariants as height
use Rattle.wd_syntax.specs.Tokens.{rank}
use Rattle.wd_syntax.specs.View.{view, view_link, chained, tested}
use Rattle.wd_read_cursor.specs.Tokens.{Kinds}
use Rattle.wd_syntax.specs.Tree.{Tree, Binary, IsNull}
use Rattle.wd_read_cursor.specs.Cursor.{◌>>=◌, Unexpected, Limit, Reads, Parser, eat}
use Rattle.wd_read_expression.specs.Reading.{operator_at, null_at, tests, links, read}
use Rattle.wd_read_expression.proofs.Complete.{operand_first}
use Rattle.wd_read_cursor.specs.declared.refusal.Refusal.{Refusal}
use Rattle.wd_read_cursor.specs.declared.refusal.Refusal.TheVariants as r
use Rattle.wd_read_cursor.specs.Given.{Fails}
use Rattle.wd_read_expression.specs.Given.{is_chain}

-- tokens and what they say are as many
pub length_kinds : (tokens : List Token) → length (kinds_of tokens) ≡ length tokens
length_kinds [] = refl
length_kinds (x ∷ tokens) = let h = length_kinds tokens in omega (arith, h)

-- a chain is read from its left side on
pub read_chain : (h : Height) (d : ℕ) (ts : Kinds) → IsTrue (is_chain h) → read 200 d (rank h) ts ≡ read 200 d (rank h - 1) ts >>= λ a. links (read 200 d (rank h - 1)) (rank h) 200 a.0 a.1
read_chain height.Product d ts c = operand_first 200 1 d ts (omega arith) (omega arith)
read_chain height.Sum d ts c = operand_first 200 2 d ts (omega arith) (omega arith)
read_chain height.Conjunction d ts c = operand_first 200 6 d ts (omega arith) (omega arith)
read_chain height.Disjunction d ts c = operand_first 200 7 d ts (omega arith) (omega arith)
read_chain _ d ts c = absurd (false≢true c)

-- ---- a chain

pub chained_end : (a : Tree) (xs : List (Operator × Tree)) (x : Operator × Tree) → chained a (xs ++ x ∷ []) ≡ Binary x.0 (chained a xs) x.1
chained_end a [] x = refl
chained_end a (y ∷ xs) x = chained_end (Binary y.0 a y.1) xs x

pub tested_end : (a : Tree) (nots : List Bool) (not : Bool) → tested a (nots ++ not ∷ []) ≡ IsNull (tested a nots) not
tested_end a [] not = refl
tested_end a (y ∷ nots) not = tested_end (IsNull a y) nots not

-- a chain ends in its last operator
pub chained_last : (a : Tree) (before links : List Link) (last : Link) → links ≡ before ++ last ∷ [] → chained a (map view_link links) ≡ Binary last.operator (chained a (map view_link before)) (view last.operand)
chained_last a before links last e = rw e (ap (chained a) (map_push view_link before last) ∙ chained_end a (map view_link before) (view_link last))

-- tests end in their last one
pub tested_last : (a : Tree) (before nots : List Bool) (last : Bool) → nots ≡ before ++ last ∷ [] → tested a nots ≡ IsNull (tested a before) last
tested_last a before nots last e = rw e (tested_end a before last)

pub links_more : (p : Parser Tree) (h i : ℕ) (a : Tree) (xs : List Link) (x : Link) (ts following rest : Kinds) (total : Reads Tree) → i < 200 → operator_at h ts ≡ Some (x.operator, following) → p following ≡ Ok (view x.operand, rest) → links p h (200 - i) (chained a (map view_link xs)) ts ≡ total → links p h (200 - (i + 1)) (chained a (map view_link (xs ++ x ∷ []))) rest ≡ total
unfolding links
links_more p h i a xs x ts following rest total lt eo ep so_far =
    let k : 200 - i ≡ suc (200 - (i + 1)) = omega arith in
    let tree = chained a (map view_link xs) in
    let one : links p h (200 - i) tree ts ≡ links p h (200 - (i + 1)) (Binary x.operator tree (view x.operand)) rest = rw (k, eo, ep) refl in
    let grown : chained a (map view_link (xs ++ x ∷ [])) ≡ Binary x.operator tree (view x.operand) = chained_last a xs (xs ++ x ∷ []) x refl in
    ap (λ z. links p h (200 - (i + 1)) z rest) grown ∙ sym one ∙ so_far

pub links_fail : (e : Refusal) (p : Parser Tree) (h i : ℕ) (a : Tree) (ts : Kinds) (o : Operator) (following : Kinds) (total : Reads Tree) → i < 200 → operator_at h ts ≡ Some (o, following) → Fails e (p following) → links p h (200 - i) a ts ≡ total → Fails e total
unfolding links
links_fail r.OutOfMemory p h i a ts o following total lt eo ep so_far = tt
links_fail (r.Unexpected left) p h i a ts o following total lt eo ep so_far =
    let k : 200 - i ≡ suc (200 - (i + 1)) = omega arith in
    let one : links p h (200 - i) a ts ≡ Err (Unexpected left) = rw (k, eo, ep) refl in
    sym so_far ∙ one
links_fail (r.PastLimit left) p h i a ts o following total lt eo ep so_far =
    let k : 200 - i ≡ suc (200 - (i + 1)) = omega arith in
    let one : links p h (200 - i) a ts ≡ Err (Limit left) = rw (k, eo, ep) refl in
    sym so_far ∙ one

pub links_full : (p : Parser Tree) (h i : ℕ) (a : Tree) (ts : Kinds) (x : Operator × Kinds) (n : ℕ) (total : Reads Tree) → length ts ≡ n → 200 ≤ i → operator_at h ts ≡ Some x → links p h (200 - i) a ts ≡ total → total ≡ Err (Limit n)
unfolding links
links_full p h i a ts x n total en le eo so_far =
    let k : 200 - i ≡ 0 = omega arith in
    let one : links p h (200 - i) a ts ≡ Err (Limit n) = rw (k, eo, en) refl in
    sym so_far ∙ one

-- ---- tests for NULL

pub tests_more : (i : ℕ) (a : Tree) (nots : List Bool) (not : Bool) (ts following rest : Kinds) (total : Reads Tree) → i < 200 → eat m.Is ts ≡ Some following → null_at following ≡ Ok (not, rest) → tests (200 - i) (tested a nots) ts ≡ total → tests (200 - (i + 1)) (tested a (nots ++ not ∷ [])) rest ≡ total
unfolding tests
tests_more i a nots not ts following rest total lt eo ep so_far =
    let k : 200 - i ≡ suc (200 - (i + 1)) = omega arith in
    let one : tests (200 - i) (tested a nots) ts ≡ tests (200 - (i + 1)) (IsNull (tested a nots) not) rest = rw (k, eo, ep) refl in
    ap (λ z. tests (200 - (i + 1)) z rest) (tested_end a nots not) ∙ sym one ∙ so_far

pub tests_fail : (e : Refusal) (i : ℕ) (a : Tree) (ts following : Kinds) (total : Reads Tree) → i < 200 → eat m.Is ts ≡ Some following → Fails e (null_at following) → tests (200 - i) a ts ≡ total → Fails e total
unfolding tests
tests_fail r.OutOfMemory i a ts following total lt eo ep so_far = tt
tests_fail (r.Unexpected left) i a ts following total lt eo ep so_far =
    let k : 200 - i ≡ suc (200 - (i + 1)) = omega arith in
    let one : tests (200 - i) a ts ≡ Err (Unexpected left) = rw (k, eo, ep) refl in
    sym so_far ∙ one
tests_fail (r.PastLimit left) i a ts following total lt eo ep so_far =
    let k : 200 - i ≡ suc (200 - (i + 1)) = omega arith in
    let one : tests (200 - i) a ts ≡ Err (Limit left) = rw (k, eo, ep) refl in
    sym so_far ∙ one

pub tests_full : (i : ℕ) (a : Tree) (ts following : Kinds) (n : ℕ) (total : Reads Tree) → length ts ≡ n → 200 ≤ i → eat m.Is ts ≡ Some following → tests (200 - i) a ts ≡ total → total ≡ Err (Limit n)
unfolding tests
tests_full i a ts following n total en le eo so_far =
    let k : 200 - i ≡ 0 = omega arith in
    let one : tests (200 - i) a ts ≡ Err (Limit n) = rw (k, eo, en) refl in
    sym so_far ∙ one
