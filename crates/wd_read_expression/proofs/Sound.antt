-- What is read of an expression is spelled so, is well-levelled and keeps the limits.
use Rattle.std.proofs.Common.{◌≡◌, ◌≢◌, ℕ, zero, suc, ◌+◌, ◌≤◌, Bool, true, false, eqb, List, [], ◌∷◌, length, Option, Some, None, Result, Ok, Err, refl, sym, ap, subst, ◌∙◌, arith}
use Rattle.wd_lex.specs.declared.token.Terminal.{Terminal}
use Rattle.wd_lex.specs.declared.token.Terminal.TheVariants as m
use Rattle.wd_lex.specs.declared.token.TokenKind.TheVariants as t
use Rattle.wd_read_cursor.specs.declared.name.Name.{Name}
use Rattle.wd_syntax.specs.declared.expression.Operator.{Operator}
use Rattle.wd_syntax.specs.declared.expression.Sign.{Sign}
use Rattle.wd_read_cursor.specs.Tokens.{Kinds, ◌▸◌, name_kind}
use Rattle.wd_syntax.specs.Tokens.{operator_terminal, sign_terminal, operator_height}
use Rattle.wd_syntax.specs.Tree.{Tree, Column, Qualified, Case, Bracket, Signed, Binary, IsNull, Negated, Trees, Otherwise, no_else, or_else, OverTree, no_over, over_name, over_window, WindowTree, window, Key, trees_of, arms_of, keys_of, Each}
use Rattle.wd_syntax.specs.Spelling.{frame_onto, direction_onto, nulls_onto, not_onto, base_onto, onto, list_onto, more_onto, arms_onto, else_onto, over_onto, window_onto, partition_onto, order_onto, more_keys_onto}
use Rattle.wd_syntax.specs.Levels.{height, left_height, IsLevelled, AreLevelled, ArmsLevelled, ElseLevelled, OverLevelled, WindowLevelled, KeysLevelled}
use Rattle.wd_syntax.specs.Limits.{operators}
use Rattle.wd_read_expression.proofs.Fitting.{Below, Fits, AllFit, ArmsFit, ElseFits, OverFits, WindowFits, KeysFit}
use Rattle.wd_read_cursor.specs.Cursor.{Fault, Limit, ◌>>=◌, Reads, Parser, choose, eat, expect, with_rest, name_at, list_at}
use Rattle.wd_read_expression.specs.Reading.{operator_of, operator_if, operator_at, sign_of, sign_at, frame_at, direction_at, nulls_at, key_at, partition_at, order_at, base_at, window_at, link, ended, links, compared, null_at, tests, arguments_at, call_of, enter, over_at, call_at, named_at, arm_at, else_at, case_at, bracket_at, primary_by_terminal, primary, signed_by, goes_on, levels, deeper_of}
use Rattle.std.proofs.lemmas.Bool.{eqb-true}
use Rattle.wd_read_cursor.proofs.Eaten.{not_same}
use Rattle.wd_read_expression.proofs.SoundPieces.{kept_if, Kept, Holds, then_holds, at_terminal, past_terminal, past_name, IsPart, Spelled, all_onto, led_by, IsListed, list_holds, frame_is, direction_is, nulls_is, base_is, looser_holds}
use Rattle.wd_read_expression.proofs.Complete.{operators_more, operand_first, operators_zero}

-- ---- terminals of operators

operator_of_is : (x : Terminal) → Kept (λ o. x ≡ operator_terminal o) (operator_of x)
operator_of_is m.Or = refl
operator_of_is m.And = refl
operator_of_is m.Equals = refl
operator_of_is m.NotEquals = refl
operator_of_is m.Less = refl
operator_of_is m.LessOrEqual = refl
operator_of_is m.Greater = refl
operator_of_is m.GreaterOrEqual = refl
operator_of_is m.Plus = refl
operator_of_is m.Minus = refl
operator_of_is m.Star = refl
operator_of_is m.Slash = refl
operator_of_is m.Percent = refl
operator_of_is _ = tt

abbrev pub IsOperator : ℕ → Kinds → Operator × Kinds → Type 0
IsOperator h ts x = (ts ≡ operator_terminal x.0 ▸ x.1) × (operator_height x.0 ≡ h)

operator_if_is : (h : ℕ) (x : Terminal) (ts : Kinds) (o : Option Operator) → Kept (λ o. x ≡ operator_terminal o) o → Kept (IsOperator h (x ▸ ts)) (operator_if h ts o)
operator_if_is h x ts None k = tt
operator_if_is h x ts (Some o) k = kept_if (IsOperator h (x ▸ ts)) (eqb (operator_height o) h) (o, ts) (λ e. (ap (λ (z : Terminal). z ▸ ts) k, eqb-true (operator_height o) h e))

pub operator_at_is : (h : ℕ) (ts : Kinds) → Kept (IsOperator h ts) (operator_at h ts)
unfolding operator_at
operator_at_is h [] = tt
operator_at_is h (t.Terminal x ∷ ts) = operator_if_is h x ts (operator_of x) (operator_of_is x)
operator_at_is h (t.Word text ∷ ts) = tt
operator_at_is h (t.Quoted text ∷ ts) = tt
operator_at_is h (t.Literal text ∷ ts) = tt
operator_at_is h (t.Number n ∷ ts) = tt

sign_is_at : (x : Terminal) (ts : Kinds) → Kept (λ y. x ▸ ts ≡ sign_terminal y.0 ▸ y.1) (with_rest ts (sign_of x))
sign_is_at m.Plus ts = refl
sign_is_at m.Minus ts = refl
sign_is_at _ ts = tt

pub sign_is : (ts : Kinds) → Kept (λ y. ts ≡ sign_terminal y.0 ▸ y.1) (sign_at ts)
unfolding sign_at
sign_is [] = tt
sign_is (t.Terminal x ∷ ts) = sign_is_at x ts
sign_is (t.Word text ∷ ts) = tt
sign_is (t.Quoted text ∷ ts) = tt
sign_is (t.Literal text ∷ ts) = tt
sign_is (t.Number n ∷ ts) = tt

pub null_is : (ts : Kinds) → Holds (λ x. ts ≡ not_onto x.0 (m.Null ▸ x.1)) (null_at ts)
unfolding null_at
null_is ts =
    let Q : Bool × Kinds → Type 0 = λ x. ts ≡ not_onto x.0 (m.Null ▸ x.1) in
    at_terminal (Holds Q) m.Not ts (λ r. expect m.Null r >>= λ q. Ok (true, q)) (expect m.Null ts >>= λ q. Ok (false, q))
    (λ r e. past_terminal Q m.Null r (λ q. Ok (true, q)) (λ q f. e ∙ ap (λ (z : Kinds). m.Not ▸ z) f))
    (past_terminal Q m.Null ts (λ q. Ok (false, q)) (λ q f. f))

pub each_left : {A : Type 0} (P Q : A → Type 0) (xs : List A) → Each (λ a. P a × Q a) xs → Each P xs
each_left P Q [] h = tt
each_left P Q (a ∷ xs) h = (h.0.0, each_left P Q xs h.1)

pub each_right : {A : Type 0} (P Q : A → Type 0) (xs : List A) → Each (λ a. P a × Q a) xs → Each Q xs
each_right P Q [] h = tt
each_right P Q (a ∷ xs) h = (h.0.1, each_right P Q xs h.1)

-- ---- trees

abbrev pub key_onto : Key → Kinds → Kinds
key_onto key ts = onto key.0 (direction_onto key.1 (nulls_onto key.2 ts))

abbrev pub arm_onto : Tree × Tree → Kinds → Kinds
arm_onto arm ts = onto arm.0 (m.Then ▸ onto arm.1 ts)

pub trees_spelled : (xs : List Tree) (ts : Kinds) → all_onto (led_by m.Comma onto) xs ts ≡ more_onto (trees_of xs) ts
trees_spelled [] ts = refl
trees_spelled (a ∷ xs) ts = ap (λ (z : Kinds). m.Comma ▸ onto a z) (trees_spelled xs ts)

pub keys_spelled : (xs : List Key) (ts : Kinds) → all_onto (led_by m.Comma key_onto) xs ts ≡ more_keys_onto (keys_of xs) ts
keys_spelled [] ts = refl
keys_spelled (a ∷ xs) ts = ap (λ (z : Kinds). m.Comma ▸ key_onto a z) (keys_spelled xs ts)

pub arms_spelled : (xs : List (Tree × Tree)) (ts : Kinds) → all_onto (led_by m.When arm_onto) xs ts ≡ arms_onto (arms_of xs) ts
arms_spelled [] ts = refl
arms_spelled (a ∷ xs) ts = ap (λ (z : Kinds). m.When ▸ arm_onto a z) (arms_spelled xs ts)

module _ (c : ℕ) where
  abbrev pub Good : ℕ → Tree → Type 0
  Good d a = IsLevelled a × Fits c d a

  abbrev pub GoodKey : ℕ → Key → Type 0
  GoodKey d key = IsLevelled key.0 × Fits c d key.0

  abbrev pub GoodArm : ℕ → Tree × Tree → Type 0
  GoodArm d arm = (IsLevelled arm.0 × IsLevelled arm.1) × (Fits c d arm.0 × Fits c d arm.1)

  -- what is read, of a height and within the limits
  pub record IsRead (h d : ℕ) (ts : Kinds) (x : Tree × Kinds) : Type 0 where
    pub parts : ts ≡ onto x.0 x.1
    pub levelled : IsLevelled x.0
    pub tight : height x.0 ≤ h
    pub fits : Fits c d x.0

  abbrev pub Sound : ℕ → Type 0
  Sound d = (h : ℕ) (ts : Kinds) → Holds (IsRead h d ts) (levels c (deeper_of c d) h ts)

  abbrev pub Within : ℕ → Type 0
  Within zero = Unit {0}
  Within (suc k) = Sound k

  -- a whole expression
  abbrev pub Whole : ℕ → Parser Tree → Type 0
  Whole d item = (ts : Kinds) → Holds (IsPart onto (Good d) ts) (item ts)

  pub whole_expression : (d : ℕ) → Sound d → Whole d (levels c (deeper_of c d) 8)
  whole_expression d sound ts = looser_holds (IsRead 8 d ts) (IsPart onto (Good d) ts) (levels c (deeper_of c d) 8 ts) (sound 8 ts) (λ x i. record { parts = i.parts; good = (i.levelled, i.fits) })

  pub enter_holds : {A : Type 0} (left : ℕ) (Q : ℕ → A → Type 0) (f : (ℕ → Parser Tree) → Result A Fault) → ((k : ℕ) → Sound k → Holds (Q (suc k)) (f (levels c (deeper_of c k)))) → (d : ℕ) → Within d → Holds (Q d) (enter left (deeper_of c d) f)
  unfolding deeper_of
  enter_holds left Q f h zero lower = tt
  enter_holds left Q f h (suc k) lower = h k lower

  -- ---- loops

  abbrev Operand : ℕ → ℕ → Parser Tree → Type 0
  Operand g d p = (ts : Kinds) → Holds (IsRead g d ts) (p ts)

  ended_holds : (h d : ℕ) (o : Option (Operator × Kinds)) (a : Tree) (ts : Kinds) → IsRead h d (onto a ts) (a, ts) → Holds (IsRead h d (onto a ts)) (ended o a ts)
  ended_holds h d None a ts i = i
  ended_holds h d (Some x) a ts i = tt

  link_holds : (g h d : ℕ) (a : Tree) (ts : Kinds) (p : Parser Tree) (next : Tree → Parser Tree) (o : Option (Operator × Kinds)) → Operand g d p → IsRead h d (onto a ts) (a, ts) → Kept (IsOperator (suc g) ts) o → ((o : Operator) (b : Tree) (rest : Kinds) → operator_height o ≡ suc g → ts ≡ operator_terminal o ▸ onto b rest → IsRead g d (onto b rest) (b, rest) → Holds (IsRead h d (onto a ts)) (next (Binary o a b) rest)) → Holds (IsRead h d (onto a ts)) (link o p a ts next)
  link_holds g h d a ts p next None op i k n = i
  link_holds g h d a ts p next (Some x) op i k n =
      then_holds (IsRead g d x.1) (IsRead h d (onto a ts)) (p x.1) (λ b. next (Binary x.0 a b.0) b.1) (op x.1) (λ b j. n x.0 b.0 b.1 k.1 (k.0 ∙ ap (λ (z : Kinds). operator_terminal x.0 ▸ z) j.parts) (record { parts = refl; levelled = j.levelled; tight = j.tight; fits = j.fits }))

  pub left_chain : (o : Operator) (h : ℕ) → operator_height o ≡ h → h ≢ 4 → left_height o ≡ h
  left_chain o h e n = rw (e, let q : eqb h 4 ≡ false = not_same h 4 n in q) refl

  links_hold : (g d n : ℕ) (p : Parser Tree) (a : Tree) (ts : Kinds) → g ≢ 3 → Operand g d p → n + operators (suc g) a ≡ c → IsRead (suc g) d (onto a ts) (a, ts) → Holds (IsRead (suc g) d (onto a ts)) (links p (suc g) n a ts)
  unfolding links
  links_hold g d zero p a ts n3 op e i = ended_holds (suc g) d (operator_at (suc g) ts) a ts i
  links_hold g d (suc n) p a ts n3 op e i =
      link_holds g (suc g) d a ts p (λ b. links p (suc g) n b) (operator_at (suc g) ts) op i (operator_at_is (suc g) ts) (λ o b rest eo et ib.
      let more = operators_more c o a b (suc g) eo in
      let enough : operators (operator_height o) (Binary o a b) ≤ c = subst (λ k. operators k (Binary o a b) ≤ c) (sym eo) (omega (arith, more)) in
      let left = left_chain o (suc g) eo (omega arith) in
      let whole : IsRead (suc g) d (onto (Binary o a b) rest) (Binary o a b, rest) = record { parts = refl; levelled = (i.levelled, omega (arith, left, i.tight), ib.levelled, omega (arith, eo, ib.tight)); tight = omega (arith, eo); fits = (i.fits, ib.fits, enough) } in
      subst (λ z. Holds (IsRead (suc g) d z) (links p (suc g) n (Binary o a b) rest)) (sym (ap (onto a) et)) (links_hold g d n p (Binary o a b) rest n3 op (omega (arith, more)) whole))

  compared_holds : (d : ℕ) (p : Parser Tree) (a : Tree) (ts : Kinds) → 1 ≤ c → Operand 3 d p → IsRead 3 d (onto a ts) (a, ts) → Holds (IsRead 4 d (onto a ts)) (compared p a ts)
  unfolding compared
  compared_holds d p a ts one op i =
      link_holds 3 4 d a ts p (λ b r. Ok (b, r)) (operator_at 4 ts) op (record { parts = refl; levelled = i.levelled; tight = omega (arith, i.tight); fits = i.fits }) (operator_at_is 4 ts) (λ o b rest eo et ib.
      let none : operators 4 a ≡ 0 = operators_zero c a 4 (omega (arith, i.tight)) in
      let enough : operators (operator_height o) (Binary o a b) ≤ c = subst (λ k. operators k (Binary o a b) ≤ c) (sym eo) (omega (arith, operators_more c o a b 4 eo, none)) in
      let left : left_height o ≡ 3 = rw eo refl in
      record { parts = ap (onto a) et; levelled = (i.levelled, omega (arith, left, i.tight), ib.levelled, omega (arith, eo, ib.tight)); tight = omega (arith, eo); fits = (i.fits, ib.fits, enough) })

  tests_hold : (d n : ℕ) (a : Tree) (ts : Kinds) → n + operators 5 a ≡ c → IsRead 5 d (onto a ts) (a, ts) → Holds (IsRead 5 d (onto a ts)) (tests n a ts)
  unfolding tests
  tests_hold d zero a ts e i = at_terminal (Holds (IsRead 5 d (onto a ts))) m.Is ts (λ r. Err (Limit (length ts))) (Ok (a, ts)) (λ r k. tt) i
  tests_hold d (suc n) a ts e i =
      at_terminal (Holds (IsRead 5 d (onto a ts))) m.Is ts (λ r. null_at r >>= λ x. tests n (IsNull a x.0) x.1) (Ok (a, ts))
      (λ r k. then_holds (λ x. r ≡ not_onto x.0 (m.Null ▸ x.1)) (IsRead 5 d (onto a ts)) (null_at r) (λ x. tests n (IsNull a x.0) x.1) (null_is r) (λ x q.
      subst (λ z. Holds (IsRead 5 d z) (tests n (IsNull a x.0) x.1)) (sym (ap (onto a) (k ∙ ap (λ (z : Kinds). m.Is ▸ z) q))) (tests_hold d n (IsNull a x.0) x.1 (omega arith) (record { parts = refl; levelled = (i.levelled, i.tight); tight = omega arith; fits = (i.fits, omega arith) }))))
      i

  links_goes : (g d : ℕ) (p : Parser Tree) (a : Tree) (ts : Kinds) → g ≢ 3 → Operand g d p → IsRead g d (onto a ts) (a, ts) → Holds (IsRead (suc g) d (onto a ts)) (links p (suc g) c a ts)
  links_goes g d p a ts n3 op i = links_hold g d c p a ts n3 op (omega (arith, operators_zero c a (suc g) (omega (arith, i.tight)))) (record { parts = refl; levelled = i.levelled; tight = omega (arith, i.tight); fits = i.fits })

  looser : (g d : ℕ) (ts : Kinds) (r : Reads Tree) → Holds (IsRead g d ts) r → Holds (IsRead (suc g) d ts) r
  looser g d ts (Ok x) i = record { parts = i.parts; levelled = i.levelled; tight = omega (arith, i.tight); fits = i.fits }
  looser g d ts (Err e) i = tt

  goes_hold : (g d : ℕ) (p : Parser Tree) (a : Tree) (ts : Kinds) → 1 ≤ c → Operand g d p → IsRead g d (onto a ts) (a, ts) → Holds (IsRead (suc g) d (onto a ts)) (goes_on g p c a ts)
  goes_hold (suc (suc (suc zero))) d p a ts one op i = compared_holds d p a ts one op i
  goes_hold (suc (suc (suc (suc zero)))) d p a ts one op i = tests_hold d c a ts (omega (arith, operators_zero c a 5 (omega (arith, i.tight)))) (record { parts = refl; levelled = i.levelled; tight = omega (arith, i.tight); fits = i.fits })
  goes_hold zero d p a ts one op i = links_goes 0 d p a ts (omega arith) op i
  goes_hold (suc zero) d p a ts one op i = links_goes 1 d p a ts (omega arith) op i
  goes_hold (suc (suc zero)) d p a ts one op i = links_goes 2 d p a ts (omega arith) op i
  goes_hold (suc (suc (suc (suc (suc g))))) d p a ts one op i = links_goes (suc (suc (suc (suc (suc g))))) d p a ts (omega arith) op i

  -- ---- rows of trees, as lists

  trees_levelled : (d : ℕ) (xs : List Tree) → Each (Good d) xs → AreLevelled (trees_of xs)
  trees_levelled d [] h = tt
  trees_levelled d (a ∷ xs) h = (h.0.0, trees_levelled d xs h.1)

  trees_fit : (d : ℕ) (xs : List Tree) → Each (Good d) xs → AllFit c d (trees_of xs)
  trees_fit d [] h = tt
  trees_fit d (a ∷ xs) h = (h.0.1, trees_fit d xs h.1)

  keys_levelled : (d : ℕ) (xs : List Key) → Each (GoodKey d) xs → KeysLevelled (keys_of xs)
  keys_levelled d [] h = tt
  keys_levelled d (a ∷ xs) h = (h.0.0, keys_levelled d xs h.1)

  keys_fit : (d : ℕ) (xs : List Key) → Each (GoodKey d) xs → KeysFit c d (keys_of xs)
  keys_fit d [] h = tt
  keys_fit d (a ∷ xs) h = (h.0.1, keys_fit d xs h.1)

  arms_levelled : (d : ℕ) (xs : List (Tree × Tree)) → Each (GoodArm d) xs → ArmsLevelled (arms_of xs)
  arms_levelled d [] h = tt
  arms_levelled d (a ∷ xs) h = (h.0.0.0, h.0.0.1, arms_levelled d xs h.1)

  arms_fit : (d : ℕ) (xs : List (Tree × Tree)) → Each (GoodArm d) xs → ArmsFit c d (arms_of xs)
  arms_fit d [] h = tt
  arms_fit d (a ∷ xs) h = (h.0.1.0, h.0.1.1, arms_fit d xs h.1)

  -- ---- windows

  pub key_holds : (d : ℕ) (item : Parser Tree) (ts : Kinds) → Whole d item → Holds (IsPart key_onto (GoodKey d) ts) (key_at item ts)
  unfolding key_at
  key_holds d item ts op =
      let Q : Key × Kinds → Type 0 = IsPart key_onto (GoodKey d) ts in
      then_holds (IsPart onto (Good d) ts) Q (item ts) (λ a. nulls_at (direction_at a.1).1 >>= λ n. Ok ((a.0, (direction_at a.1).0, n.0), n.1)) (op ts) (λ a i.
      then_holds (λ n. (direction_at a.1).1 ≡ nulls_onto n.0 n.1) Q (nulls_at (direction_at a.1).1) (λ n. Ok ((a.0, (direction_at a.1).0, n.0), n.1)) (nulls_is (direction_at a.1).1) (λ n e.
      record { parts = i.parts ∙ ap (onto a.0) (direction_is a.1 ∙ ap (direction_onto (direction_at a.1).0) e); good = i.good }))

  abbrev pub trees_onto : (Trees → Kinds → Kinds) → List Tree → Kinds → Kinds
  trees_onto f xs ts = f (trees_of xs) ts

  abbrev pub GoodTrees : ℕ → List Tree → Type 0
  GoodTrees d xs = AreLevelled (trees_of xs) × AllFit c d (trees_of xs)

  abbrev pub GoodKeys : ℕ → List Key → Type 0
  GoodKeys d xs = KeysLevelled (keys_of xs) × KeysFit c d (keys_of xs)

  abbrev pub keys_row_onto : List Key → Kinds → Kinds
  keys_row_onto xs ts = order_onto (keys_of xs) ts

  partition_listed : (d : ℕ) (ts us rest : Kinds) (xs : List Tree) → ts ≡ m.Partition ▸ m.By ▸ us → IsListed m.Comma onto (Good d) us xs rest → IsPart (trees_onto partition_onto) (GoodTrees d) ts (xs, rest)
  partition_listed d ts us rest [] e h = absurd h
  partition_listed d ts us rest (a ∷ xs) e h = record { parts = e ∙ ap (λ (z : Kinds). m.Partition ▸ m.By ▸ z) (h.0 ∙ ap (onto a) (trees_spelled xs rest)); good = ((h.1.0, trees_levelled d xs h.2), (h.1.1, trees_fit d xs h.2)) }

  pub partition_holds : (d : ℕ) (item : Parser Tree) (ts : Kinds) → Whole d item → Holds (IsPart (trees_onto partition_onto) (GoodTrees d) ts) (partition_at item ts)
  unfolding partition_at
  partition_holds d item ts op =
      let Q : List Tree × Kinds → Type 0 = IsPart (trees_onto partition_onto) (GoodTrees d) ts in
      at_terminal (Holds Q) m.Partition ts (λ r. expect m.By r >>= λ r. list_at m.Comma item r) (Ok ([], ts))
      (λ r e. past_terminal Q m.By r (λ r. list_at m.Comma item r) (λ us f.
      looser_holds (λ y. IsListed m.Comma onto (Good d) us y.0 y.1) Q (list_at m.Comma item us) (list_holds m.Comma onto (Good d) item us op) (λ y h. partition_listed d ts us y.1 y.0 (e ∙ ap (λ (z : Kinds). m.Partition ▸ z) f) h)))
      (record { parts = refl; good = (tt, tt) })

  order_listed : (d : ℕ) (ts us rest : Kinds) (xs : List Key) → ts ≡ m.Order ▸ m.By ▸ us → IsListed m.Comma key_onto (GoodKey d) us xs rest → IsPart keys_row_onto (GoodKeys d) ts (xs, rest)
  order_listed d ts us rest [] e h = absurd h
  order_listed d ts us rest (a ∷ xs) e h = record { parts = e ∙ ap (λ (z : Kinds). m.Order ▸ m.By ▸ z) (h.0 ∙ ap (key_onto a) (keys_spelled xs rest)); good = ((h.1.0, keys_levelled d xs h.2), (h.1.1, keys_fit d xs h.2)) }

  pub order_holds : (d : ℕ) (item : Parser Tree) (ts : Kinds) → Whole d item → Holds (IsPart keys_row_onto (GoodKeys d) ts) (order_at item ts)
  unfolding order_at
  order_holds d item ts op =
      let Q : List Key × Kinds → Type 0 = IsPart keys_row_onto (GoodKeys d) ts in
      at_terminal (Holds Q) m.Order ts (λ r. expect m.By r >>= λ r. list_at m.Comma (key_at item) r) (Ok ([], ts))
      (λ r e. past_terminal Q m.By r (λ r. list_at m.Comma (key_at item) r) (λ us f.
      looser_holds (λ y. IsListed m.Comma key_onto (GoodKey d) us y.0 y.1) Q (list_at m.Comma (key_at item) us) (list_holds m.Comma key_onto (GoodKey d) (key_at item) us (λ vs. key_holds d item vs op)) (λ y h. order_listed d ts us y.1 y.0 (e ∙ ap (λ (z : Kinds). m.Order ▸ z) f) h)))
      (record { parts = refl; good = (tt, tt) })

  abbrev pub window_closed : WindowTree → Kinds → Kinds
  window_closed w ts = window_onto w (m.RightBracket ▸ ts)

  abbrev pub GoodWindow : ℕ → WindowTree → Type 0
  GoodWindow d w = WindowLevelled w × WindowFits c d w

  pub window_holds : (d : ℕ) (item : Parser Tree) (ts : Kinds) → Whole d item → Holds (IsPart window_closed (GoodWindow d) ts) (window_at item ts)
  unfolding window_at
  window_holds d item ts op =
      let Q : WindowTree × Kinds → Type 0 = IsPart window_closed (GoodWindow d) ts in
      let base : Option Name = (base_at ts).0 in
      let start : Kinds = (base_at ts).1 in
      then_holds (IsPart (trees_onto partition_onto) (GoodTrees d) start) Q (partition_at item start) (λ ps. order_at item ps.1 >>= λ ks. frame_at ks.1 >>= λ f. expect m.RightBracket f.1 >>= λ r. Ok (window base (trees_of ps.0) (keys_of ks.0) f.0, r)) (partition_holds d item start op) (λ ps i.
      then_holds (IsPart keys_row_onto (GoodKeys d) ps.1) Q (order_at item ps.1) (λ ks. frame_at ks.1 >>= λ f. expect m.RightBracket f.1 >>= λ r. Ok (window base (trees_of ps.0) (keys_of ks.0) f.0, r)) (order_holds d item ps.1 op) (λ ks j.
      then_holds (Spelled frame_onto ks.1) Q (frame_at ks.1) (λ f. expect m.RightBracket f.1 >>= λ r. Ok (window base (trees_of ps.0) (keys_of ks.0) f.0, r)) (frame_is ks.1) (λ f g.
      past_terminal Q m.RightBracket f.1 (λ r. Ok (window base (trees_of ps.0) (keys_of ks.0) f.0, r)) (λ r h.
      record { parts = base_is ts ∙ ap (base_onto base) (i.parts ∙ ap (partition_onto (trees_of ps.0)) (j.parts ∙ ap (order_onto (keys_of ks.0)) (g ∙ ap (frame_onto f.0) h))); good = ((i.good.0, j.good.0), (i.good.1, j.good.1)) }))))

  -- ---- calls

  abbrev pub GoodOver : ℕ → OverTree → Type 0
  GoodOver d over = OverLevelled over × OverFits c d over

  pub over_holds : (d : ℕ) (ts : Kinds) → Within d → Holds (IsPart over_onto (GoodOver d) ts) (over_at (deeper_of c d) ts)
  unfolding over_at
  over_holds d ts lower =
      let Q : ℕ → OverTree × Kinds → Type 0 = λ k. IsPart over_onto (GoodOver k) ts in
      at_terminal (Holds (Q d)) m.Over ts (λ r. choose (eat m.LeftBracket r) (λ q. enter (length r) (deeper_of c d) (λ p. window_at (p 8) q >>= λ w. Ok (over_window w.0, w.1))) (name_at r >>= λ n. Ok (over_name n.0, n.1))) (Ok (no_over, ts))
      (λ r e. at_terminal (Holds (Q d)) m.LeftBracket r (λ q. enter (length r) (deeper_of c d) (λ p. window_at (p 8) q >>= λ w. Ok (over_window w.0, w.1))) (name_at r >>= λ n. Ok (over_name n.0, n.1))
      (λ q f. enter_holds (length r) Q (λ p. window_at (p 8) q >>= λ w. Ok (over_window w.0, w.1)) (λ k sound.
      then_holds (IsPart window_closed (GoodWindow k) q) (Q (suc k)) (window_at (levels c (deeper_of c k) 8) q) (λ w. Ok (over_window w.0, w.1)) (window_holds k (levels c (deeper_of c k) 8) q (whole_expression k sound)) (λ w i.
      record { parts = e ∙ ap (λ (z : Kinds). m.Over ▸ z) (f ∙ ap (λ (z : Kinds). m.LeftBracket ▸ z) i.parts); good = (i.good.0, i.good.1) })) d lower)
      (past_name (Q d) r (λ n. Ok (over_name n.0, n.1)) (λ n f. record { parts = e ∙ ap (λ (z : Kinds). m.Over ▸ z) f; good = (tt, tt) })))
      (record { parts = refl; good = (tt, tt) })

  abbrev pub arguments_closed : Option (List Tree) → Kinds → Kinds
  arguments_closed None ts = m.Star ▸ m.RightBracket ▸ ts
  arguments_closed (Some xs) ts = list_onto (trees_of xs) (m.RightBracket ▸ ts)

  abbrev ArgumentsLevelled : Option (List Tree) → Type 0
  ArgumentsLevelled None = Unit {0}
  ArgumentsLevelled (Some xs) = AreLevelled (trees_of xs)

  abbrev ArgumentsFit : ℕ → Option (List Tree) → Type 0
  ArgumentsFit d None = Unit {0}
  ArgumentsFit d (Some xs) = AllFit c d (trees_of xs)

  abbrev pub GoodArguments : ℕ → Option (List Tree) → Type 0
  GoodArguments d arguments = ArgumentsLevelled arguments × ArgumentsFit d arguments

  arguments_listed : (d : ℕ) (ts mid rest : Kinds) (xs : List Tree) → IsListed m.Comma onto (Good d) ts xs mid → mid ≡ m.RightBracket ▸ rest → IsPart arguments_closed (GoodArguments d) ts (Some xs, rest)
  arguments_listed d ts mid rest [] h e = absurd h
  arguments_listed d ts mid rest (a ∷ xs) h e = record { parts = h.0 ∙ ap (onto a) (trees_spelled xs mid ∙ ap (more_onto (trees_of xs)) e); good = ((h.1.0, trees_levelled d xs h.2), (h.1.1, trees_fit d xs h.2)) }

  pub arguments_hold : (d : ℕ) (item : Parser Tree) (ts : Kinds) → Whole d item → Holds (IsPart arguments_closed (GoodArguments d) ts) (arguments_at item ts)
  unfolding arguments_at
  arguments_hold d item ts op =
      let Q : Option (List Tree) × Kinds → Type 0 = IsPart arguments_closed (GoodArguments d) ts in
      at_terminal (Holds Q) m.Star ts (λ r. expect m.RightBracket r >>= λ r. Ok (None, r)) (choose (eat m.RightBracket ts) (λ r. Ok (Some [], r)) (list_at m.Comma item ts >>= λ bs. expect m.RightBracket bs.1 >>= λ r. Ok (Some bs.0, r)))
      (λ r e. past_terminal Q m.RightBracket r (λ r. Ok (None, r)) (λ q f. record { parts = e ∙ ap (λ (z : Kinds). m.Star ▸ z) f; good = (tt, tt) }))
      (at_terminal (Holds Q) m.RightBracket ts (λ r. Ok (Some [], r)) (list_at m.Comma item ts >>= λ bs. expect m.RightBracket bs.1 >>= λ r. Ok (Some bs.0, r))
      (λ r e. record { parts = e; good = (tt, tt) })
      (then_holds (λ y. IsListed m.Comma onto (Good d) ts y.0 y.1) Q (list_at m.Comma item ts) (λ bs. expect m.RightBracket bs.1 >>= λ r. Ok (Some bs.0, r)) (list_holds m.Comma onto (Good d) item ts op) (λ bs h.
      past_terminal Q m.RightBracket bs.1 (λ r. Ok (Some bs.0, r)) (λ q f. arguments_listed d ts bs.1 q bs.0 h f))))

  abbrev pub ArgumentsBelow : ℕ → Option (List Tree) → Type 0
  ArgumentsBelow d arguments = ArgumentsLevelled arguments × Below d (λ k. ArgumentsFit k arguments)

  call_is : (d : ℕ) (f : Name) (ts mid rest : Kinds) (arguments : Option (List Tree)) (over : OverTree) → ts ≡ arguments_closed arguments mid → ArgumentsBelow d arguments → mid ≡ over_onto over rest → GoodOver d over → IsRead 0 d (name_kind f ∷ (m.LeftBracket ▸ ts)) (call_of f arguments over, rest)
  call_is d f ts mid rest None over e ga h go = record { parts = ap (λ (z : Kinds). name_kind f ∷ (m.LeftBracket ▸ z)) (e ∙ ap (λ (z : Kinds). m.Star ▸ m.RightBracket ▸ z) h); levelled = go.0; tight = omega arith; fits = (ga.1, go.1) }
  call_is d f ts mid rest (Some xs) over e ga h go = record { parts = ap (λ (z : Kinds). name_kind f ∷ (m.LeftBracket ▸ z)) (e ∙ ap (λ (z : Kinds). list_onto (trees_of xs) (m.RightBracket ▸ z)) h); levelled = (ga.0, go.0); tight = omega arith; fits = (ga.1, go.1) }

  pub arguments_below : (d : ℕ) (ts : Kinds) → Within d → Holds (IsPart arguments_closed (ArgumentsBelow d) ts) (enter (suc (length ts)) (deeper_of c d) (λ p. arguments_at (p 8) ts))
  arguments_below d ts lower =
      enter_holds (suc (length ts)) (λ k. IsPart arguments_closed (ArgumentsBelow k) ts) (λ p. arguments_at (p 8) ts) (λ k sound.
      looser_holds (IsPart arguments_closed (GoodArguments k) ts) (IsPart arguments_closed (ArgumentsBelow (suc k)) ts) (arguments_at (levels c (deeper_of c k) 8) ts) (arguments_hold k (levels c (deeper_of c k) 8) ts (whole_expression k sound)) (λ x i. record { parts = i.parts; good = (i.good.0, i.good.1) })) d lower

  call_holds : (d : ℕ) (f : Name) (ts : Kinds) → Within d → Holds (IsRead 0 d (name_kind f ∷ (m.LeftBracket ▸ ts))) (call_at (deeper_of c d) f ts)
  unfolding call_at
  call_holds d f ts lower =
      let Q : Tree × Kinds → Type 0 = IsRead 0 d (name_kind f ∷ (m.LeftBracket ▸ ts)) in
      then_holds (IsPart arguments_closed (ArgumentsBelow d) ts) Q (enter (suc (length ts)) (deeper_of c d) (λ p. arguments_at (p 8) ts)) (λ bs. over_at (deeper_of c d) bs.1 >>= λ over. Ok (call_of f bs.0 over.0, over.1))
      (enter_holds (suc (length ts)) (λ k. IsPart arguments_closed (ArgumentsBelow k) ts) (λ p. arguments_at (p 8) ts) (λ k sound.
      looser_holds (IsPart arguments_closed (GoodArguments k) ts) (IsPart arguments_closed (ArgumentsBelow (suc k)) ts) (arguments_at (levels c (deeper_of c k) 8) ts) (arguments_hold k (levels c (deeper_of c k) 8) ts (whole_expression k sound)) (λ x i. record { parts = i.parts; good = (i.good.0, i.good.1) })) d lower)
      (λ bs i. then_holds (IsPart over_onto (GoodOver d) bs.1) Q (over_at (deeper_of c d) bs.1) (λ over. Ok (call_of f bs.0 over.0, over.1)) (over_holds d bs.1 lower) (λ over j.
      call_is d f ts bs.1 over.1 bs.0 over.0 i.parts i.good j.parts j.good))

  named_holds : (d : ℕ) (f : Name) (ts : Kinds) → Within d → Holds (IsRead 0 d (name_kind f ∷ ts)) (named_at (deeper_of c d) f ts)
  unfolding named_at
  named_holds d f ts lower =
      let Q : Tree × Kinds → Type 0 = IsRead 0 d (name_kind f ∷ ts) in
      at_terminal (Holds Q) m.Dot ts (λ r. name_at r >>= λ b. Ok (Qualified f b.0, b.1)) (choose (eat m.LeftBracket ts) (λ r. call_at (deeper_of c d) f r) (Ok (Column f, ts)))
      (λ r e. past_name Q r (λ b. Ok (Qualified f b.0, b.1)) (λ x l. record { parts = ap (λ (z : Kinds). name_kind f ∷ z) (e ∙ ap (λ (z : Kinds). m.Dot ▸ z) l); levelled = tt; tight = omega arith; fits = tt }))
      (at_terminal (Holds Q) m.LeftBracket ts (λ r. call_at (deeper_of c d) f r) (Ok (Column f, ts))
      (λ r e. subst (λ z. Holds (IsRead 0 d (name_kind f ∷ z)) (call_at (deeper_of c d) f r)) (sym e) (call_holds d f r lower))
      (record { parts = refl; levelled = tt; tight = omega arith; fits = tt }))

  -- ---- CASE and brackets

  pub arm_holds : (d : ℕ) (item : Parser Tree) (ts : Kinds) → Whole d item → Holds (IsPart arm_onto (GoodArm d) ts) (arm_at item ts)
  unfolding arm_at
  arm_holds d item ts op =
      let Q : (Tree × Tree) × Kinds → Type 0 = IsPart arm_onto (GoodArm d) ts in
      then_holds (IsPart onto (Good d) ts) Q (item ts) (λ a. expect m.Then a.1 >>= λ r. item r >>= λ b. Ok ((a.0, b.0), b.1)) (op ts) (λ a i.
      past_terminal Q m.Then a.1 (λ r. item r >>= λ b. Ok ((a.0, b.0), b.1)) (λ r e.
      then_holds (IsPart onto (Good d) r) Q (item r) (λ b. Ok ((a.0, b.0), b.1)) (op r) (λ b j.
      record { parts = i.parts ∙ ap (onto a.0) (e ∙ ap (λ (z : Kinds). m.Then ▸ z) j.parts); good = ((i.good.0, j.good.0), (i.good.1, j.good.1)) })))

  abbrev pub GoodElse : ℕ → Otherwise → Type 0
  GoodElse d other = ElseLevelled other × ElseFits c d other

  pub else_holds : (d : ℕ) (item : Parser Tree) (ts : Kinds) → Whole d item → Holds (IsPart else_onto (GoodElse d) ts) (else_at item ts)
  unfolding else_at
  else_holds d item ts op =
      let Q : Otherwise × Kinds → Type 0 = IsPart else_onto (GoodElse d) ts in
      at_terminal (Holds Q) m.Else ts (λ r. item r >>= λ a. Ok (or_else a.0, a.1)) (Ok (no_else, ts))
      (λ r e. then_holds (IsPart onto (Good d) r) Q (item r) (λ a. Ok (or_else a.0, a.1)) (op r) (λ a i. record { parts = e ∙ ap (λ (z : Kinds). m.Else ▸ z) i.parts; good = i.good }))
      (record { parts = refl; good = (tt, tt) })

  case_is : (k : ℕ) (ts us mid rest : Kinds) (xs : List (Tree × Tree)) (other : Otherwise) → ts ≡ m.When ▸ us → IsListed m.When arm_onto (GoodArm k) us xs mid → mid ≡ else_onto other (m.End ▸ rest) → GoodElse k other → IsRead 0 (suc k) (m.Case ▸ ts) (Case (arms_of xs) other, rest)
  case_is k ts us mid rest [] other e h f g = absurd h
  case_is k ts us mid rest (a ∷ xs) other e h f g = record { parts = ap (λ (z : Kinds). m.Case ▸ z) (e ∙ ap (λ (z : Kinds). m.When ▸ z) (h.0 ∙ ap (arm_onto a) (arms_spelled xs mid ∙ ap (arms_onto (arms_of xs)) f))); levelled = (tt, (h.1.0.0, h.1.0.1, arms_levelled k xs h.2), g.0); tight = omega arith; fits = ((h.1.1.0, h.1.1.1, arms_fit k xs h.2), g.1) }

  case_holds : (k : ℕ) (ts : Kinds) → Sound k → Holds (IsRead 0 (suc k) (m.Case ▸ ts)) (case_at (levels c (deeper_of c k) 8) ts)
  unfolding case_at
  case_holds k ts sound =
      let p : Parser Tree = levels c (deeper_of c k) 8 in
      let whole : Whole k p = whole_expression k sound in
      let Q : Tree × Kinds → Type 0 = IsRead 0 (suc k) (m.Case ▸ ts) in
      past_terminal Q m.When ts (λ r. list_at m.When (arm_at p) r >>= λ arms. else_at p arms.1 >>= λ other. expect m.End other.1 >>= λ r. Ok (Case (arms_of arms.0) other.0, r)) (λ us e.
      then_holds (λ y. IsListed m.When arm_onto (GoodArm k) us y.0 y.1) Q (list_at m.When (arm_at p) us) (λ arms. else_at p arms.1 >>= λ other. expect m.End other.1 >>= λ r. Ok (Case (arms_of arms.0) other.0, r)) (list_holds m.When arm_onto (GoodArm k) (arm_at p) us (λ vs. arm_holds k p vs whole)) (λ arms h.
      then_holds (IsPart else_onto (GoodElse k) arms.1) Q (else_at p arms.1) (λ other. expect m.End other.1 >>= λ r. Ok (Case (arms_of arms.0) other.0, r)) (else_holds k p arms.1 whole) (λ other j.
      past_terminal Q m.End other.1 (λ r. Ok (Case (arms_of arms.0) other.0, r)) (λ q l.
      case_is k ts us arms.1 q arms.0 other.0 e h (j.parts ∙ ap (else_onto other.0) l) j.good))))

  bracket_holds : (k : ℕ) (ts : Kinds) → Sound k → Holds (IsRead 0 (suc k) (m.LeftBracket ▸ ts)) (bracket_at (levels c (deeper_of c k) 8) ts)
  unfolding bracket_at
  bracket_holds k ts sound =
      let p : Parser Tree = levels c (deeper_of c k) 8 in
      let Q : Tree × Kinds → Type 0 = IsRead 0 (suc k) (m.LeftBracket ▸ ts) in
      then_holds (IsRead 8 k ts) Q (p ts) (λ a. expect m.RightBracket a.1 >>= λ r. Ok (Bracket a.0, r)) (sound 8 ts) (λ a i.
      past_terminal Q m.RightBracket a.1 (λ r. Ok (Bracket a.0, r)) (λ q l.
      record { parts = ap (λ (z : Kinds). m.LeftBracket ▸ z) (i.parts ∙ ap (onto a.0) l); levelled = i.levelled; tight = omega arith; fits = i.fits }))

  -- ---- from height to height

  primary_by_terminal_holds : (d : ℕ) (x : Terminal) (ts : Kinds) → Within d → Holds (IsRead 0 d (x ▸ ts)) (primary_by_terminal (deeper_of c d) x ts)
  primary_by_terminal_holds d m.True ts lower = record { parts = refl; levelled = tt; tight = omega arith; fits = tt }
  primary_by_terminal_holds d m.False ts lower = record { parts = refl; levelled = tt; tight = omega arith; fits = tt }
  primary_by_terminal_holds d m.Null ts lower = record { parts = refl; levelled = tt; tight = omega arith; fits = tt }
  primary_by_terminal_holds d m.LeftBracket ts lower = enter_holds (suc (length ts)) (λ j. IsRead 0 j (m.LeftBracket ▸ ts)) (λ p. bracket_at (p 8) ts) (λ k. bracket_holds k ts) d lower
  primary_by_terminal_holds d m.Case ts lower = enter_holds (suc (length ts)) (λ j. IsRead 0 j (m.Case ▸ ts)) (λ p. case_at (p 8) ts) (λ k. case_holds k ts) d lower
  primary_by_terminal_holds d _ ts lower = tt

  primary_holds : (d : ℕ) (ts : Kinds) → Within d → Holds (IsRead 0 d ts) (primary (deeper_of c d) ts)
  unfolding primary
  primary_holds d [] lower = tt
  primary_holds d (t.Number n ∷ ts) lower = record { parts = refl; levelled = tt; tight = omega arith; fits = tt }
  primary_holds d (t.Literal text ∷ ts) lower = record { parts = refl; levelled = tt; tight = omega arith; fits = tt }
  primary_holds d (t.Word text ∷ ts) lower = named_holds d (record { text = text; quoted = false }) ts lower
  primary_holds d (t.Quoted text ∷ ts) lower = named_holds d (record { text = text; quoted = true }) ts lower
  primary_holds d (t.Terminal x ∷ ts) lower = primary_by_terminal_holds d x ts lower

  signed_holds : (d : ℕ) (ts : Kinds) (o : Option (Sign × Kinds)) (p : Parser Tree) → Within d → Operand 0 d p → Kept (λ y. ts ≡ sign_terminal y.0 ▸ y.1) o → Holds (IsRead 1 d ts) (signed_by o (deeper_of c d) p ts)
  signed_holds d ts None p lower op k = looser 0 d ts (p ts) (op ts)
  signed_holds d ts (Some x) p lower op k =
      enter_holds (length ts) (λ j. IsRead 1 j ts) (λ p. p 1 x.1 >>= λ a. Ok (Signed x.0 a.0, a.1)) (λ k' sound.
      then_holds (IsRead 1 k' x.1) (IsRead 1 (suc k') ts) (levels c (deeper_of c k') 1 x.1) (λ a. Ok (Signed x.0 a.0, a.1)) (sound 1 x.1) (λ a i. record { parts = k ∙ ap (λ (z : Kinds). sign_terminal x.0 ▸ z) i.parts; levelled = (i.levelled, i.tight); tight = omega arith; fits = i.fits })) d lower

  negated_holds : (d : ℕ) (ts : Kinds) (p : Parser Tree) → Within d → Operand 5 d p → Holds (IsRead 6 d ts) (choose (eat m.Not ts) (λ r. enter (length ts) (deeper_of c d) (λ p. p 6 r >>= λ a. Ok (Negated a.0, a.1))) (p ts))
  negated_holds d ts p lower op =
      at_terminal (Holds (IsRead 6 d ts)) m.Not ts (λ r. enter (length ts) (deeper_of c d) (λ p. p 6 r >>= λ a. Ok (Negated a.0, a.1))) (p ts)
      (λ r e. enter_holds (length ts) (λ j. IsRead 6 j ts) (λ p. p 6 r >>= λ a. Ok (Negated a.0, a.1)) (λ k sound.
      then_holds (IsRead 6 k r) (IsRead 6 (suc k) ts) (levels c (deeper_of c k) 6 r) (λ a. Ok (Negated a.0, a.1)) (sound 6 r) (λ a i. record { parts = e ∙ ap (λ (z : Kinds). m.Not ▸ z) i.parts; levelled = (i.levelled, i.tight); tight = omega arith; fits = i.fits })) d lower)
      (looser 5 d ts (p ts) (op ts))

  loop_holds : (g d : ℕ) (ts : Kinds) → 1 ≤ c → g ≢ 0 → g ≢ 5 → Operand g d (levels c (deeper_of c d) g) → Holds (IsRead (suc g) d ts) (levels c (deeper_of c d) (suc g) ts)
  loop_holds g d ts one n0 n5 op =
      let p : Parser Tree = levels c (deeper_of c d) g in
      subst (Holds (IsRead (suc g) d ts)) (sym (operand_first c g d ts n0 n5))
      (then_holds (IsRead g d ts) (IsRead (suc g) d ts) (p ts) (λ x. goes_on g p c x.0 x.1) (op ts) (λ x i.
      subst (λ z. Holds (IsRead (suc g) d z) (goes_on g p c x.0 x.1)) (sym i.parts) (goes_hold g d p x.0 x.1 one op (record { parts = refl; levelled = i.levelled; tight = i.tight; fits = i.fits }))))

  levels_hold : (d : ℕ) → 1 ≤ c → Within d → Sound d
  unfolding levels
  levels_hold d one lower zero ts = primary_holds d ts lower
  levels_hold d one lower (suc zero) ts = signed_holds d ts (sign_at ts) (levels c (deeper_of c d) 0) lower (λ us. levels_hold d one lower zero us) (sign_is ts)
  levels_hold d one lower (suc (suc (suc (suc (suc (suc zero)))))) ts = negated_holds d ts (levels c (deeper_of c d) 5) lower (λ us. levels_hold d one lower (suc (suc (suc (suc (suc zero))))) us)
  levels_hold d one lower (suc g) ts = loop_holds g d ts one (omega arith) (omega arith) (λ us. levels_hold d one lower g us)

  pub sound : (d : ℕ) → 1 ≤ c → Sound d
  sound zero one = levels_hold zero one tt
  sound (suc d) one = levels_hold (suc d) one (sound d one)

  pub within : (d : ℕ) → 1 ≤ c → Within d
  within zero one = tt
  within (suc d) one = sound d one
