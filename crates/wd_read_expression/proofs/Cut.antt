-- Where reading an expression passes a limit, some tree with the same front passes it at the same token.
use Rattle.std.proofs.Common.{◌≡◌, ◌≢◌, ℕ, zero, suc, ◌+◌, ◌≤◌, ◌⊎◌, inl, inr, true, false, List, [], ◌∷◌, length, Option, Some, None, Result, Ok, Err, refl, sym, ap, subst, ◌∙◌, arith, ⊎_elim}
use Rattle.wd_lex.specs.declared.token.Terminal.{Terminal}
use Rattle.wd_lex.specs.declared.token.Terminal.TheVariants as m
use Rattle.wd_lex.specs.declared.token.TokenKind.{TokenKind}
use Rattle.wd_lex.specs.declared.token.TokenKind.TheVariants as t
use Rattle.wd_read_cursor.specs.declared.name.Name.{Name}
use Rattle.wd_syntax.specs.declared.expression.Operator.{Operator}
use Rattle.wd_syntax.specs.declared.expression.Sign.{Sign}
use Rattle.wd_syntax.specs.declared.expression.Literal.TheVariants as l
use Rattle.wd_read_cursor.specs.Tokens.{Kinds, ◌▸◌, name_kind}
use Rattle.wd_syntax.specs.Tokens.{operator_terminal, sign_terminal, operator_height}
use Rattle.wd_syntax.specs.Tree.{Tree, Constant, Column, Qualified, CallAll, Call, Case, Bracket, Signed, Binary, IsNull, Negated, Trees, no_trees, more_trees, no_arms, more_arms, Otherwise, no_else, or_else, no_over, over_name, over_window, WindowTree, window, no_keys, Key, trees_of, arms_of, keys_of, Each}
use Rattle.wd_syntax.specs.Spelling.{direction_onto, nulls_onto, not_onto, base_onto, onto, list_onto, more_onto, arms_onto, else_onto, over_onto, window_onto, partition_onto, order_onto}
use Rattle.wd_syntax.specs.Levels.{height, left_height, IsLevelled, AreLevelled, ArmsLevelled, ElseLevelled, OverLevelled, WindowLevelled, KeysLevelled}
use Rattle.wd_syntax.specs.Limits.{operators}
use Rattle.wd_read_expression.proofs.Fitting.{Fits}
use Rattle.wd_read_cursor.specs.Cursor.{Fault, Unexpected, Limit, ◌>>=◌, Reads, Parser, Chance, choose, eat, expect, name_at, if_begun, many, after, list_at}
use Rattle.wd_read_expression.specs.Reading.{operator_at, sign_at, frame_at, direction_at, nulls_at, key_at, partition_at, order_at, base_at, window_at, link, ended, links, compared, null_at, tests, arguments_at, call_of, enter, over_at, call_at, named_at, arm_at, else_at, case_at, bracket_at, primary_by_terminal, primary, signed_by, goes_on, levels, deeper_of}
use Rattle.std.proofs.Common.{◌++◌}
use Rattle.wd_read_expression.proofs.Passing.{Passes, OnePasses, ArmPasses, ElsePasses, OverPasses, WindowPasses, KeyPasses}
use Rattle.wd_read_cursor.proofs.Eaten.{eqb-same}
use Rattle.wd_read_expression.proofs.Complete.{operand_first, operators_zero}
use Rattle.wd_read_expression.proofs.SoundPieces.{Kept, Holds, MayHold, at_terminal, IsPart, all_onto, led_by, after_holds, list_holds, expect_holds, base_is, IsListed}
use Rattle.wd_read_expression.proofs.Sound.{left_chain, key_onto, arm_onto, trees_spelled, keys_spelled, arms_spelled, null_is, operator_at_is, IsOperator, sign_is, IsRead, Sound, Within, whole_expression, Good, Whole, GoodKey, GoodArm, GoodTrees, GoodKeys, arguments_closed, trees_onto, keys_row_onto, key_holds, arm_holds, partition_holds, order_holds, arguments_below, ArgumentsBelow, each_left, sound}
use Rattle.wd_read_expression.proofs.CutPieces.{CutBy, MayCut, then_cuts, expect_cuts, name_cuts, on_cuts, frame_cuts, nulls_cuts, null_cuts, IsPre, pre_then, pre_tree, pre_list, pre_arms, pre_partition, pre_key, pre_arm, pre_base}

-- A tree with the same front as the tokens up to and with the refused one, at which it passes a limit.
pub record IsCut {A : Type 0} (one : A → Kinds → Kinds) (Good : A → Type 0) (passes : A → Kinds → Kinds → Type 0) (ts : Kinds) (left : ℕ) : Type 0 where
  pub token : TokenKind
  pub more : Kinds
  pub tree : A
  pub good : Good tree
  pub counted : suc (length more) ≡ left
  pub found : (us : Kinds) → (front : Kinds) × (following : Kinds) × (ts ≡ front ++ token ∷ more) × (one tree us ≡ front ++ token ∷ following) × passes tree us (token ∷ following)

-- a part of a greater tree
pub cut_step : {A B : Type 0} (one : A → Kinds → Kinds) (Good : A → Type 0) (passes : A → Kinds → Kinds → Type 0) (ts : Kinds) (one' : B → Kinds → Kinds) (Good' : B → Type 0) (passes' : B → Kinds → Kinds → Type 0) (ts' : Kinds) (pre : Kinds → Kinds) (g : A → B) (next : A → Kinds → Kinds) → IsPre pre → ts' ≡ pre ts → ((a : A) → Good a → Good' (g a)) → ((a : A) (us : Kinds) → Good a → one' (g a) us ≡ pre (one a (next a us))) → ((a : A) (us rest : Kinds) → Good a → passes a (next a us) rest → passes' (g a) us rest) → (left : ℕ) → IsCut one Good passes ts left → IsCut one' Good' passes' ts' left
cut_step one Good passes ts one' Good' passes' ts' pre g next hp e hg ho hs left i = record {
  token = i.token;
  more = i.more;
  tree = g i.tree;
  good = hg i.tree i.good;
  counted = i.counted;
  found = λ us. let y = i.found (next i.tree us) in (pre y.0, y.1, e ∙ ap pre y.2 ∙ hp y.0 (i.token ∷ i.more), ho i.tree us i.good ∙ ap pre y.3 ∙ hp y.0 (i.token ∷ y.1), hs i.tree us (i.token ∷ y.1) i.good y.4);
}

-- the refused token itself
pub cut_here : {A : Type 0} (one : A → Kinds → Kinds) (Good : A → Type 0) (passes : A → Kinds → Kinds → Type 0) (ts : Kinds) (pre : Kinds → Kinds) (token : TokenKind) (more : Kinds) (tree : A) (following : Kinds → Kinds) (left : ℕ) → IsPre pre → Good tree → ts ≡ pre (token ∷ more) → suc (length more) ≡ left → ((us : Kinds) → one tree us ≡ pre (token ∷ following us)) → ((us : Kinds) → passes tree us (token ∷ following us)) → IsCut one Good passes ts left
cut_here one Good passes ts pre token more tree following left hp g e l ho hs = record {
  token = token;
  more = more;
  tree = tree;
  good = g;
  counted = l;
  found = λ us. (pre [], following us, e ∙ hp [] (token ∷ more), ho us ∙ hp [] (token ∷ following us), hs us);
}

pre_none : IsPre (λ z. z)
pre_none ts us = refl

pub pre_kind : (x : TokenKind) → IsPre (λ z. x ∷ z)
pre_kind x ts us = refl

-- ---- lists

-- one of the items passes
abbrev pub SomePasses : {A : Type 0} → (A → Kinds → Kinds) → (A → Kinds → Kinds → Type 0) → List A → Kinds → Kinds → Type 0
SomePasses one passes [] us rest = ⊥
SomePasses one passes (a ∷ xs) us rest = passes a (all_onto one xs us) rest ⊎ SomePasses one passes xs us rest

pub all_things : {B : Type 0} (r : Result B Fault) → Holds (λ z. Unit {0}) r
all_things (Ok z) = tt
all_things (Err e) = tt

many_cut_begun : {A : Type 0} (one : A → Kinds → Kinds) (Good : A → Type 0) (GoodS : A → Type 0) (passes : A → Kinds → Kinds → Type 0) (item : Chance A) (n : ℕ) (ts : Kinds) (o : Option (Reads A)) → ((a : A) → IsPre (one a)) → ((a : A) → GoodS a → Good a) → MayCut (IsCut one Good passes ts) o → MayHold (IsPart one GoodS ts) o → ((us : Kinds) → CutBy (IsCut (all_onto one) (Each Good) (SomePasses one passes) us) (many item n us)) → CutBy (IsCut (all_onto one) (Each Good) (SomePasses one passes) ts) (if_begun o ts (λ a. many item n a.1 >>= λ xs. Ok (a.0 ∷ xs.0, xs.1)))
many_cut_begun one Good GoodS passes item n ts None hp hg k h next = tt
many_cut_begun {A} one Good GoodS passes item n ts (Some r) hp hg k h next =
    let L : ℕ → Type 0 = IsCut (all_onto one) (Each Good) (SomePasses one passes) ts in
    then_cuts (IsCut one Good passes ts) L (IsPart one GoodS ts) r (λ a. many item n a.1 >>= λ xs. Ok (a.0 ∷ xs.0, xs.1)) k h
    (cut_step one Good passes ts (all_onto one) (Each Good) (SomePasses one passes) ts (λ z. z) (λ a. a ∷ []) (λ a us. us) pre_none refl (λ a g. (g, tt)) (λ a us g. refl) (λ a us rest g s. inl s))
    (λ x i. then_cuts (IsCut (all_onto one) (Each Good) (SomePasses one passes) x.1) L (λ z. Unit {0}) (many item n x.1) (λ xs. Ok (x.0 ∷ xs.0, xs.1)) (next x.1) (all_things (many item n x.1))
    (cut_step (all_onto one) (Each Good) (SomePasses one passes) x.1 (all_onto one) (Each Good) (SomePasses one passes) ts (one x.0) (λ xs. x.0 ∷ xs) (λ xs us. us) (hp x.0) i.parts (λ xs g. (hg x.0 i.good, g)) (λ xs us g. refl) (λ xs us rest g s. inr s))
    (λ z u. tt))

pub many_cut : {A : Type 0} (one : A → Kinds → Kinds) (Good : A → Type 0) (GoodS : A → Type 0) (passes : A → Kinds → Kinds → Type 0) (item : Chance A) (n : ℕ) (ts : Kinds) → ((a : A) → IsPre (one a)) → ((a : A) → GoodS a → Good a) → ((us : Kinds) → MayCut (IsCut one Good passes us) (item us)) → ((us : Kinds) → MayHold (IsPart one GoodS us) (item us)) → CutBy (IsCut (all_onto one) (Each Good) (SomePasses one passes) ts) (many item n ts)
unfolding many
many_cut one Good GoodS passes item zero ts hp hg k h = tt
many_cut one Good GoodS passes item (suc n) ts hp hg k h = many_cut_begun one Good GoodS passes item n ts (item ts) hp hg (k ts) (h ts) (λ us. many_cut one Good GoodS passes item n us hp hg k h)

-- ---- lists with a terminal between their items

abbrev pub listed : {A : Type 0} → Terminal → (A → Kinds → Kinds) → List A → Kinds → Kinds
listed x one [] us = us
listed x one (a ∷ xs) us = one a (all_onto (led_by x one) xs us)

abbrev pub GoodList : {A : Type 0} → (A → Type 0) → List A → Type 0
GoodList Good [] = ⊥
GoodList Good (a ∷ xs) = Good a × Each Good xs

abbrev pub ListPasses : {A : Type 0} → Terminal → (A → Kinds → Kinds) → (A → Kinds → Kinds → Type 0) → List A → Kinds → Kinds → Type 0
ListPasses x one passes [] us rest = ⊥
ListPasses x one passes (a ∷ xs) us rest = passes a (all_onto (led_by x one) xs us) rest ⊎ SomePasses (led_by x one) passes xs us rest

led_by_cut : {A : Type 0} (x : Terminal) (one : A → Kinds → Kinds) (Good : A → Type 0) (passes : A → Kinds → Kinds → Type 0) (ts r : Kinds) (o : Reads A) → ts ≡ x ▸ r → CutBy (IsCut one Good passes r) o → CutBy (IsCut (led_by x one) Good passes ts) o
led_by_cut x one Good passes ts r (Ok y) e k = tt
led_by_cut x one Good passes ts r (Err (Unexpected left)) e k = tt
led_by_cut x one Good passes ts r (Err (Limit left)) e k = cut_step one Good passes r (led_by x one) Good passes ts (λ z. x ▸ z) (λ a. a) (λ a us. us) (pre_kind (t.Terminal x)) e (λ a g. g) (λ a us g. refl) (λ a us rest g s. s) left k

after_cuts : {A : Type 0} (x : Terminal) (one : A → Kinds → Kinds) (Good : A → Type 0) (passes : A → Kinds → Kinds → Type 0) (item : Parser A) (ts : Kinds) → ((us : Kinds) → CutBy (IsCut one Good passes us) (item us)) → MayCut (IsCut (led_by x one) Good passes ts) (after x item ts)
unfolding after
after_cuts x one Good passes item ts h = at_terminal (MayCut (IsCut (led_by x one) Good passes ts)) x ts (λ r. Some (item r)) None (λ r e. led_by_cut x one Good passes ts r (item r) e (h r)) tt

pub list_cut : {A : Type 0} (x : Terminal) (one : A → Kinds → Kinds) (Good : A → Type 0) (GoodS : A → Type 0) (passes : A → Kinds → Kinds → Type 0) (item : Parser A) (ts : Kinds) → ((a : A) → IsPre (one a)) → ((a : A) → GoodS a → Good a) → ((us : Kinds) → CutBy (IsCut one Good passes us) (item us)) → ((us : Kinds) → Holds (IsPart one GoodS us) (item us)) → CutBy (IsCut (listed x one) (GoodList Good) (ListPasses x one passes) ts) (list_at x item ts)
unfolding list_at
list_cut {A} x one Good GoodS passes item ts hp hg k h =
    let L : ℕ → Type 0 = IsCut (listed x one) (GoodList Good) (ListPasses x one passes) ts in
    then_cuts (IsCut one Good passes ts) L (IsPart one GoodS ts) (item ts) (λ a. many (after x item) (length a.1) a.1 >>= λ xs. Ok (a.0 ∷ xs.0, xs.1)) (k ts) (h ts)
    (cut_step one Good passes ts (listed x one) (GoodList Good) (ListPasses x one passes) ts (λ z. z) (λ a. a ∷ []) (λ a us. us) pre_none refl (λ a g. (g, tt)) (λ a us g. refl) (λ a us rest g s. inl s))
    (λ a i. then_cuts (IsCut (all_onto (led_by x one)) (Each Good) (SomePasses (led_by x one) passes) a.1) L (λ z. Unit {0}) (many (after x item) (length a.1) a.1) (λ xs. Ok (a.0 ∷ xs.0, xs.1))
    (many_cut (led_by x one) Good GoodS passes (after x item) (length a.1) a.1 (λ b. pre_then (λ z. x ▸ z) (one b) (pre_kind (t.Terminal x)) (hp b)) hg (λ us. after_cuts x one Good passes item us k) (λ us. after_holds x one GoodS item us h)) (all_things (many (after x item) (length a.1) a.1))
    (cut_step (all_onto (led_by x one)) (Each Good) (SomePasses (led_by x one) passes) a.1 (listed x one) (GoodList Good) (ListPasses x one passes) ts (one a.0) (λ xs. a.0 ∷ xs) (λ xs us. us) (hp a.0) i.parts (λ xs g. (hg a.0 i.good, g)) (λ xs us g. refl) (λ xs us rest g s. inr s))
    (λ z u. tt))

-- after a terminal that stands there
pub terminal_cuts : {B : Type 0} (L : ℕ → Type 0) (x : Terminal) (ts : Kinds) (f : Kinds → Result B Fault) → ((r : Kinds) → ts ≡ x ▸ r → CutBy L (f r)) → CutBy L (expect x ts >>= f)
unfolding expect
terminal_cuts L x ts f h = then_cuts L L (λ r. ts ≡ x ▸ r) (expect x ts) f (expect_cuts L x ts) (expect_holds x ts) (λ left k. k) h

pub mapped_cuts : {B : Type 0} (K L : ℕ → Type 0) (r : Result B Fault) → CutBy K r → ((left : ℕ) → K left → L left) → CutBy L r
mapped_cuts K L (Ok x) h k = tt
mapped_cuts K L (Err (Unexpected left)) h k = tt
mapped_cuts K L (Err (Limit left)) h k = k left h

-- ---- rows of trees

trees_pass : (c d : ℕ) (xs : List Tree) (us rest : Kinds) → SomePasses (led_by m.Comma onto) (Passes c d) xs us rest → OnePasses c d (trees_of xs) us rest
trees_pass c d [] us rest h = h
trees_pass c d (a ∷ xs) us rest h = ⊎_elim (λ s. inl (subst (λ z. Passes c d a z rest) (trees_spelled xs us) s)) (λ s. inr (trees_pass c d xs us rest s)) h

keys_pass : (c d : ℕ) (xs : List Key) (us rest : Kinds) → SomePasses (led_by m.Comma key_onto) (λ key us rest. Passes c d key.0 (direction_onto key.1 (nulls_onto key.2 us)) rest) xs us rest → KeyPasses c d (keys_of xs) us rest
keys_pass c d [] us rest h = h
keys_pass c d (a ∷ xs) us rest h = ⊎_elim (λ s. inl (subst (λ z. Passes c d a.0 (direction_onto a.1 (nulls_onto a.2 z)) rest) (keys_spelled xs us) s)) (λ s. inr (keys_pass c d xs us rest s)) h

abbrev ArmPass : ℕ → ℕ → Tree × Tree → Kinds → Kinds → Type 0
ArmPass c d arm us rest = Passes c d arm.0 (m.Then ▸ onto arm.1 us) rest ⊎ Passes c d arm.1 us rest

arms_pass : (c d : ℕ) (xs : List (Tree × Tree)) (us rest : Kinds) → SomePasses (led_by m.When arm_onto) (ArmPass c d) xs us rest → ArmPasses c d (arms_of xs) us rest
arms_pass c d [] us rest h = h
arms_pass c d (a ∷ xs) us rest h = ⊎_elim (λ s. inl (subst (λ z. ArmPass c d a z rest) (arms_spelled xs us) s)) (λ s. inr (arms_pass c d xs us rest s)) h

trees_good : (xs : List Tree) → Each IsLevelled xs → AreLevelled (trees_of xs)
trees_good [] h = tt
trees_good (a ∷ xs) h = (h.0, trees_good xs h.1)

keys_good : (xs : List Key) → Each (λ key. IsLevelled key.0) xs → KeysLevelled (keys_of xs)
keys_good [] h = tt
keys_good (a ∷ xs) h = (h.0, keys_good xs h.1)

arms_good : (xs : List (Tree × Tree)) → Each (λ arm. IsLevelled arm.0 × IsLevelled arm.1) xs → ArmsLevelled (arms_of xs)
arms_good [] h = tt
arms_good (a ∷ xs) h = (h.0.0, h.0.1, arms_good xs h.1)

-- NULL, which may stand for each operand
abbrev pub nothing : Tree
nothing = Constant l.Null

module _ (c : ℕ) where
  abbrev Tight : ℕ → Tree → Type 0
  Tight h a = IsLevelled a × (height a ≤ h)

  -- an expression no looser than the height
  abbrev pub TreeCut : ℕ → ℕ → Kinds → ℕ → Type 0
  TreeCut h d ts = IsCut onto (Tight h) (Passes c d) ts

  abbrev pub CutAt : ℕ → Type 0
  CutAt d = (h : ℕ) (ts : Kinds) → CutBy (TreeCut h d ts) (levels c (deeper_of c d) h ts)

  abbrev pub WithinCut : ℕ → Type 0
  WithinCut zero = Unit {0}
  WithinCut (suc k) = CutAt k

  pub enter_cuts : {A : Type 0} (left : ℕ) (K : ℕ → ℕ → Type 0) (f : (ℕ → Parser Tree) → Result A Fault) → K 0 left → ((k : ℕ) → CutAt k → Sound c k → CutBy (K (suc k)) (f (levels c (deeper_of c k)))) → (d : ℕ) → WithinCut d → Within c d → CutBy (K d) (enter left (deeper_of c d) f)
  unfolding deeper_of
  enter_cuts left K f h n zero cut lower = h
  enter_cuts left K f h n (suc k) cut lower = n k cut lower

  tree_looser : (g d : ℕ) (ts : Kinds) (left : ℕ) → TreeCut g d ts left → TreeCut (suc g) d ts left
  tree_looser g d ts left i = cut_step onto (Tight g) (Passes c d) ts onto (Tight (suc g)) (Passes c d) ts (λ z. z) (λ a. a) (λ a us. us) pre_none refl (λ a t. (t.0, omega (arith, t.1))) (λ a us t. refl) (λ a us rest t s. s) left i

  cuts_looser : (g d : ℕ) (ts : Kinds) (r : Reads Tree) → CutBy (TreeCut g d ts) r → CutBy (TreeCut (suc g) d ts) r
  cuts_looser g d ts (Ok x) i = tt
  cuts_looser g d ts (Err (Unexpected left)) i = tt
  cuts_looser g d ts (Err (Limit left)) i = tree_looser g d ts left i

  -- ---- chains

  operators_more : (o : Operator) (a b : Tree) (h : ℕ) → operator_height o ≡ h → operators (operator_height o) (Binary o a b) ≡ suc (operators h a)
  operators_more o a b h e = let q : operators (operator_height o) (Binary o a b) ≡ suc (operators (operator_height o) a) = rw (eqb-same (operator_height o)) refl in q ∙ ap (λ k. suc (operators k a)) e

  -- the operator after the last that may stand
  ended_cuts : (g d : ℕ) (o : Option (Operator × Kinds)) (a : Tree) (ts : Kinds) → g ≢ 3 → g ≢ 0 → operators (suc g) a ≡ c → IsLevelled a → height a ≤ suc g → Kept (IsOperator (suc g) ts) o → CutBy (TreeCut (suc g) d (onto a ts)) (ended o a ts)
  ended_cuts g d None a ts n3 n0 e wl le k = tt
  ended_cuts g d (Some x) a ts n3 n0 e wl le k =
      let left = left_chain c x.0 (suc g) k.1 (omega arith) in
      cut_here onto (Tight (suc g)) (Passes c d) (onto a ts) (onto a) (t.Terminal (operator_terminal x.0)) x.1 (Binary x.0 a nothing) (λ us. t.Terminal m.Null ∷ us) (length ts) (pre_tree a) ((wl, omega (arith, left), tt, omega (arith, k.1)), omega (arith, k.1)) (ap (onto a) k.0) (sym (ap length k.0)) (λ us. refl) (λ us. inr (inr (operators_more x.0 a nothing (suc g) k.1 ∙ ap suc e, refl)))

  link_cuts : (g h d : ℕ) (a : Tree) (ts : Kinds) (p : Parser Tree) (next : Tree → Parser Tree) (o : Option (Operator × Kinds)) → ((us : Kinds) → CutBy (TreeCut g d us) (p us)) → ((us : Kinds) → Holds (IsRead c g d us) (p us)) → IsLevelled a → ((o : Operator) → operator_height o ≡ suc g → height a ≤ left_height o) → suc g ≤ h → Kept (IsOperator (suc g) ts) o → ((o : Operator) (b : Tree) (rest : Kinds) → operator_height o ≡ suc g → ts ≡ operator_terminal o ▸ onto b rest → IsLevelled b → height b ≤ g → CutBy (TreeCut h d (onto a ts)) (next (Binary o a b) rest)) → CutBy (TreeCut h d (onto a ts)) (link o p a ts next)
  link_cuts g h d a ts p next None cut op wl lf le k n = tt
  link_cuts g h d a ts p next (Some x) cut op wl lf le k n =
      then_cuts (TreeCut g d x.1) (TreeCut h d (onto a ts)) (IsRead c g d x.1) (p x.1) (λ b. next (Binary x.0 a b.0) b.1) (cut x.1) (op x.1)
      (cut_step onto (Tight g) (Passes c d) x.1 onto (Tight h) (Passes c d) (onto a ts) (λ z. onto a (operator_terminal x.0 ▸ z)) (λ b. Binary x.0 a b) (λ b us. us) (pre_then (onto a) (λ z. operator_terminal x.0 ▸ z) (pre_tree a) (pre_kind (t.Terminal (operator_terminal x.0)))) (ap (onto a) k.0) (λ b t. ((wl, lf x.0 k.1, t.0, omega (arith, t.1, k.1)), omega (arith, k.1))) (λ b us t. refl) (λ b us rest t s. inr (inl s)))
      (λ b j. n x.0 b.0 b.1 k.1 (k.0 ∙ ap (λ (z : Kinds). operator_terminal x.0 ▸ z) j.parts) j.levelled j.tight)

  links_cut : (g d n : ℕ) (p : Parser Tree) (a : Tree) (ts : Kinds) → g ≢ 3 → g ≢ 0 → ((us : Kinds) → CutBy (TreeCut g d us) (p us)) → ((us : Kinds) → Holds (IsRead c g d us) (p us)) → n + operators (suc g) a ≡ c → IsLevelled a → height a ≤ suc g → CutBy (TreeCut (suc g) d (onto a ts)) (links p (suc g) n a ts)
  unfolding links
  links_cut g d zero p a ts n3 n0 cut op e wl le = ended_cuts g d (operator_at (suc g) ts) a ts n3 n0 (omega arith) wl le (operator_at_is (suc g) ts)
  links_cut g d (suc n) p a ts n3 n0 cut op e wl le =
      link_cuts g (suc g) d a ts p (λ b. links p (suc g) n b) (operator_at (suc g) ts) cut op wl (λ o eo. omega (arith, left_chain c o (suc g) eo (omega arith))) (omega arith) (operator_at_is (suc g) ts) (λ o b rest eo et wb lb.
      let more : operators (suc g) (Binary o a b) ≡ suc (operators (suc g) a) = subst (λ k. operators k (Binary o a b) ≡ suc (operators (suc g) a)) eo (operators_more o a b (suc g) eo) in
      let left = left_chain c o (suc g) eo (omega arith) in
      subst (λ z. CutBy (TreeCut (suc g) d z) (links p (suc g) n (Binary o a b) rest)) (sym (ap (onto a) et)) (links_cut g d n p (Binary o a b) rest n3 n0 cut op (omega (arith, more)) (wl, omega (arith, left), wb, omega (arith, eo, lb)) (omega (arith, eo))))

  compared_cuts : (d : ℕ) (p : Parser Tree) (a : Tree) (ts : Kinds) → ((us : Kinds) → CutBy (TreeCut 3 d us) (p us)) → ((us : Kinds) → Holds (IsRead c 3 d us) (p us)) → IsLevelled a → height a ≤ 3 → CutBy (TreeCut 4 d (onto a ts)) (compared p a ts)
  unfolding compared
  compared_cuts d p a ts cut op wl le =
      link_cuts 3 4 d a ts p (λ b r. Ok (b, r)) (operator_at 4 ts) cut op wl (λ o eo. let left : left_height o ≡ 3 = rw eo refl in omega (arith, left)) (omega arith) (operator_at_is 4 ts) (λ o b rest eo et wb lb. tt)

  tests_cut : (d n : ℕ) (a : Tree) (ts : Kinds) → n + operators 5 a ≡ c → IsLevelled a → height a ≤ 5 → CutBy (TreeCut 5 d (onto a ts)) (tests n a ts)
  unfolding tests
  tests_cut d zero a ts e wl le =
      at_terminal (CutBy (TreeCut 5 d (onto a ts))) m.Is ts (λ r. Err (Limit (length ts))) (Ok (a, ts))
      (λ r k. cut_here onto (Tight 5) (Passes c d) (onto a ts) (onto a) (t.Terminal m.Is) r (IsNull a false) (λ us. t.Terminal m.Null ∷ us) (length ts) (pre_tree a) ((wl, le), omega arith) (ap (onto a) k) (sym (ap length k)) (λ us. refl) (λ us. inr (let q : operators 5 a ≡ c = omega arith in ap suc q, refl)))
      tt
  tests_cut d (suc n) a ts e wl le =
      at_terminal (CutBy (TreeCut 5 d (onto a ts))) m.Is ts (λ r. null_at r >>= λ x. tests n (IsNull a x.0) x.1) (Ok (a, ts))
      (λ r k. then_cuts (TreeCut 5 d (onto a ts)) (TreeCut 5 d (onto a ts)) (λ x. r ≡ not_onto x.0 (m.Null ▸ x.1)) (null_at r) (λ x. tests n (IsNull a x.0) x.1) (null_cuts (TreeCut 5 d (onto a ts)) r) (null_is r) (λ left i. i) (λ x q.
      subst (λ z. CutBy (TreeCut 5 d z) (tests n (IsNull a x.0) x.1)) (sym (ap (onto a) (k ∙ ap (λ (z : Kinds). m.Is ▸ z) q))) (tests_cut d n (IsNull a x.0) x.1 (omega arith) (wl, le) (omega arith))))
      tt

  goes_cut : (g d : ℕ) (p : Parser Tree) (a : Tree) (ts : Kinds) → g ≢ 0 → ((us : Kinds) → CutBy (TreeCut g d us) (p us)) → ((us : Kinds) → Holds (IsRead c g d us) (p us)) → IsLevelled a → height a ≤ g → CutBy (TreeCut (suc g) d (onto a ts)) (goes_on g p c a ts)
  goes_cut (suc (suc (suc zero))) d p a ts n0 cut op wl le = compared_cuts d p a ts cut op wl le
  goes_cut (suc (suc (suc (suc zero)))) d p a ts n0 cut op wl le = tests_cut d c a ts (omega (arith, operators_zero c a 5 (omega arith))) wl (omega arith)
  goes_cut zero d p a ts n0 cut op wl le = absurd (n0 refl)
  goes_cut (suc zero) d p a ts n0 cut op wl le = links_cut 1 d c p a ts (omega arith) n0 cut op (omega (arith, operators_zero c a 2 (omega arith))) wl (omega arith)
  goes_cut (suc (suc zero)) d p a ts n0 cut op wl le = links_cut 2 d c p a ts (omega arith) n0 cut op (omega (arith, operators_zero c a 3 (omega arith))) wl (omega arith)
  goes_cut (suc (suc (suc (suc (suc g))))) d p a ts n0 cut op wl le = links_cut (suc (suc (suc (suc (suc g))))) d c p a ts (omega arith) n0 cut op (omega (arith, operators_zero c a (suc (suc (suc (suc (suc (suc g)))))) (omega arith))) wl (omega arith)

  -- ---- windows

  cuts_levelled : (d : ℕ) (ts : Kinds) (r : Reads Tree) → CutBy (TreeCut 8 d ts) r → CutBy (IsCut onto IsLevelled (Passes c d) ts) r
  cuts_levelled d ts (Ok x) i = tt
  cuts_levelled d ts (Err (Unexpected left)) i = tt
  cuts_levelled d ts (Err (Limit left)) i = cut_step onto (Tight 8) (Passes c d) ts onto IsLevelled (Passes c d) ts (λ z. z) (λ a. a) (λ a us. us) pre_none refl (λ a t. t.0) (λ a us t. refl) (λ a us rest t s. s) left i

  abbrev pub WholeCut : ℕ → Parser Tree → Type 0
  WholeCut d item = (ts : Kinds) → CutBy (IsCut onto IsLevelled (Passes c d) ts) (item ts)

  pub whole_cut : (d : ℕ) → CutAt d → WholeCut d (levels c (deeper_of c d) 8)
  whole_cut d cut ts = cuts_levelled d ts (levels c (deeper_of c d) 8 ts) (cut 8 ts)

  abbrev KeyPass : ℕ → Key → Kinds → Kinds → Type 0
  KeyPass d key us rest = Passes c d key.0 (direction_onto key.1 (nulls_onto key.2 us)) rest

  key_cut : (d : ℕ) (item : Parser Tree) (ts : Kinds) → WholeCut d item → Whole c d item → CutBy (IsCut key_onto (λ key. IsLevelled key.0) (KeyPass d) ts) (key_at item ts)
  unfolding key_at
  key_cut d item ts cut op =
      let L : ℕ → Type 0 = IsCut key_onto (λ key. IsLevelled key.0) (KeyPass d) ts in
      then_cuts (IsCut onto IsLevelled (Passes c d) ts) L (IsPart onto (Good c d) ts) (item ts) (λ a. nulls_at (direction_at a.1).1 >>= λ n. Ok ((a.0, (direction_at a.1).0, n.0), n.1)) (cut ts) (op ts)
      (cut_step onto IsLevelled (Passes c d) ts key_onto (λ key. IsLevelled key.0) (KeyPass d) ts (λ z. z) (λ a. (a, None, None)) (λ a us. us) pre_none refl (λ a g. g) (λ a us g. refl) (λ a us rest g s. s))
      (λ a i. on_cuts L (nulls_at (direction_at a.1).1) (λ n. Ok ((a.0, (direction_at a.1).0, n.0), n.1)) (nulls_cuts L (direction_at a.1).1) (λ n. tt))

  row_good : (xs : List Tree) → GoodList IsLevelled xs → AreLevelled (trees_of xs)
  row_good [] h = absurd h
  row_good (a ∷ xs) h = (h.0, trees_good xs h.1)

  row_spelled : (pre : Kinds → Kinds) (one : Trees → Kinds → Kinds) (close : Kinds → Kinds) → ((a : Tree) (bs : Trees) (us : Kinds) → one (more_trees a bs) us ≡ pre (onto a (more_onto bs (close us)))) → (xs : List Tree) (us : Kinds) → GoodList IsLevelled xs → one (trees_of xs) us ≡ pre (listed m.Comma onto xs (close us))
  row_spelled pre one close ho [] us h = absurd h
  row_spelled pre one close ho (a ∷ xs) us h = ho a (trees_of xs) us ∙ ap (λ (z : Kinds). pre (onto a z)) (sym (trees_spelled xs (close us)))

  row_passes : (d : ℕ) (close : Kinds → Kinds) (xs : List Tree) (us rest : Kinds) → GoodList IsLevelled xs → ListPasses m.Comma onto (Passes c d) xs (close us) rest → OnePasses c d (trees_of xs) (close us) rest
  row_passes d close [] us rest h s = absurd h
  row_passes d close (a ∷ xs) us rest h s = ⊎_elim (λ p. inl (subst (λ z. Passes c d a z rest) (trees_spelled xs (close us)) p)) (λ p. inr (trees_pass c d xs (close us) rest p)) s

  -- a list of expressions, as a row
  trees_row : (d : ℕ) (pre : Kinds → Kinds) (one : Trees → Kinds → Kinds) (close : Kinds → Kinds) (ts ts' : Kinds) → IsPre pre → ts' ≡ pre ts → ((a : Tree) (bs : Trees) (us : Kinds) → one (more_trees a bs) us ≡ pre (onto a (more_onto bs (close us)))) → (left : ℕ) → IsCut (listed m.Comma onto) (GoodList IsLevelled) (ListPasses m.Comma onto (Passes c d)) ts left → IsCut one AreLevelled (λ bs us rest. OnePasses c d bs (close us) rest) ts' left
  trees_row d pre one close ts ts' hp e ho =
      cut_step (listed m.Comma onto) (GoodList IsLevelled) (ListPasses m.Comma onto (Passes c d)) ts one AreLevelled (λ bs us rest. OnePasses c d bs (close us) rest) ts' pre trees_of (λ xs us. close us) hp e row_good (row_spelled pre one close ho) (row_passes d close)

  expr_list : (d : ℕ) (item : Parser Tree) (ts : Kinds) → WholeCut d item → Whole c d item → CutBy (IsCut (listed m.Comma onto) (GoodList IsLevelled) (ListPasses m.Comma onto (Passes c d)) ts) (list_at m.Comma item ts)
  expr_list d item ts cut op = list_cut m.Comma onto IsLevelled (Good c d) (Passes c d) item ts pre_tree (λ a g. g.0) cut op

  key_list : (d : ℕ) (item : Parser Tree) (ts : Kinds) → WholeCut d item → Whole c d item → CutBy (IsCut (listed m.Comma key_onto) (GoodList (λ key. IsLevelled key.0)) (ListPasses m.Comma key_onto (KeyPass d)) ts) (list_at m.Comma (key_at item) ts)
  key_list d item ts cut op = list_cut m.Comma key_onto (λ key. IsLevelled key.0) (GoodKey c d) (KeyPass d) (key_at item) ts pre_key (λ a g. g.0) (λ us. key_cut d item us cut op) (λ us. key_holds c d item us op)

  partition_cut : (d : ℕ) (item : Parser Tree) (ts : Kinds) → WholeCut d item → Whole c d item → CutBy (IsCut partition_onto AreLevelled (OnePasses c d) ts) (partition_at item ts)
  unfolding partition_at
  partition_cut d item ts cut op =
      let L : ℕ → Type 0 = IsCut partition_onto AreLevelled (OnePasses c d) ts in
      at_terminal (CutBy L) m.Partition ts (λ r. expect m.By r >>= λ r. list_at m.Comma item r) (Ok ([], ts))
      (λ r e. terminal_cuts L m.By r (λ r. list_at m.Comma item r) (λ us f.
      mapped_cuts (IsCut (listed m.Comma onto) (GoodList IsLevelled) (ListPasses m.Comma onto (Passes c d)) us) L (list_at m.Comma item us) (expr_list d item us cut op) (trees_row d (λ z. m.Partition ▸ m.By ▸ z) partition_onto (λ z. z) us ts (λ x y. refl) (e ∙ ap (λ (z : Kinds). m.Partition ▸ z) f) (λ a bs us. refl))))
      tt

  abbrev pub OrderCut : ℕ → Kinds → ℕ → Type 0
  OrderCut d ts = IsCut order_onto KeysLevelled (KeyPasses c d) ts

  keys_row_good : (xs : List Key) → GoodList (λ key. IsLevelled key.0) xs → KeysLevelled (keys_of xs)
  keys_row_good [] h = absurd h
  keys_row_good (a ∷ xs) h = (h.0, keys_good xs h.1)

  keys_row_spelled : (xs : List Key) (us : Kinds) → GoodList (λ key. IsLevelled key.0) xs → order_onto (keys_of xs) us ≡ m.Order ▸ m.By ▸ listed m.Comma key_onto xs us
  keys_row_spelled [] us h = absurd h
  keys_row_spelled (a ∷ xs) us h = ap (λ (z : Kinds). m.Order ▸ m.By ▸ key_onto a z) (sym (keys_spelled xs us))

  keys_row_passes : (d : ℕ) (xs : List Key) (us rest : Kinds) → GoodList (λ key. IsLevelled key.0) xs → ListPasses m.Comma key_onto (KeyPass d) xs us rest → KeyPasses c d (keys_of xs) us rest
  keys_row_passes d [] us rest h s = absurd h
  keys_row_passes d (a ∷ xs) us rest h s = ⊎_elim (λ p. inl (subst (λ z. KeyPass d a z rest) (keys_spelled xs us) p)) (λ p. inr (keys_pass c d xs us rest p)) s

  pub order_cut : (d : ℕ) (item : Parser Tree) (ts : Kinds) → WholeCut d item → Whole c d item → CutBy (OrderCut d ts) (order_at item ts)
  unfolding order_at
  order_cut d item ts cut op =
      let L : ℕ → Type 0 = OrderCut d ts in
      at_terminal (CutBy L) m.Order ts (λ r. expect m.By r >>= λ r. list_at m.Comma (key_at item) r) (Ok ([], ts))
      (λ r e. terminal_cuts L m.By r (λ r. list_at m.Comma (key_at item) r) (λ us f.
      mapped_cuts (IsCut (listed m.Comma key_onto) (GoodList (λ key. IsLevelled key.0)) (ListPasses m.Comma key_onto (KeyPass d)) us) L (list_at m.Comma (key_at item) us) (key_list d item us cut op)
      (cut_step (listed m.Comma key_onto) (GoodList (λ key. IsLevelled key.0)) (ListPasses m.Comma key_onto (KeyPass d)) us order_onto KeysLevelled (KeyPasses c d) ts (λ z. m.Order ▸ m.By ▸ z) keys_of (λ xs us. us) (λ x y. refl) (e ∙ ap (λ (z : Kinds). m.Order ▸ z) f) keys_row_good keys_row_spelled (keys_row_passes d))))
      tt

  abbrev window_close : WindowTree → Kinds → Kinds
  window_close w us = window_onto w (m.RightBracket ▸ us)

  abbrev WindowPass : ℕ → WindowTree → Kinds → Kinds → Type 0
  WindowPass d w us rest = WindowPasses c d w (m.RightBracket ▸ us) rest

  abbrev pub WindowCut : ℕ → Kinds → ℕ → Type 0
  WindowCut d ts = IsCut window_close WindowLevelled (WindowPass d) ts

  pub window_cut : (d : ℕ) (item : Parser Tree) (ts : Kinds) → WholeCut d item → Whole c d item → CutBy (WindowCut d ts) (window_at item ts)
  unfolding window_at
  window_cut d item ts cut op =
      let L : ℕ → Type 0 = WindowCut d ts in
      let base : Option Name = (base_at ts).0 in
      let start : Kinds = (base_at ts).1 in
      then_cuts (IsCut partition_onto AreLevelled (OnePasses c d) start) L (IsPart (trees_onto c partition_onto) (GoodTrees c d) start) (partition_at item start) (λ ps. order_at item ps.1 >>= λ ks. frame_at ks.1 >>= λ f. expect m.RightBracket f.1 >>= λ r. Ok (window base (trees_of ps.0) (keys_of ks.0) f.0, r)) (partition_cut d item start cut op) (partition_holds c d item start op)
      (cut_step partition_onto AreLevelled (OnePasses c d) start window_close WindowLevelled (WindowPass d) ts (base_onto base) (λ bs. window base bs no_keys None) (λ bs us. m.RightBracket ▸ us) (pre_base base) (base_is ts) (λ bs g. (g, tt)) (λ bs us g. refl) (λ bs us rest g s. inl s))
      (λ ps i. then_cuts (OrderCut d ps.1) L (IsPart (keys_row_onto c) (GoodKeys c d) ps.1) (order_at item ps.1) (λ ks. frame_at ks.1 >>= λ f. expect m.RightBracket f.1 >>= λ r. Ok (window base (trees_of ps.0) (keys_of ks.0) f.0, r)) (order_cut d item ps.1 cut op) (order_holds c d item ps.1 op)
      (cut_step order_onto KeysLevelled (KeyPasses c d) ps.1 window_close WindowLevelled (WindowPass d) ts (λ z. base_onto base (partition_onto (trees_of ps.0) z)) (λ ks. window base (trees_of ps.0) ks None) (λ ks us. m.RightBracket ▸ us) (pre_then (base_onto base) (partition_onto (trees_of ps.0)) (pre_base base) (pre_partition (trees_of ps.0))) (base_is ts ∙ ap (base_onto base) i.parts) (λ ks g. (i.good.0, g)) (λ ks us g. refl) (λ ks us rest g s. inr s))
      (λ ks j. on_cuts L (frame_at ks.1) (λ f. expect m.RightBracket f.1 >>= λ r. Ok (window base (trees_of ps.0) (keys_of ks.0) f.0, r)) (frame_cuts L ks.1) (λ f. on_cuts L (expect m.RightBracket f.1) (λ r. Ok (window base (trees_of ps.0) (keys_of ks.0) f.0, r)) (expect_cuts L m.RightBracket f.1) (λ r. tt))))

  abbrev pub no_window : WindowTree
  no_window = window None no_trees no_keys None

  -- ---- calls

  abbrev OverCut : ℕ → Kinds → ℕ → Type 0
  OverCut d ts = IsCut over_onto OverLevelled (OverPasses c d) ts

  over_cut : (d : ℕ) (ts : Kinds) → WithinCut d → Within c d → CutBy (OverCut d ts) (over_at (deeper_of c d) ts)
  unfolding over_at
  over_cut d ts cut lower =
      let L : ℕ → ℕ → Type 0 = λ k. OverCut k ts in
      at_terminal (CutBy (L d)) m.Over ts (λ r. choose (eat m.LeftBracket r) (λ q. enter (length r) (deeper_of c d) (λ p. window_at (p 8) q >>= λ w. Ok (over_window w.0, w.1))) (name_at r >>= λ n. Ok (over_name n.0, n.1))) (Ok (no_over, ts))
      (λ r e. at_terminal (CutBy (L d)) m.LeftBracket r (λ q. enter (length r) (deeper_of c d) (λ p. window_at (p 8) q >>= λ w. Ok (over_window w.0, w.1))) (name_at r >>= λ n. Ok (over_name n.0, n.1))
      (λ q f. enter_cuts (length r) L (λ p. window_at (p 8) q >>= λ w. Ok (over_window w.0, w.1))
      (cut_here over_onto OverLevelled (OverPasses c 0) ts (λ z. m.Over ▸ z) (t.Terminal m.LeftBracket) q (over_window no_window) (λ us. m.RightBracket ▸ us) (length r) (pre_kind (t.Terminal m.Over)) (tt, tt) (e ∙ ap (λ (z : Kinds). m.Over ▸ z) f) (sym (ap length f)) (λ us. refl) (λ us. refl))
      (λ k cut sound. then_cuts (WindowCut k q) (L (suc k)) (λ z. Unit {0}) (window_at (levels c (deeper_of c k) 8) q) (λ w. Ok (over_window w.0, w.1)) (window_cut k (levels c (deeper_of c k) 8) q (whole_cut k cut) (whole_expression c k sound)) (all_things (window_at (levels c (deeper_of c k) 8) q))
      (cut_step window_close WindowLevelled (WindowPass k) q over_onto OverLevelled (OverPasses c (suc k)) ts (λ z. m.Over ▸ m.LeftBracket ▸ z) (λ w. over_window w) (λ w us. us) (λ x y. refl) (e ∙ ap (λ (z : Kinds). m.Over ▸ z) f) (λ w g. g) (λ w us g. refl) (λ w us rest g s. s))
      (λ w u. tt)) d cut lower)
      (on_cuts (L d) (name_at r) (λ n. Ok (over_name n.0, n.1)) (name_cuts (L d) r) (λ n. tt)))
      tt

  abbrev arguments_close : Trees → Kinds → Kinds
  arguments_close bs us = list_onto bs (m.RightBracket ▸ us)

  abbrev ArgumentsPass : ℕ → Trees → Kinds → Kinds → Type 0
  ArgumentsPass d bs us rest = OnePasses c d bs (m.RightBracket ▸ us) rest

  arguments_cut : (d : ℕ) (item : Parser Tree) (ts : Kinds) → WholeCut d item → Whole c d item → CutBy (IsCut arguments_close AreLevelled (ArgumentsPass d) ts) (arguments_at item ts)
  unfolding arguments_at
  arguments_cut d item ts cut op =
      let L : ℕ → Type 0 = IsCut arguments_close AreLevelled (ArgumentsPass d) ts in
      at_terminal (CutBy L) m.Star ts (λ r. expect m.RightBracket r >>= λ r. Ok (None, r)) (choose (eat m.RightBracket ts) (λ r. Ok (Some [], r)) (list_at m.Comma item ts >>= λ bs. expect m.RightBracket bs.1 >>= λ r. Ok (Some bs.0, r)))
      (λ r e. on_cuts L (expect m.RightBracket r) (λ r. Ok (None, r)) (expect_cuts L m.RightBracket r) (λ r. tt))
      (at_terminal (CutBy L) m.RightBracket ts (λ r. Ok (Some [], r)) (list_at m.Comma item ts >>= λ bs. expect m.RightBracket bs.1 >>= λ r. Ok (Some bs.0, r)) (λ r e. tt)
      (then_cuts (IsCut (listed m.Comma onto) (GoodList IsLevelled) (ListPasses m.Comma onto (Passes c d)) ts) L (λ z. Unit {0}) (list_at m.Comma item ts) (λ bs. expect m.RightBracket bs.1 >>= λ r. Ok (Some bs.0, r)) (expr_list d item ts cut op) (all_things (list_at m.Comma item ts)) (trees_row d (λ z. z) arguments_close (λ z. m.RightBracket ▸ z) ts ts pre_none refl (λ a bs us. refl))
      (λ bs u. on_cuts L (expect m.RightBracket bs.1) (λ r. Ok (Some bs.0, r)) (expect_cuts L m.RightBracket bs.1) (λ r. tt))))

  abbrev GoodListed : Option (List Tree) → Type 0
  GoodListed None = Unit {0}
  GoodListed (Some xs) = AreLevelled (trees_of xs)

  -- OVER after the arguments
  call_over : (d : ℕ) (f : Name) (ts mid : Kinds) (arguments : Option (List Tree)) → ts ≡ arguments_closed c arguments mid → GoodListed arguments → (left : ℕ) → OverCut d mid left → TreeCut 0 d (name_kind f ∷ (m.LeftBracket ▸ ts)) left
  call_over d f ts mid None e good =
      cut_step over_onto OverLevelled (OverPasses c d) mid onto (Tight 0) (Passes c d) (name_kind f ∷ (m.LeftBracket ▸ ts)) (λ z. name_kind f ∷ (m.LeftBracket ▸ m.Star ▸ m.RightBracket ▸ z)) (λ over. CallAll f over) (λ over us. us) (λ x y. refl) (ap (λ (z : Kinds). name_kind f ∷ (m.LeftBracket ▸ z)) e) (λ over g. (g, omega arith)) (λ over us g. refl) (λ over us rest g s. inr s)
  call_over d f ts mid (Some xs) e good =
      cut_step over_onto OverLevelled (OverPasses c d) mid onto (Tight 0) (Passes c d) (name_kind f ∷ (m.LeftBracket ▸ ts)) (λ z. name_kind f ∷ (m.LeftBracket ▸ list_onto (trees_of xs) (m.RightBracket ▸ z))) (λ over. Call f (trees_of xs) over) (λ over us. us) (pre_then (λ z. name_kind f ∷ (m.LeftBracket ▸ z)) (λ z. list_onto (trees_of xs) (m.RightBracket ▸ z)) (λ x y. refl) (pre_then (list_onto (trees_of xs)) (λ z. m.RightBracket ▸ z) (pre_list (trees_of xs)) (pre_kind (t.Terminal m.RightBracket)))) (ap (λ (z : Kinds). name_kind f ∷ (m.LeftBracket ▸ z)) e) (λ over g. ((good, g), omega arith)) (λ over us g. refl) (λ over us rest g s. inr s)

  arguments_good : (d : ℕ) (arguments : Option (List Tree)) → ArgumentsBelow c d arguments → GoodListed arguments
  arguments_good d None g = tt
  arguments_good d (Some xs) g = g.0

  call_cut : (d : ℕ) (f : Name) (ts : Kinds) → WithinCut d → Within c d → CutBy (TreeCut 0 d (name_kind f ∷ (m.LeftBracket ▸ ts))) (call_at (deeper_of c d) f ts)
  unfolding call_at
  call_cut d f ts cut lower =
      let ts' : Kinds = name_kind f ∷ (m.LeftBracket ▸ ts) in
      then_cuts (TreeCut 0 d ts') (TreeCut 0 d ts') (IsPart (arguments_closed c) (ArgumentsBelow c d) ts) (enter (suc (length ts)) (deeper_of c d) (λ p. arguments_at (p 8) ts)) (λ bs. over_at (deeper_of c d) bs.1 >>= λ over. Ok (call_of f bs.0 over.0, over.1))
      (enter_cuts (suc (length ts)) (λ k. TreeCut 0 k ts') (λ p. arguments_at (p 8) ts)
      (cut_here onto (Tight 0) (Passes c 0) ts' (λ z. name_kind f ∷ z) (t.Terminal m.LeftBracket) ts (CallAll f no_over) (λ us. m.Star ▸ m.RightBracket ▸ us) (suc (length ts)) (pre_kind (name_kind f)) (tt, omega arith) refl refl (λ us. refl) (λ us. inl refl))
      (λ k cut sound. mapped_cuts (IsCut arguments_close AreLevelled (ArgumentsPass k) ts) (TreeCut 0 (suc k) ts') (arguments_at (levels c (deeper_of c k) 8) ts) (arguments_cut k (levels c (deeper_of c k) 8) ts (whole_cut k cut) (whole_expression c k sound))
      (cut_step arguments_close AreLevelled (ArgumentsPass k) ts onto (Tight 0) (Passes c (suc k)) ts' (λ z. name_kind f ∷ (m.LeftBracket ▸ z)) (λ bs. Call f bs no_over) (λ bs us. us) (λ x y. refl) refl (λ bs g. ((g, tt), omega arith)) (λ bs us g. refl) (λ bs us rest g s. inl s))) d cut lower)
      (arguments_below c d ts lower) (λ left i. i)
      (λ bs i. then_cuts (OverCut d bs.1) (TreeCut 0 d ts') (λ z. Unit {0}) (over_at (deeper_of c d) bs.1) (λ over. Ok (call_of f bs.0 over.0, over.1)) (over_cut d bs.1 cut lower) (all_things (over_at (deeper_of c d) bs.1)) (call_over d f ts bs.1 bs.0 i.parts (arguments_good d bs.0 i.good)) (λ over u. tt))

  named_cut : (d : ℕ) (f : Name) (ts : Kinds) → WithinCut d → Within c d → CutBy (TreeCut 0 d (name_kind f ∷ ts)) (named_at (deeper_of c d) f ts)
  unfolding named_at
  named_cut d f ts cut lower =
      let L : ℕ → Type 0 = TreeCut 0 d (name_kind f ∷ ts) in
      at_terminal (CutBy L) m.Dot ts (λ r. name_at r >>= λ b. Ok (Qualified f b.0, b.1)) (choose (eat m.LeftBracket ts) (λ r. call_at (deeper_of c d) f r) (Ok (Column f, ts)))
      (λ r e. on_cuts L (name_at r) (λ b. Ok (Qualified f b.0, b.1)) (name_cuts L r) (λ b. tt))
      (at_terminal (CutBy L) m.LeftBracket ts (λ r. call_at (deeper_of c d) f r) (Ok (Column f, ts)) (λ r e. subst (λ z. CutBy (TreeCut 0 d (name_kind f ∷ z)) (call_at (deeper_of c d) f r)) (sym e) (call_cut d f r cut lower)) tt)

  -- ---- CASE and brackets

  arm_cut : (d : ℕ) (item : Parser Tree) (ts : Kinds) → WholeCut d item → Whole c d item → CutBy (IsCut arm_onto (λ arm. IsLevelled arm.0 × IsLevelled arm.1) (ArmPass c d) ts) (arm_at item ts)
  unfolding arm_at
  arm_cut d item ts cut op =
      let GoodA : Tree × Tree → Type 0 = λ arm. IsLevelled arm.0 × IsLevelled arm.1 in
      let L : ℕ → Type 0 = IsCut arm_onto GoodA (ArmPass c d) ts in
      then_cuts (IsCut onto IsLevelled (Passes c d) ts) L (IsPart onto (Good c d) ts) (item ts) (λ a. expect m.Then a.1 >>= λ r. item r >>= λ b. Ok ((a.0, b.0), b.1)) (cut ts) (op ts)
      (cut_step onto IsLevelled (Passes c d) ts arm_onto GoodA (ArmPass c d) ts (λ z. z) (λ a. (a, nothing)) (λ a us. m.Then ▸ (t.Terminal m.Null ∷ us)) pre_none refl (λ a g. (g, tt)) (λ a us g. refl) (λ a us rest g s. inl s))
      (λ a i. terminal_cuts L m.Then a.1 (λ r. item r >>= λ b. Ok ((a.0, b.0), b.1)) (λ r e.
      then_cuts (IsCut onto IsLevelled (Passes c d) r) L (λ z. Unit {0}) (item r) (λ b. Ok ((a.0, b.0), b.1)) (cut r) (all_things (item r))
      (cut_step onto IsLevelled (Passes c d) r arm_onto GoodA (ArmPass c d) ts (λ z. onto a.0 (m.Then ▸ z)) (λ b. (a.0, b)) (λ b us. us) (pre_then (onto a.0) (λ z. m.Then ▸ z) (pre_tree a.0) (pre_kind (t.Terminal m.Then))) (i.parts ∙ ap (onto a.0) e) (λ b g. (i.good.0, g)) (λ b us g. refl) (λ b us rest g s. inr s))
      (λ b u. tt)))

  abbrev ArmList : ℕ → Kinds → ℕ → Type 0
  ArmList d ts = IsCut (listed m.When arm_onto) (GoodList (λ arm. IsLevelled arm.0 × IsLevelled arm.1)) (ListPasses m.When arm_onto (ArmPass c d)) ts

  case_good : (xs : List (Tree × Tree)) (other : Otherwise) → GoodList (λ arm. IsLevelled arm.0 × IsLevelled arm.1) xs → ElseLevelled other → Tight 0 (Case (arms_of xs) other)
  case_good [] other h o = absurd h
  case_good (a ∷ xs) other h o = ((tt, (h.0.0, h.0.1, arms_good xs h.1), o), omega arith)

  case_spelled : (xs : List (Tree × Tree)) (us : Kinds) → GoodList (λ arm. IsLevelled arm.0 × IsLevelled arm.1) xs → arms_onto (arms_of xs) us ≡ m.When ▸ listed m.When arm_onto xs us
  case_spelled [] us h = absurd h
  case_spelled (a ∷ xs) us h = ap (λ (z : Kinds). m.When ▸ arm_onto a z) (sym (arms_spelled xs us))

  case_passes : (d : ℕ) (xs : List (Tree × Tree)) (us rest : Kinds) → GoodList (λ arm. IsLevelled arm.0 × IsLevelled arm.1) xs → ListPasses m.When arm_onto (ArmPass c d) xs us rest → ArmPasses c d (arms_of xs) us rest
  case_passes d [] us rest h s = absurd h
  case_passes d (a ∷ xs) us rest h s = ⊎_elim (λ p. inl (subst (λ z. ArmPass c d a z rest) (arms_spelled xs us) p)) (λ p. inr (arms_pass c d xs us rest p)) s

  else_cut : (d : ℕ) (item : Parser Tree) (ts : Kinds) → WholeCut d item → CutBy (IsCut else_onto ElseLevelled (ElsePasses c d) ts) (else_at item ts)
  unfolding else_at
  else_cut d item ts cut =
      let L : ℕ → Type 0 = IsCut else_onto ElseLevelled (ElsePasses c d) ts in
      at_terminal (CutBy L) m.Else ts (λ r. item r >>= λ a. Ok (or_else a.0, a.1)) (Ok (no_else, ts))
      (λ r e. then_cuts (IsCut onto IsLevelled (Passes c d) r) L (λ z. Unit {0}) (item r) (λ a. Ok (or_else a.0, a.1)) (cut r) (all_things (item r)) (cut_step onto IsLevelled (Passes c d) r else_onto ElseLevelled (ElsePasses c d) ts (λ z. m.Else ▸ z) (λ a. or_else a) (λ a us. us) (pre_kind (t.Terminal m.Else)) e (λ a g. g) (λ a us g. refl) (λ a us rest g s. s)) (λ a u. tt))
      tt

  -- what the arms that were read say of the list
  listed_arms : (d : ℕ) (us mid : Kinds) (xs : List (Tree × Tree)) → IsListed m.When arm_onto (GoodArm c d) us xs mid → (GoodList (λ arm. IsLevelled arm.0 × IsLevelled arm.1) xs) × (us ≡ listed m.When arm_onto xs mid)
  listed_arms d us mid [] h = absurd h
  listed_arms d us mid (a ∷ xs) h = ((h.1.0, each_left (λ arm. IsLevelled arm.0 × IsLevelled arm.1) (λ arm. Fits c d arm.0 × Fits c d arm.1) xs h.2), h.0)

  case_cut : (k : ℕ) (ts : Kinds) → CutAt k → Sound c k → CutBy (TreeCut 0 (suc k) (m.Case ▸ ts)) (case_at (levels c (deeper_of c k) 8) ts)
  unfolding case_at
  case_cut k ts cut sound =
      let p : Parser Tree = levels c (deeper_of c k) 8 in
      let wc : WholeCut k p = whole_cut k cut in
      let ws : Whole c k p = whole_expression c k sound in
      let L : ℕ → Type 0 = TreeCut 0 (suc k) (m.Case ▸ ts) in
      terminal_cuts L m.When ts (λ r. list_at m.When (arm_at p) r >>= λ arms. else_at p arms.1 >>= λ other. expect m.End other.1 >>= λ r. Ok (Case (arms_of arms.0) other.0, r)) (λ us e.
      then_cuts (ArmList k us) L (λ y. IsListed m.When arm_onto (GoodArm c k) us y.0 y.1) (list_at m.When (arm_at p) us) (λ arms. else_at p arms.1 >>= λ other. expect m.End other.1 >>= λ r. Ok (Case (arms_of arms.0) other.0, r))
      (list_cut m.When arm_onto (λ arm. IsLevelled arm.0 × IsLevelled arm.1) (GoodArm c k) (ArmPass c k) (arm_at p) us pre_arm (λ a g. g.0) (λ vs. arm_cut k p vs wc ws) (λ vs. arm_holds c k p vs ws)) (list_holds m.When arm_onto (GoodArm c k) (arm_at p) us (λ vs. arm_holds c k p vs ws))
      (cut_step (listed m.When arm_onto) (GoodList (λ arm. IsLevelled arm.0 × IsLevelled arm.1)) (ListPasses m.When arm_onto (ArmPass c k)) us onto (Tight 0) (Passes c (suc k)) (m.Case ▸ ts) (λ z. m.Case ▸ m.When ▸ z) (λ xs. Case (arms_of xs) no_else) (λ xs us. m.End ▸ us) (λ x y. refl) (ap (λ (z : Kinds). m.Case ▸ z) e) (λ xs g. case_good xs no_else g tt) (λ xs us g. ap (λ (z : Kinds). m.Case ▸ z) (case_spelled xs (m.End ▸ us) g)) (λ xs us rest g s. inl (case_passes k xs (m.End ▸ us) rest g s)))
      (λ arms h. let y = listed_arms k us arms.1 arms.0 h in
      then_cuts (IsCut else_onto ElseLevelled (ElsePasses c k) arms.1) L (λ z. Unit {0}) (else_at p arms.1) (λ other. expect m.End other.1 >>= λ r. Ok (Case (arms_of arms.0) other.0, r)) (else_cut k p arms.1 wc) (all_things (else_at p arms.1))
      (cut_step else_onto ElseLevelled (ElsePasses c k) arms.1 onto (Tight 0) (Passes c (suc k)) (m.Case ▸ ts) (λ z. m.Case ▸ arms_onto (arms_of arms.0) z) (λ other. Case (arms_of arms.0) other) (λ other us. m.End ▸ us) (pre_then (λ z. m.Case ▸ z) (arms_onto (arms_of arms.0)) (pre_kind (t.Terminal m.Case)) (pre_arms (arms_of arms.0))) (ap (λ (z : Kinds). m.Case ▸ z) (e ∙ ap (λ (z : Kinds). m.When ▸ z) y.1 ∙ sym (case_spelled arms.0 arms.1 y.0))) (λ other g. case_good arms.0 other y.0 g) (λ other us g. refl) (λ other us rest g s. inr s))
      (λ other u. on_cuts L (expect m.End other.1) (λ r. Ok (Case (arms_of arms.0) other.0, r)) (expect_cuts L m.End other.1) (λ r. tt))))

  bracket_cut : (k : ℕ) (ts : Kinds) → CutAt k → CutBy (TreeCut 0 (suc k) (m.LeftBracket ▸ ts)) (bracket_at (levels c (deeper_of c k) 8) ts)
  unfolding bracket_at
  bracket_cut k ts cut =
      let p : Parser Tree = levels c (deeper_of c k) 8 in
      let L : ℕ → Type 0 = TreeCut 0 (suc k) (m.LeftBracket ▸ ts) in
      then_cuts (IsCut onto IsLevelled (Passes c k) ts) L (λ z. Unit {0}) (p ts) (λ a. expect m.RightBracket a.1 >>= λ r. Ok (Bracket a.0, r)) (whole_cut k cut ts) (all_things (p ts))
      (cut_step onto IsLevelled (Passes c k) ts onto (Tight 0) (Passes c (suc k)) (m.LeftBracket ▸ ts) (λ z. m.LeftBracket ▸ z) (λ a. Bracket a) (λ a us. m.RightBracket ▸ us) (pre_kind (t.Terminal m.LeftBracket)) refl (λ a g. (g, omega arith)) (λ a us g. refl) (λ a us rest g s. s))
      (λ a u. on_cuts L (expect m.RightBracket a.1) (λ r. Ok (Bracket a.0, r)) (expect_cuts L m.RightBracket a.1) (λ r. tt))

  -- ---- from height to height

  terminal_cut : (d : ℕ) (x : Terminal) (ts : Kinds) → WithinCut d → Within c d → CutBy (TreeCut 0 d (x ▸ ts)) (primary_by_terminal (deeper_of c d) x ts)
  terminal_cut d m.True ts cut lower = tt
  terminal_cut d m.False ts cut lower = tt
  terminal_cut d m.Null ts cut lower = tt
  terminal_cut d m.LeftBracket ts cut lower =
      enter_cuts (suc (length ts)) (λ j. TreeCut 0 j (m.LeftBracket ▸ ts)) (λ p. bracket_at (p 8) ts)
      (cut_here onto (Tight 0) (Passes c 0) (m.LeftBracket ▸ ts) (λ z. z) (t.Terminal m.LeftBracket) ts (Bracket nothing) (λ us. t.Terminal m.Null ∷ (m.RightBracket ▸ us)) (suc (length ts)) pre_none (tt, omega arith) refl refl (λ us. refl) (λ us. refl))
      (λ k cut sound. bracket_cut k ts cut) d cut lower
  terminal_cut d m.Case ts cut lower =
      enter_cuts (suc (length ts)) (λ j. TreeCut 0 j (m.Case ▸ ts)) (λ p. case_at (p 8) ts)
      (cut_here onto (Tight 0) (Passes c 0) (m.Case ▸ ts) (λ z. z) (t.Terminal m.Case) ts (Case (more_arms nothing nothing no_arms) no_else) (λ us. m.When ▸ (t.Terminal m.Null ∷ (m.Then ▸ (t.Terminal m.Null ∷ (m.End ▸ us))))) (suc (length ts)) pre_none ((tt, (tt, tt, tt), tt), omega arith) refl refl (λ us. refl) (λ us. refl))
      (λ k cut sound. case_cut k ts cut sound) d cut lower
  terminal_cut d _ ts cut lower = tt

  primary_cut : (d : ℕ) (ts : Kinds) → WithinCut d → Within c d → CutBy (TreeCut 0 d ts) (primary (deeper_of c d) ts)
  unfolding primary
  primary_cut d [] cut lower = tt
  primary_cut d (t.Number n ∷ ts) cut lower = tt
  primary_cut d (t.Literal text ∷ ts) cut lower = tt
  primary_cut d (t.Word text ∷ ts) cut lower = named_cut d (record { text = text; quoted = false }) ts cut lower
  primary_cut d (t.Quoted text ∷ ts) cut lower = named_cut d (record { text = text; quoted = true }) ts cut lower
  primary_cut d (t.Terminal x ∷ ts) cut lower = terminal_cut d x ts cut lower

  signed_cut : (d : ℕ) (ts : Kinds) (o : Option (Sign × Kinds)) (p : Parser Tree) → WithinCut d → Within c d → CutBy (TreeCut 0 d ts) (p ts) → Kept (λ y. ts ≡ sign_terminal y.0 ▸ y.1) o → CutBy (TreeCut 1 d ts) (signed_by o (deeper_of c d) p ts)
  signed_cut d ts None p cut lower own k = cuts_looser 0 d ts (p ts) own
  signed_cut d ts (Some x) p cut lower own k =
      enter_cuts (length ts) (λ j. TreeCut 1 j ts) (λ p. p 1 x.1 >>= λ a. Ok (Signed x.0 a.0, a.1))
      (cut_here onto (Tight 1) (Passes c 0) ts (λ z. z) (t.Terminal (sign_terminal x.0)) x.1 (Signed x.0 nothing) (λ us. t.Terminal m.Null ∷ us) (length ts) pre_none ((tt, omega arith), omega arith) k (sym (ap length k)) (λ us. refl) (λ us. refl))
      (λ j cut sound. then_cuts (TreeCut 1 j x.1) (TreeCut 1 (suc j) ts) (λ z. Unit {0}) (levels c (deeper_of c j) 1 x.1) (λ a. Ok (Signed x.0 a.0, a.1)) (cut 1 x.1) (all_things (levels c (deeper_of c j) 1 x.1))
      (cut_step onto (Tight 1) (Passes c j) x.1 onto (Tight 1) (Passes c (suc j)) ts (λ z. sign_terminal x.0 ▸ z) (λ a. Signed x.0 a) (λ a us. us) (pre_kind (t.Terminal (sign_terminal x.0))) k (λ a g. (g, omega arith)) (λ a us g. refl) (λ a us rest g s. s))
      (λ a u. tt)) d cut lower

  negated_cut : (d : ℕ) (ts : Kinds) (p : Parser Tree) → WithinCut d → Within c d → CutBy (TreeCut 5 d ts) (p ts) → CutBy (TreeCut 6 d ts) (choose (eat m.Not ts) (λ r. enter (length ts) (deeper_of c d) (λ p. p 6 r >>= λ a. Ok (Negated a.0, a.1))) (p ts))
  negated_cut d ts p cut lower own =
      at_terminal (CutBy (TreeCut 6 d ts)) m.Not ts (λ r. enter (length ts) (deeper_of c d) (λ p. p 6 r >>= λ a. Ok (Negated a.0, a.1))) (p ts)
      (λ r e. enter_cuts (length ts) (λ j. TreeCut 6 j ts) (λ p. p 6 r >>= λ a. Ok (Negated a.0, a.1))
      (cut_here onto (Tight 6) (Passes c 0) ts (λ z. z) (t.Terminal m.Not) r (Negated nothing) (λ us. t.Terminal m.Null ∷ us) (length ts) pre_none ((tt, omega arith), omega arith) e (sym (ap length e)) (λ us. refl) (λ us. refl))
      (λ j cut sound. then_cuts (TreeCut 6 j r) (TreeCut 6 (suc j) ts) (λ z. Unit {0}) (levels c (deeper_of c j) 6 r) (λ a. Ok (Negated a.0, a.1)) (cut 6 r) (all_things (levels c (deeper_of c j) 6 r))
      (cut_step onto (Tight 6) (Passes c j) r onto (Tight 6) (Passes c (suc j)) ts (λ z. m.Not ▸ z) (λ a. Negated a) (λ a us. us) (pre_kind (t.Terminal m.Not)) e (λ a g. (g, omega arith)) (λ a us g. refl) (λ a us rest g s. s))
      (λ a u. tt)) d cut lower)
      (cuts_looser 5 d ts (p ts) own)

  loop_cut : (g d : ℕ) (ts : Kinds) → g ≢ 0 → g ≢ 5 → ((us : Kinds) → CutBy (TreeCut g d us) (levels c (deeper_of c d) g us)) → Sound c d → CutBy (TreeCut (suc g) d ts) (levels c (deeper_of c d) (suc g) ts)
  loop_cut g d ts n0 n5 own sound =
      let p : Parser Tree = levels c (deeper_of c d) g in
      subst (CutBy (TreeCut (suc g) d ts)) (sym (operand_first c g d ts n0 n5))
      (then_cuts (TreeCut g d ts) (TreeCut (suc g) d ts) (IsRead c g d ts) (p ts) (λ x. goes_on g p c x.0 x.1) (own ts) (sound g ts) (tree_looser g d ts) (λ x i.
      subst (λ z. CutBy (TreeCut (suc g) d z) (goes_on g p c x.0 x.1)) (sym i.parts) (goes_cut g d p x.0 x.1 n0 own (sound g) i.levelled i.tight)))

  levels_cut : (d : ℕ) → WithinCut d → Within c d → Sound c d → CutAt d
  unfolding levels
  levels_cut d cut lower sound zero ts = primary_cut d ts cut lower
  levels_cut d cut lower sound (suc zero) ts = signed_cut d ts (sign_at ts) (levels c (deeper_of c d) 0) cut lower (levels_cut d cut lower sound zero ts) (sign_is ts)
  levels_cut d cut lower sound (suc (suc (suc (suc (suc (suc zero)))))) ts = negated_cut d ts (levels c (deeper_of c d) 5) cut lower (levels_cut d cut lower sound (suc (suc (suc (suc (suc zero))))) ts)
  levels_cut d cut lower sound (suc g) ts = loop_cut g d ts (omega arith) (omega arith) (λ us. levels_cut d cut lower sound g us) sound

  pub cut : (d : ℕ) → 1 ≤ c → CutAt d
  cut zero one = levels_cut zero tt tt (sound c zero one)
  cut (suc d) one = levels_cut (suc d) (cut d one) (sound c d one) (sound c (suc d) one)

  pub cut_within : (d : ℕ) → 1 ≤ c → WithinCut d
  cut_within zero one = tt
  cut_within (suc d) one = cut d one
