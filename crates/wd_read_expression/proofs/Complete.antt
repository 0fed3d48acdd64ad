-- What a well-levelled expression spells is read as that expression, or passes a limit that the expression passes.
use Rattle.std.proofs.Common.{◌≡◌, ◌≢◌, ℕ, zero, suc, ◌+◌, ◌<◌, ◌≤◌, ◌⊎◌, inl, inr, Bool, true, false, List, [], ◌∷◌, length, Option, Some, None, Ok, Err, refl, sym, ap, subst, ◌∙◌, arith, ⊎_elim}
use Rattle.std.proofs.lemmas.Bool.{cases_lt}
use Rattle.wd_lex.specs.declared.token.Terminal.{Terminal}
use Rattle.wd_lex.specs.declared.token.Terminal.TheVariants as m
use Rattle.wd_lex.specs.declared.token.TokenKind.TheVariants as t
use Rattle.wd_read_cursor.specs.declared.name.Name.{Name}
use Rattle.wd_syntax.specs.declared.frame.Frame.{Frame}
use Rattle.wd_syntax.specs.declared.frame.FrameMode.{FrameMode}
use Rattle.wd_syntax.specs.declared.frame.FrameMode.TheVariants.{Rows, Range, Groups}
use Rattle.wd_syntax.specs.declared.frame.Bound.{Bound}
use Rattle.wd_syntax.specs.declared.frame.Bound.TheVariants.{UnboundedPreceding, Preceding, CurrentRow, Following, UnboundedFollowing}
use Rattle.wd_syntax.specs.declared.frame.Extent.{Extent}
use Rattle.wd_syntax.specs.declared.frame.Extent.TheVariants.{Start, Between}
use Rattle.wd_syntax.specs.declared.frame.Exclusion.{Exclusion}
use Rattle.wd_syntax.specs.declared.frame.Exclusion.TheVariants as x
use Rattle.wd_syntax.specs.declared.expression.Operator.{Operator}
use Rattle.wd_syntax.specs.declared.expression.Operator.TheVariants as o
use Rattle.wd_syntax.specs.declared.expression.Sign.{Sign}
use Rattle.wd_syntax.specs.declared.expression.Sign.TheVariants as s
use Rattle.wd_syntax.specs.declared.expression.Literal.{Literal}
use Rattle.wd_syntax.specs.declared.expression.Literal.TheVariants as l
use Rattle.wd_syntax.specs.declared.expression.SortDirection.{SortDirection}
use Rattle.wd_syntax.specs.declared.expression.SortDirection.TheVariants.{Ascending, Descending}
use Rattle.wd_syntax.specs.declared.expression.NullsPlace.{NullsPlace}
use Rattle.wd_syntax.specs.declared.expression.NullsPlace.TheVariants as p
use Rattle.wd_read_cursor.specs.Tokens.{Kinds, ◌▸◌, written, name_kind}
use Rattle.wd_syntax.specs.Tokens.{literal_kind, operator_terminal, sign_terminal, operator_height}
use Rattle.wd_syntax.specs.Tree.{Tree, Constant, Column, Qualified, CallAll, Call, Case, Bracket, Signed, Binary, IsNull, Negated, Trees, no_trees, more_trees, Arms, no_arms, more_arms, Otherwise, no_else, or_else, OverTree, no_over, over_name, over_window, WindowTree, window, Keys, no_keys, more_keys, Key, trees_of, arms_of, keys_of, Each}
use Rattle.wd_syntax.specs.Spelling.{mode_onto, bound_onto, extent_onto, exclusion_onto, frame_onto, direction_onto, nulls_onto, not_onto, base_onto, onto, list_onto, more_onto, arms_onto, else_onto, over_onto, window_onto, partition_onto, order_onto, more_keys_onto}
use Rattle.wd_syntax.specs.Levels.{height, left_height, IsLevelled, AreLevelled, ArmsLevelled, ElseLevelled, OverLevelled, WindowLevelled, KeysLevelled}
use Rattle.wd_syntax.specs.Limits.{operators}
use Rattle.wd_read_expression.proofs.Fitting.{Below, Fits, AllFit, ArmsFit, ElseFits, OverFits, WindowFits, KeysFit}
use Rattle.wd_read_cursor.specs.Cursor.{Unexpected, Limit, ◌>>=◌, Reads, Parser, Chance, eat, expect, eat_name, many, after, list_at}
use Rattle.wd_read_expression.specs.Reading.{operator_at, sign_at, frame_at, direction_at, nulls_at, key_at, partition_at, order_at, window_at, links, compared, null_at, tests, arguments_at, call_of, enter, over_at, call_at, named_at, arm_at, else_at, case_at, bracket_at, primary, goes_on, levels, deeper_of}
use Rattle.wd_read_cursor.proofs.Eaten.{eat_same, expect_same, name_at_same, eat_name_kind, eat_other, eqb-same}
use Rattle.wd_read_expression.proofs.TerminalFacts.{sign_name_kind, grips, grip_stops, eqb-below, operator_stops, operator_same, operator_grip, operator_bounds, sign_same, clauses, clause_stops, clause_grips}
use Rattle.wd_read_expression.proofs.Pieces.{frame_same, frame_clause, direction_same, nulls_same, nulls_begins, base_same}

-- a value and the tokens after it; a limit is met only where F fails
abbrev pub Yields : {A : Type 0} → Type 0 → A × Kinds → Reads A → Type 0
Yields F x (Ok y) = y ≡ x
Yields F x (Err (Limit n')) = F → ⊥
Yields F x (Err (Unexpected left)) = ⊥

pub then_yields : {A B : Type 0} (F G : Type 0) (x : A × Kinds) (y : B × Kinds) (r : Reads A) (f : A × Kinds → Reads B) → (G → F) → Yields F x r → Yields G y (f x) → Yields G y (r >>= f)
then_yields F G x y (Ok z) f k h i = subst (λ w. Yields G y (f w)) (sym h) i
then_yields F G x y (Err (Limit n')) f k h i = λ g. h (k g)
then_yields F G x y (Err (Unexpected left)) f k h i = absurd h

-- what is read before something that is read exactly
pub then_exactly : {A B : Type 0} (F G : Type 0) (x : A × Kinds) (y : B × Kinds) (r : Reads A) (f : A × Kinds → Reads B) → (G → F) → Yields F x r → f x ≡ Ok y → Yields G y (r >>= f)
then_exactly F G x y r f k h e = then_yields F G x y r f k h (subst (Yields G y) (sym e) refl)

pub yields_weaker : {A : Type 0} (F G : Type 0) (x : A × Kinds) (r : Reads A) → (G → F) → Yields F x r → Yields G x r
yields_weaker F G x (Ok z) k h = h
yields_weaker F G x (Err (Limit n')) k h = λ g. h (k g)
yields_weaker F G x (Err (Unexpected left)) k h = absurd h

-- ---- lists

-- the items are read one after another, and then none begins
abbrev pub Turns : {A : Type 0} → (A → Type 0) → Chance A → List A → Kinds → Kinds → Type 0
Turns F item [] ts rest = (ts ≡ rest) × (item rest ≡ None)
Turns {A} F item (x ∷ xs) ts rest = (mid : Kinds) × (r : Reads A) × (item ts ≡ Some r) × Yields (F x) (x, mid) r × (length mid < length ts) × Turns F item xs mid rest

pub turns_longer : {A : Type 0} (F : A → Type 0) (item : Chance A) (xs : List A) (ts rest : Kinds) → Turns F item xs ts rest → length xs ≤ length ts
turns_longer F item [] ts rest h = omega arith
turns_longer F item (x ∷ xs) ts rest h = omega (arith, h.4, turns_longer F item xs h.0 rest h.5)

many_none : {A : Type 0} (item : Chance A) (n : ℕ) (ts : Kinds) → item ts ≡ None → many item n ts ≡ Ok ([], ts)
unfolding many
many_none item zero ts e = refl
many_none item (suc n) ts e = rw e refl

many_one : {A : Type 0} (item : Chance A) (n : ℕ) (ts : Kinds) (r : Reads A) → item ts ≡ Some r → many item (suc n) ts ≡ r >>= λ a. many item n a.1 >>= λ xs. Ok (a.0 ∷ xs.0, xs.1)
unfolding many
many_one item n ts r e = rw e refl

pub many_yields : {A : Type 0} (F : A → Type 0) (item : Chance A) (n : ℕ) (xs : List A) (ts rest : Kinds) → length xs ≤ n → Turns F item xs ts rest → Yields (Each F xs) (xs, rest) (many item n ts)
many_yields {A} F item n [] ts rest le h =
    let none : List A × Kinds = ([], rest) in
    subst (λ z. Yields (Unit {0}) none (many item n z)) (sym h.0) (subst (Yields (Unit {0}) none) (sym (many_none item n rest h.1)) refl)
many_yields F item zero (x ∷ xs) ts rest le h = absurd (omega arith)
many_yields F item (suc n) (x ∷ xs) ts rest le h =
    subst (Yields (Each F (x ∷ xs)) (x ∷ xs, rest)) (sym (many_one item n ts h.1 h.2))
    (then_yields (F x) (Each F (x ∷ xs)) (x, h.0) (x ∷ xs, rest) h.1 (λ a. many item n a.1 >>= λ ys. Ok (a.0 ∷ ys.0, ys.1)) (λ f. f.0) h.3
    (then_yields (Each F xs) (Each F (x ∷ xs)) (xs, rest) (x ∷ xs, rest) (many item n h.0) (λ ys. Ok (x ∷ ys.0, ys.1)) (λ f. f.1) (many_yields F item n xs h.0 rest (omega arith) h.5) refl))

pub after_same : {A : Type 0} (x : Terminal) (item : Parser A) (ts : Kinds) → after x item (x ▸ ts) ≡ Some (item ts)
unfolding after
after_same x item ts = rw (eat_same x ts) refl

pub after_none : {A : Type 0} (x : Terminal) (item : Parser A) (ts : Kinds) → eat x ts ≡ None → after x item ts ≡ None
unfolding after
after_none x item ts e = rw e refl

pub list_yields : {A : Type 0} (F : A → Type 0) (x : Terminal) (item : Parser A) (a : A) (xs : List A) (ts mid rest : Kinds) → Yields (F a) (a, mid) (item ts) → Turns F (after x item) xs mid rest → Yields (Each F (a ∷ xs)) (a ∷ xs, rest) (list_at x item ts)
unfolding list_at
list_yields F x item a xs ts mid rest y h =
    then_yields (F a) (Each F (a ∷ xs)) (a, mid) (a ∷ xs, rest) (item ts) (λ z. many (after x item) (length z.1) z.1 >>= λ ys. Ok (z.0 ∷ ys.0, ys.1)) (λ f. f.0) y
    (then_yields (Each F xs) (Each F (a ∷ xs)) (xs, rest) (a ∷ xs, rest) (many (after x item) (length mid) mid) (λ ys. Ok (a ∷ ys.0, ys.1)) (λ f. f.1) (many_yields F (after x item) (length mid) xs mid rest (turns_longer F (after x item) xs mid rest h) h) refl)

-- ---- rows as lists

abbrev pub tree_items : Trees → List Tree
tree_items no_trees = []
tree_items (more_trees a bs) = a ∷ tree_items bs

abbrev pub arm_items : Arms → List (Tree × Tree)
arm_items no_arms = []
arm_items (more_arms when gives arms) = (when, gives) ∷ arm_items arms

abbrev pub key_items : Keys → List Key
key_items no_keys = []
key_items (more_keys a direction nulls keys) = (a, direction, nulls) ∷ key_items keys

pub trees_back : (bs : Trees) → trees_of (tree_items bs) ≡ bs
trees_back no_trees = refl
trees_back (more_trees a bs) = ap (λ (z : Trees). more_trees a z) (trees_back bs)

pub arms_back : (arms : Arms) → arms_of (arm_items arms) ≡ arms
arms_back no_arms = refl
arms_back (more_arms when gives arms) = ap (λ (z : Arms). more_arms when gives z) (arms_back arms)

pub keys_back : (keys : Keys) → keys_of (key_items keys) ≡ keys
keys_back no_keys = refl
keys_back (more_keys a direction nulls keys) = ap (λ (z : Keys). more_keys a direction nulls z) (keys_back keys)

pub trees_each : (c d : ℕ) (bs : Trees) → AllFit c d bs → Each (Fits c d) (tree_items bs)
trees_each c d no_trees h = tt
trees_each c d (more_trees a bs) h = (h.0, trees_each c d bs h.1)

pub arms_each : (c d : ℕ) (arms : Arms) → ArmsFit c d arms → Each (λ arm. Fits c d arm.0 × Fits c d arm.1) (arm_items arms)
arms_each c d no_arms h = tt
arms_each c d (more_arms when gives arms) h = ((h.0, h.1), arms_each c d arms h.2)

pub keys_each : (c d : ℕ) (keys : Keys) → KeysFit c d keys → Each (λ key. Fits c d key.0) (key_items keys)
keys_each c d no_keys h = tt
keys_each c d (more_keys a direction nulls keys) h = (h.0, keys_each c d keys h.1)

-- ---- what begins a tree

abbrev Begins : ℕ → Kinds → Type 0
Begins h ts = (h < 1 → sign_at ts ≡ None) × (h < 6 → eat m.Not ts ≡ None)

pub literal_begins : (literal : Literal) (ts : Kinds) → (sign_at (literal_kind literal ∷ ts) ≡ None) × (eat m.Not (literal_kind literal ∷ ts) ≡ None) × (eat_name (literal_kind literal ∷ ts) ≡ None)
unfolding sign_at eat eat_name
literal_begins (l.Number n) ts = (refl, refl, refl)
literal_begins (l.Text text) ts = (refl, refl, refl)
literal_begins (l.Truth true) ts = (refl, refl, refl)
literal_begins (l.Truth false) ts = (refl, refl, refl)
literal_begins l.Null ts = (refl, refl, refl)

begins : (a : Tree) (ts : Kinds) → IsLevelled a → Begins (height a) (onto a ts)
unfolding sign_at eat
begins (Constant literal) ts wl = let h = literal_begins literal ts in (λ _. h.0, λ _. h.1)
begins (Column n) ts wl = (λ _. sign_name_kind n ts, λ _. eat_name_kind m.Not n ts)
begins (Qualified a b) ts wl = (λ _. sign_name_kind a (m.Dot ▸ (name_kind b ∷ ts)), λ _. eat_name_kind m.Not a (m.Dot ▸ (name_kind b ∷ ts)))
begins (CallAll f over) ts wl = let r : Kinds = m.LeftBracket ▸ m.Star ▸ m.RightBracket ▸ over_onto over ts in (λ _. sign_name_kind f r, λ _. eat_name_kind m.Not f r)
begins (Call f bs over) ts wl = let r : Kinds = m.LeftBracket ▸ list_onto bs (m.RightBracket ▸ over_onto over ts) in (λ _. sign_name_kind f r, λ _. eat_name_kind m.Not f r)
begins (Case arms other) ts wl = (λ _. refl, λ _. refl)
begins (Bracket a) ts wl = (λ _. refl, λ _. refl)
begins (Signed s.Plus a) ts wl = (λ h. absurd (omega arith), λ _. refl)
begins (Signed s.Minus a) ts wl = (λ h. absurd (omega arith), λ _. refl)
begins (Binary o a b) ts wl = let i = begins a (operator_terminal o ▸ onto b ts) wl.0 in (λ h. absurd (omega (arith, operator_bounds o)), λ h. i.1 (omega (arith, operator_bounds o, wl.1)))
begins (IsNull a not) ts wl = let i = begins a (m.Is ▸ not_onto not (m.Null ▸ ts)) wl.0 in (λ h. absurd (omega arith), λ h. i.1 (omega (arith, wl.1)))
begins (Negated a) ts wl = (λ h. absurd (omega arith), λ h. absurd (omega arith))

-- the terminals that begin an expression
abbrev start : Terminal → ℕ
start m.Plus = 1
start m.Minus = 1
start m.Not = 1
start m.True = 1
start m.False = 1
start m.Null = 1
start m.LeftBracket = 1
start m.Case = 1
start _ = 0

abbrev pub IsBegun : Kinds → Type 0
IsBegun [] = ⊥
IsBegun (t.Terminal x ∷ ts) = start x ≡ 1
IsBegun (_ ∷ ts) = Unit {0}

pub begun_stops : (x : Terminal) (ts : Kinds) → start x ≡ 0 → IsBegun ts → eat x ts ≡ None
unfolding eat
begun_stops x [] e h = refl
begun_stops x (t.Terminal y ∷ ts) e h = eat_other x y ts (λ same. let q : start y ≡ start x = ap start same in omega arith)
begun_stops x (t.Word text ∷ ts) e h = refl
begun_stops x (t.Quoted text ∷ ts) e h = refl
begun_stops x (t.Literal text ∷ ts) e h = refl
begun_stops x (t.Number n ∷ ts) e h = refl

begun_written : (b : Bool) (text : List ℕ) (ts : Kinds) → IsBegun (written b text ∷ ts)
begun_written true text ts = tt
begun_written false text ts = tt

begun_literal : (literal : Literal) (ts : Kinds) → IsBegun (literal_kind literal ∷ ts)
begun_literal (l.Number n) ts = tt
begun_literal (l.Text text) ts = tt
begun_literal (l.Truth true) ts = refl
begun_literal (l.Truth false) ts = refl
begun_literal l.Null ts = refl

pub begun : (a : Tree) (ts : Kinds) → IsBegun (onto a ts)
begun (Constant literal) ts = begun_literal literal ts
begun (Column n) ts = begun_written n.quoted n.text ts
begun (Qualified a b) ts = begun_written a.quoted a.text (m.Dot ▸ (name_kind b ∷ ts))
begun (CallAll f over) ts = begun_written f.quoted f.text (m.LeftBracket ▸ m.Star ▸ m.RightBracket ▸ over_onto over ts)
begun (Call f bs over) ts = begun_written f.quoted f.text (m.LeftBracket ▸ list_onto bs (m.RightBracket ▸ over_onto over ts))
begun (Case arms other) ts = refl
begun (Bracket a) ts = refl
begun (Signed s.Plus a) ts = refl
begun (Signed s.Minus a) ts = refl
begun (Binary o a b) ts = begun a (operator_terminal o ▸ onto b ts)
begun (IsNull a not) ts = begun a (m.Is ▸ not_onto not (m.Null ▸ ts))
begun (Negated a) ts = refl

pub height_most : (a : Tree) → height a ≤ 8
height_most (Binary o a b) = omega (arith, operator_bounds o)
height_most (Signed s a) = omega arith
height_most (IsNull a not) = omega arith
height_most (Negated a) = omega arith
height_most _ = omega arith

-- ---- from one height to the next

-- a loop ends where no operator of its height follows
stops_links : (p : Parser Tree) (h n : ℕ) (a : Tree) (ts : Kinds) → h < grips ts → links p h n a ts ≡ Ok (a, ts)
unfolding links
stops_links p h zero a ts lt = rw (operator_stops h ts lt) refl
stops_links p h (suc n) a ts lt = rw (operator_stops h ts lt) refl

stops_tests : (n : ℕ) (a : Tree) (ts : Kinds) → 5 < grips ts → tests n a ts ≡ Ok (a, ts)
unfolding tests
stops_tests zero a ts lt = rw (grip_stops m.Is ts lt) refl
stops_tests (suc n) a ts lt = rw (grip_stops m.Is ts lt) refl

stops : (g : ℕ) (p : Parser Tree) (n : ℕ) (a : Tree) (ts : Kinds) → suc g < grips ts → goes_on g p n a ts ≡ Ok (a, ts)
unfolding compared
stops zero p n a ts lt = stops_links p 1 n a ts lt
stops (suc zero) p n a ts lt = stops_links p 2 n a ts lt
stops (suc (suc zero)) p n a ts lt = stops_links p 3 n a ts lt
stops (suc (suc (suc zero))) p n a ts lt = rw (operator_stops 4 ts lt) refl
stops (suc (suc (suc (suc zero)))) p n a ts lt = stops_tests n a ts lt
stops (suc (suc (suc (suc (suc g))))) p n a ts lt = stops_links p (suc (suc (suc (suc (suc (suc g)))))) n a ts lt

-- terminals that are not the one sought
other_terminals : (ts : Kinds) → (eat m.Not (m.Null ▸ ts) ≡ None) × (eat m.Comma (m.RightBracket ▸ ts) ≡ None) × (eat m.Star (m.RightBracket ▸ ts) ≡ None) × (eat m.Dot (m.LeftBracket ▸ ts) ≡ None) × (eat m.Else (m.End ▸ ts) ≡ None)
unfolding eat
other_terminals ts = (refl, refl, refl, refl, refl)

when_stops : (other : Otherwise) (ts : Kinds) → (eat m.When (else_onto other (m.End ▸ ts)) ≡ None) × (8 < grips (else_onto other (m.End ▸ ts)))
unfolding eat
when_stops no_else ts = (refl, omega arith)
when_stops (or_else a) ts = (refl, omega arith)

more_grips : (bs : Trees) (ts : Kinds) → 8 < grips ts → 8 < grips (more_onto bs ts)
more_grips no_trees ts lt = lt
more_grips (more_trees a bs) ts lt = omega arith

arms_grips : (arms : Arms) (ts : Kinds) → 8 < grips ts → 8 < grips (arms_onto arms ts)
arms_grips no_arms ts lt = lt
arms_grips (more_arms when gives arms) ts lt = omega arith

nulls_grips : (nulls : Option NullsPlace) (ts : Kinds) → 8 < grips ts → 8 < grips (nulls_onto nulls ts)
nulls_grips None ts lt = lt
nulls_grips (Some p.First) ts lt = omega arith
nulls_grips (Some p.Last) ts lt = omega arith

key_grips : (direction : Option SortDirection) (nulls : Option NullsPlace) (ts : Kinds) → 8 < grips ts → 8 < grips (direction_onto direction (nulls_onto nulls ts))
key_grips None nulls ts lt = nulls_grips nulls ts lt
key_grips (Some Ascending) nulls ts lt = omega arith
key_grips (Some Descending) nulls ts lt = omega arith

pub more_keys_clause : (keys : Keys) (ts : Kinds) → 0 < clauses ts → 0 < clauses (more_keys_onto keys ts)
more_keys_clause no_keys ts lt = lt
more_keys_clause (more_keys a direction nulls keys) ts lt = omega arith

pub order_clause : (order : Keys) (ts : Kinds) → 5 < clauses ts → 5 < clauses (order_onto order ts)
order_clause no_keys ts lt = lt
order_clause (more_keys a direction nulls keys) ts lt = omega arith

partition_clause : (partition : Trees) (ts : Kinds) → 2 < clauses ts → 2 < clauses (partition_onto partition ts)
partition_clause no_trees ts lt = lt
partition_clause (more_trees a bs) ts lt = omega arith

-- ---- the tokens of a tree stand before the others

not_longer : (not : Bool) (ts : Kinds) → length ts ≤ length (not_onto not ts)
not_longer true ts = omega arith
not_longer false ts = omega arith

base_longer : (base : Option Name) (ts : Kinds) → length ts ≤ length (base_onto base ts)
base_longer None ts = omega arith
base_longer (Some n) ts = omega arith

bound_longer : (bound : Bound) (ts : Kinds) → length ts ≤ length (bound_onto bound ts)
bound_longer UnboundedPreceding ts = omega arith
bound_longer (Preceding n) ts = omega arith
bound_longer CurrentRow ts = omega arith
bound_longer (Following n) ts = omega arith
bound_longer UnboundedFollowing ts = omega arith

extent_longer : (extent : Extent) (ts : Kinds) → length ts ≤ length (extent_onto extent ts)
extent_longer (Start a) ts = bound_longer a ts
extent_longer (Between a b) ts = omega (arith, bound_longer a (m.And ▸ bound_onto b ts), bound_longer b ts)

exclusion_longer : (exclusion : Option Exclusion) (ts : Kinds) → length ts ≤ length (exclusion_onto exclusion ts)
exclusion_longer None ts = omega arith
exclusion_longer (Some x.CurrentRow) ts = omega arith
exclusion_longer (Some x.Group) ts = omega arith
exclusion_longer (Some x.Ties) ts = omega arith
exclusion_longer (Some x.NoOthers) ts = omega arith

mode_longer : (mode : FrameMode) (ts : Kinds) → length ts ≤ length (mode_onto mode ts)
mode_longer Rows ts = omega arith
mode_longer Range ts = omega arith
mode_longer Groups ts = omega arith

frame_longer : (frame : Option Frame) (ts : Kinds) → length ts ≤ length (frame_onto frame ts)
frame_longer None ts = omega arith
frame_longer (Some f) ts = omega (arith, mode_longer f.mode (extent_onto f.extent (exclusion_onto f.exclusion ts)), extent_longer f.extent (exclusion_onto f.exclusion ts), exclusion_longer f.exclusion ts)

direction_longer : (direction : Option SortDirection) (ts : Kinds) → length ts ≤ length (direction_onto direction ts)
direction_longer None ts = omega arith
direction_longer (Some Ascending) ts = omega arith
direction_longer (Some Descending) ts = omega arith

nulls_longer : (nulls : Option NullsPlace) (ts : Kinds) → length ts ≤ length (nulls_onto nulls ts)
nulls_longer None ts = omega arith
nulls_longer (Some p.First) ts = omega arith
nulls_longer (Some p.Last) ts = omega arith

mutual
  pub longer : (a : Tree) (ts : Kinds) → length ts ≤ length (onto a ts)
  longer (Constant literal) ts = omega arith
  longer (Column n) ts = omega arith
  longer (Qualified a b) ts = omega arith
  longer (CallAll f over) ts = omega (arith, over_longer over ts)
  longer (Call f bs over) ts = omega (arith, over_longer over ts, list_longer bs (m.RightBracket ▸ over_onto over ts))
  longer (Case arms other) ts = omega (arith, arms_longer arms (else_onto other (m.End ▸ ts)), else_longer other (m.End ▸ ts))
  longer (Bracket a) ts = omega (arith, longer a (m.RightBracket ▸ ts))
  longer (Signed s a) ts = omega (arith, longer a ts)
  longer (Binary o a b) ts = omega (arith, longer a (operator_terminal o ▸ onto b ts), longer b ts)
  longer (IsNull a not) ts = omega (arith, longer a (m.Is ▸ not_onto not (m.Null ▸ ts)), not_longer not (m.Null ▸ ts))
  longer (Negated a) ts = omega (arith, longer a ts)

  list_longer : (bs : Trees) (ts : Kinds) → length ts ≤ length (list_onto bs ts)
  list_longer no_trees ts = omega arith
  list_longer (more_trees a bs) ts = omega (arith, longer a (more_onto bs ts), more_longer bs ts)

  more_longer : (bs : Trees) (ts : Kinds) → length ts ≤ length (more_onto bs ts)
  more_longer no_trees ts = omega arith
  more_longer (more_trees a bs) ts = omega (arith, longer a (more_onto bs ts), more_longer bs ts)

  arms_longer : (arms : Arms) (ts : Kinds) → length ts ≤ length (arms_onto arms ts)
  arms_longer no_arms ts = omega arith
  arms_longer (more_arms when gives arms) ts = omega (arith, longer when (m.Then ▸ onto gives (arms_onto arms ts)), longer gives (arms_onto arms ts), arms_longer arms ts)

  else_longer : (other : Otherwise) (ts : Kinds) → length ts ≤ length (else_onto other ts)
  else_longer no_else ts = omega arith
  else_longer (or_else a) ts = omega (arith, longer a ts)

  over_longer : (over : OverTree) (ts : Kinds) → length ts ≤ length (over_onto over ts)
  over_longer no_over ts = omega arith
  over_longer (over_name n) ts = omega arith
  over_longer (over_window w) ts = omega (arith, window_longer w (m.RightBracket ▸ ts))

  pub window_longer : (w : WindowTree) (ts : Kinds) → length ts ≤ length (window_onto w ts)
  window_longer (window base partition order frame) ts = omega (arith, base_longer base (partition_onto partition (order_onto order (frame_onto frame ts))), partition_longer partition (order_onto order (frame_onto frame ts)), order_longer order (frame_onto frame ts), frame_longer frame ts)

  partition_longer : (partition : Trees) (ts : Kinds) → length ts ≤ length (partition_onto partition ts)
  partition_longer no_trees ts = omega arith
  partition_longer (more_trees a bs) ts = omega (arith, longer a (more_onto bs ts), more_longer bs ts)

  pub order_longer : (order : Keys) (ts : Kinds) → length ts ≤ length (order_onto order ts)
  order_longer no_keys ts = omega arith
  order_longer (more_keys a direction nulls keys) ts = omega (arith, longer a (direction_onto direction (nulls_onto nulls (more_keys_onto keys ts))), direction_longer direction (nulls_onto nulls (more_keys_onto keys ts)), nulls_longer nulls (more_keys_onto keys ts), more_keys_longer keys ts)

  more_keys_longer : (keys : Keys) (ts : Kinds) → length ts ≤ length (more_keys_onto keys ts)
  more_keys_longer no_keys ts = omega arith
  more_keys_longer (more_keys a direction nulls keys) ts = omega (arith, longer a (direction_onto direction (nulls_onto nulls (more_keys_onto keys ts))), direction_longer direction (nulls_onto nulls (more_keys_onto keys ts)), nulls_longer nulls (more_keys_onto keys ts), more_keys_longer keys ts)

-- a key and those that follow
key_longer : (a : Tree) (direction : Option SortDirection) (nulls : Option NullsPlace) (ts : Kinds) → length ts ≤ length (onto a (direction_onto direction (nulls_onto nulls ts)))
key_longer a direction nulls ts = omega (arith, longer a (direction_onto direction (nulls_onto nulls ts)), direction_longer direction (nulls_onto nulls ts), nulls_longer nulls ts)

arm_longer : (when gives : Tree) (ts : Kinds) → length ts ≤ length (onto when (m.Then ▸ onto gives ts))
arm_longer when gives ts = omega (arith, longer when (m.Then ▸ onto gives ts), longer gives ts)

module _ (c : ℕ) where
  abbrev pub level : ℕ → ℕ → Parser Tree
  level d h = levels c (deeper_of c d) h

  -- where no sign and no NOT is read, an operand comes first
  pub operand_first : (g d : ℕ) (ts : Kinds) → g ≢ 0 → g ≢ 5 → level d (suc g) ts ≡ level d g ts >>= λ a. goes_on g (level d g) c a.0 a.1
  unfolding levels
  operand_first zero d ts n0 n5 = absurd (n0 refl)
  operand_first (suc zero) d ts n0 n5 = refl
  operand_first (suc (suc zero)) d ts n0 n5 = refl
  operand_first (suc (suc (suc zero))) d ts n0 n5 = refl
  operand_first (suc (suc (suc (suc zero)))) d ts n0 n5 = refl
  operand_first (suc (suc (suc (suc (suc zero))))) d ts n0 n5 = absurd (n5 refl)
  operand_first (suc (suc (suc (suc (suc (suc g)))))) d ts n0 n5 = refl

  lift_loop : (g d : ℕ) (F : Type 0) (a : Tree) (ts rest : Kinds) → suc g < grips rest → Yields F (a, rest) (level d g ts) → level d (suc g) ts ≡ level d g ts >>= (λ x. goes_on g (level d g) c x.0 x.1) → Yields F (a, rest) (level d (suc g) ts)
  lift_loop g d F a ts rest lt y e =
      subst (Yields F (a, rest)) (sym e) (then_exactly F F (a, rest) (a, rest) (level d g ts) (λ x. goes_on g (level d g) c x.0 x.1) (λ f. f) y (stops g (level d g) c a rest lt))

  lift : (g d : ℕ) (F : Type 0) (a : Tree) (ts rest : Kinds) → suc g < grips rest → Begins g ts → Yields F (a, rest) (level d g ts) → Yields F (a, rest) (level d (suc g) ts)
  unfolding levels
  lift zero d F a ts rest lt b y = rw (b.0 (omega arith)) y
  lift (suc (suc (suc (suc (suc zero))))) d F a ts rest lt b y = rw (b.1 (omega arith)) y
  lift g d F a ts rest lt b y = lift_loop g d F a ts rest lt y (operand_first g d ts (omega arith) (omega arith))

  lift_to : (h g d : ℕ) (F : Type 0) (a : Tree) (ts rest : Kinds) → g ≤ h → h < grips rest → Begins g ts → Yields F (a, rest) (level d g ts) → Yields F (a, rest) (level d h ts)
  lift_to zero g d F a ts rest le lt b y = let e : g ≡ 0 = omega arith in subst (λ k. Yields F (a, rest) (level d k ts)) e y
  lift_to (suc h) g d F a ts rest le lt b y =
      ⊎_elim
      (λ l. lift h d F a ts rest lt (λ k. b.0 (omega arith), λ k. b.1 (omega arith)) (lift_to h g d F a ts rest (omega arith) (omega arith) b y))
      (λ l. let e : g ≡ suc h = omega arith in subst (λ k. Yields F (a, rest) (level d k ts)) e y)
      (cases_lt g (suc h))

  -- ---- what is known of a tree
  abbrev ReadsAt : ℕ → Tree → Type 0
  ReadsAt d a = (h : ℕ) (rest : Kinds) → height a ≤ h → h < grips rest → Yields (Fits c d a) (a, rest) (level d h (onto a rest))

  -- a loop that has come to the tree: with n operators left, or past the limit as the tree is
  abbrev Leads : ℕ → ℕ → Tree → Kinds → Reads Tree → Type 0
  Leads g d a rest r = ((n : ℕ) × (n + operators (suc g) a ≡ c) × (r ≡ goes_on g (level d g) n a rest)) ⊎ ((n : ℕ) × (r ≡ Err (Limit n)) × (Fits c d a → ⊥))

  abbrev Goes : ℕ → Tree → Type 0
  Goes d a = (g : ℕ) (rest : Kinds) → g ≢ 0 → g ≢ 3 → g ≢ 5 → height a ≤ suc g → g < grips rest → Leads g d a rest (level d (suc g) (onto a rest))

  abbrev pub Known : ℕ → Tree → Type 0
  Known d a = ReadsAt d a × Goes d a

  pub operators_zero : (a : Tree) (h : ℕ) → height a < h → operators h a ≡ 0
  operators_zero (Binary o a b) h lt = rw (eqb-below (operator_height o) h lt) refl
  operators_zero (IsNull a not) h lt = rw (eqb-below 5 h lt) refl
  operators_zero _ h lt = refl

  reads_from_base : (a : Tree) (d : ℕ) → IsLevelled a → ((rest : Kinds) → height a < grips rest → Yields (Fits c d a) (a, rest) (level d (height a) (onto a rest))) → ReadsAt d a
  reads_from_base a d wl base h rest le lt = lift_to h (height a) d (Fits c d a) a (onto a rest) rest le lt (begins a rest wl) (base rest (omega arith))

  leads_from_yields : (g d : ℕ) (a : Tree) (rest : Kinds) (r : Reads Tree) → height a ≤ g → Yields (Fits c d a) (a, rest) r → Leads g d a rest (r >>= λ x. goes_on g (level d g) c x.0 x.1)
  leads_from_yields g d a rest (Ok z) le y = inl (c, omega (arith, operators_zero a (suc g) (omega arith)), ap (λ (x : Tree × Kinds). goes_on g (level d g) c x.0 x.1) y)
  leads_from_yields g d a rest (Err (Limit n')) le y = inr (n', refl, y)
  leads_from_yields g d a rest (Err (Unexpected left)) le y = absurd y

  goes_from_reads : (a : Tree) (d : ℕ) → ReadsAt d a → (g : ℕ) (rest : Kinds) → g ≢ 0 → g ≢ 5 → height a ≤ g → g < grips rest → Leads g d a rest (level d (suc g) (onto a rest))
  goes_from_reads a d reads g rest n0 n5 le lt =
      subst (Leads g d a rest) (sym (operand_first g d (onto a rest) n0 n5)) (leads_from_yields g d a rest (level d g (onto a rest)) le (reads g rest le lt))

  -- a tree whose height is that of no loop
  plain : (a : Tree) (d : ℕ) → IsLevelled a → ((g : ℕ) → g ≢ 0 → g ≢ 3 → g ≢ 5 → height a ≤ suc g → height a ≤ g) → ((rest : Kinds) → height a < grips rest → Yields (Fits c d a) (a, rest) (level d (height a) (onto a rest))) → Known d a
  plain a d wl tight base =
      let reads : ReadsAt d a = reads_from_base a d wl base in
      (reads, λ g rest n0 n3 n5 le lt. goes_from_reads a d reads g rest n0 n5 (tight g n0 n3 n5 le) lt)

  yields_from_leads : (g d : ℕ) (a : Tree) (rest : Kinds) (r : Reads Tree) → suc g < grips rest → Leads g d a rest r → Yields (Fits c d a) (a, rest) r
  yields_from_leads g d a rest r lt l =
      ⊎_elim
      (λ k. subst (Yields (Fits c d a) (a, rest)) (sym (k.2 ∙ stops g (level d g) k.0 a rest lt)) refl)
      (λ k. subst (Yields (Fits c d a) (a, rest)) (sym k.1) k.2)
      l

  -- a tree that a loop makes
  looped : (g : ℕ) (a : Tree) (d : ℕ) → IsLevelled a → height a ≡ suc g → g ≢ 0 → g ≢ 5 → ((rest : Kinds) → g < grips rest → Leads g d a rest (level d (suc g) (onto a rest))) → Known d a
  looped g a d wl e m0 m5 own =
      let base : (rest : Kinds) → height a < grips rest → Yields (Fits c d a) (a, rest) (level d (height a) (onto a rest)) = λ rest lt. subst (λ k. Yields (Fits c d a) (a, rest) (level d k (onto a rest))) (sym e) (yields_from_leads g d a rest (level d (suc g) (onto a rest)) (omega arith) (own rest (omega arith))) in
      let reads : ReadsAt d a = reads_from_base a d wl base in (
        reads,
        λ f rest n0 n3 n5 le lt.
            ⊎_elim
            (λ l. goes_from_reads a d reads f rest n0 n5 (omega arith) lt)
            (λ l. let same : g ≡ f = omega arith in subst (λ k. Leads k d a rest (level d (suc k) (onto a rest))) same (own rest (omega arith)))
            (cases_lt g f),
      )

  -- ---- chains

  record IsChain (g : ℕ) (o : Operator) : Type 0 where
    op : operator_height o ≡ suc g
    left : left_height o ≡ suc g
    goes : (p : Parser Tree) (n : ℕ) (a : Tree) (ts : Kinds) → goes_on g p n a ts ≡ links p (suc g) n a ts
    n0 : g ≢ 0
    n3 : g ≢ 3
    n5 : g ≢ 5

  pub operators_more : (o : Operator) (a b : Tree) (h : ℕ) → operator_height o ≡ h → operators h (Binary o a b) ≡ suc (operators h a)
  operators_more o a b h e = rw (e, eqb-same h) refl

  operator_here : (h : ℕ) (o : Operator) (ts : Kinds) → operator_height o ≡ h → operator_at h (operator_terminal o ▸ ts) ≡ Some (o, ts)
  operator_here h o ts e = subst (λ k. operator_at k (operator_terminal o ▸ ts) ≡ Some (o, ts)) e (operator_same o ts)

  link_full : (p : Parser Tree) (h : ℕ) (o : Operator) (a : Tree) (ts : Kinds) → operator_height o ≡ h → links p h 0 a (operator_terminal o ▸ ts) ≡ Err (Limit (length (operator_terminal o ▸ ts)))
  unfolding links
  link_full p h o a ts e = rw (operator_here h o ts e) refl

  link_one : (p : Parser Tree) (h n : ℕ) (o : Operator) (a : Tree) (ts : Kinds) → operator_height o ≡ h → links p h (suc n) a (operator_terminal o ▸ ts) ≡ p ts >>= λ b. links p h n (Binary o a b.0) b.1
  unfolding links
  link_one p h n o a ts e = rw (operator_here h o ts e) refl

  chain_operand : (g d n : ℕ) (o : Operator) (a b : Tree) (rest : Kinds) → IsChain g o → suc n + operators (suc g) a ≡ c → (r : Reads Tree) → Yields (Fits c d b) (b, rest) r → Leads g d (Binary o a b) rest (r >>= λ x. links (level d g) (suc g) n (Binary o a x.0) x.1)
  chain_operand g d n o a b rest ch e (Ok z) y = inl (n, omega (arith, operators_more o a b (suc g) ch.op), ap (λ (x : Tree × Kinds). links (level d g) (suc g) n (Binary o a x.0) x.1) y ∙ sym (ch.goes (level d g) n (Binary o a b) rest))
  chain_operand g d n o a b rest ch e (Err (Limit n')) y = inr (n', refl, λ f. y f.1)
  chain_operand g d n o a b rest ch e (Err (Unexpected left)) y = absurd y

  chain_on : (g d n : ℕ) (o : Operator) (a b : Tree) (rest : Kinds) (r : Reads Tree) → IsChain g o → n + operators (suc g) a ≡ c → r ≡ goes_on g (level d g) n a (operator_terminal o ▸ onto b rest) → Yields (Fits c d b) (b, rest) (level d g (onto b rest)) → Leads g d (Binary o a b) rest r
  chain_on g d zero o a b rest r ch e er y =
      inr (length (operator_terminal o ▸ onto b rest), er ∙ ch.goes (level d g) 0 a (operator_terminal o ▸ onto b rest) ∙ link_full (level d g) (suc g) o a (onto b rest) ch.op, λ f. let q : operators (suc g) (Binary o a b) ≤ c = subst (λ k. operators k (Binary o a b) ≤ c) ch.op f.2 in omega (arith, operators_more o a b (suc g) ch.op, q))
  chain_on g d (suc n) o a b rest r ch e er y =
      subst (Leads g d (Binary o a b) rest) (sym (er ∙ ch.goes (level d g) (suc n) a (operator_terminal o ▸ onto b rest) ∙ link_one (level d g) (suc g) n o a (onto b rest) ch.op)) (chain_operand g d n o a b rest ch e (level d g (onto b rest)) y)

  chain : (g : ℕ) (o : Operator) (a b : Tree) (d : ℕ) → IsChain g o → IsLevelled (Binary o a b) → Known d a → Known d b → Known d (Binary o a b)
  chain g o a b d ch wl ka kb =
      looped g (Binary o a b) d wl ch.op ch.n0 ch.n5 (λ rest lt.
      let y = kb.0 g rest (omega (arith, wl.3, ch.op)) lt in
      let next : g < grips (operator_terminal o ▸ onto b rest) = omega (arith, operator_grip o, ch.op) in
      ⊎_elim
      (λ k. chain_on g d k.0 o a b rest (level d (suc g) (onto a (operator_terminal o ▸ onto b rest))) ch k.1 k.2 y)
      (λ k. inr (k.0, k.1, λ f. k.2 f.0))
      (ka.1 g (operator_terminal o ▸ onto b rest) ch.n0 ch.n3 ch.n5 (omega (arith, wl.1, ch.left)) next))

  -- ---- one comparison

  compare_operand : (d : ℕ) (o : Operator) (a b : Tree) (rest : Kinds) (r : Reads Tree) → Yields (Fits c d b) (b, rest) r → Yields (Fits c d (Binary o a b)) (Binary o a b, rest) (r >>= λ x. Ok (Binary o a x.0, x.1))
  compare_operand d o a b rest (Ok z) y = ap (λ (x : Tree × Kinds). let w : Tree × Kinds = (Binary o a x.0, x.1) in w) y
  compare_operand d o a b rest (Err (Limit n')) y = λ f. y f.1
  compare_operand d o a b rest (Err (Unexpected left)) y = absurd y

  compared_one : (p : Parser Tree) (o : Operator) (a : Tree) (ts : Kinds) → operator_height o ≡ 4 → compared p a (operator_terminal o ▸ ts) ≡ p ts >>= λ b. Ok (Binary o a b.0, b.1)
  unfolding compared
  compared_one p o a ts e = rw (operator_here 4 o ts e) refl

  comparison : (o : Operator) (a b : Tree) (d : ℕ) → operator_height o ≡ 4 → left_height o ≡ 3 → IsLevelled (Binary o a b) → Known d a → Known d b → Known d (Binary o a b)
  comparison o a b d e4 e3 wl ka kb =
      plain (Binary o a b) d wl (λ g n0 n3 n5 le. omega (arith, e4)) (λ rest lt.
      let next : 3 < grips (operator_terminal o ▸ onto b rest) = omega (arith, operator_grip o, e4) in
      let ya = ka.0 3 (operator_terminal o ▸ onto b rest) (omega (arith, wl.1, e3)) next in
      let yb = kb.0 3 rest (omega (arith, wl.3, e4)) (omega (arith, e4)) in
      let both : Yields (Fits c d (Binary o a b)) (Binary o a b, rest) (compared (level d 3) a (operator_terminal o ▸ onto b rest)) = subst (Yields (Fits c d (Binary o a b)) (Binary o a b, rest)) (sym (compared_one (level d 3) o a (onto b rest) e4)) (compare_operand d o a b rest (level d 3 (onto b rest)) yb) in
      let whole : Yields (Fits c d (Binary o a b)) (Binary o a b, rest) (level d 4 (onto a (operator_terminal o ▸ onto b rest))) = subst (Yields (Fits c d (Binary o a b)) (Binary o a b, rest)) (sym (operand_first 3 d (onto a (operator_terminal o ▸ onto b rest)) (omega arith) (omega arith))) (then_yields (Fits c d a) (Fits c d (Binary o a b)) (a, operator_terminal o ▸ onto b rest) (Binary o a b, rest) (level d 3 (onto a (operator_terminal o ▸ onto b rest))) (λ x. compared (level d 3) x.0 x.1) (λ f. f.0) ya both) in
      subst (λ k. Yields (Fits c d (Binary o a b)) (Binary o a b, rest) (level d k (onto a (operator_terminal o ▸ onto b rest)))) (sym e4) whole)

  -- ---- tests for NULL

  null_same : (not : Bool) (ts : Kinds) → null_at (not_onto not (m.Null ▸ ts)) ≡ Ok (not, ts)
  unfolding null_at
  null_same true ts = rw (eat_same m.Not (m.Null ▸ ts), expect_same m.Null ts) refl
  null_same false ts = rw (let e : eat m.Not (m.Null ▸ ts) ≡ None = (other_terminals ts).0 in e, expect_same m.Null ts) refl

  test_full : (a : Tree) (not : Bool) (ts : Kinds) → tests 0 a (m.Is ▸ not_onto not (m.Null ▸ ts)) ≡ Err (Limit (length (m.Is ▸ not_onto not (m.Null ▸ ts))))
  unfolding tests
  test_full a not ts = rw (eat_same m.Is (not_onto not (m.Null ▸ ts))) refl

  test_one : (n : ℕ) (a : Tree) (not : Bool) (ts : Kinds) → tests (suc n) a (m.Is ▸ not_onto not (m.Null ▸ ts)) ≡ tests n (IsNull a not) ts
  unfolding tests
  test_one n a not ts = rw (eat_same m.Is (not_onto not (m.Null ▸ ts)), null_same not ts) refl

  test_on : (d n : ℕ) (a : Tree) (not : Bool) (rest : Kinds) (r : Reads Tree) → n + operators 5 a ≡ c → r ≡ tests n a (m.Is ▸ not_onto not (m.Null ▸ rest)) → Leads 4 d (IsNull a not) rest r
  test_on d zero a not rest r e er = inr (length (m.Is ▸ not_onto not (m.Null ▸ rest)), er ∙ test_full a not rest, λ f. omega (arith, f.1))
  test_on d (suc n) a not rest r e er = inl (n, omega arith, er ∙ test_one n a not rest)

  tested : (a : Tree) (not : Bool) (d : ℕ) → IsLevelled (IsNull a not) → Known d a → Known d (IsNull a not)
  tested a not d wl ka =
      looped 4 (IsNull a not) d wl refl (omega arith) (omega arith) (λ rest lt.
      ⊎_elim
      (λ k. test_on d k.0 a not rest (level d 5 (onto a (m.Is ▸ not_onto not (m.Null ▸ rest)))) k.1 k.2)
      (λ k. inr (k.0, k.1, λ f. k.2 f.0))
      (ka.1 4 (m.Is ▸ not_onto not (m.Null ▸ rest)) (omega arith) (omega arith) (omega arith) wl.1 (omega arith)))

  -- ---- what opens a level

  pub enter_yields : {B : Type 0} (left d : ℕ) (F : ℕ → Type 0) (y : B × Kinds) (f : (ℕ → Parser Tree) → Reads B) → ((k : ℕ) → Yields (F k) y (f (levels c (deeper_of c k)))) → Yields (Below d F) y (enter left (deeper_of c d) f)
  unfolding deeper_of
  enter_yields left zero F y f h = λ x. x
  enter_yields left (suc d) F y f h = h d

  signed : (s : Sign) (a : Tree) (d : ℕ) → IsLevelled (Signed s a) → ((k : ℕ) → Known k a) → Known d (Signed s a)
  unfolding levels
  signed s a d wl ka =
      plain (Signed s a) d wl (λ g n0 n3 n5 le. omega arith) (λ rest lt.
      rw (sign_same s (onto a rest)) (enter_yields (length (sign_terminal s ▸ onto a rest)) d (λ k. Fits c k a) (Signed s a, rest) (λ p. p 1 (onto a rest) >>= λ x. Ok (Signed s x.0, x.1)) (λ k. then_yields (Fits c k a) (Fits c k a) (a, rest) (Signed s a, rest) (level k 1 (onto a rest)) (λ x. Ok (Signed s x.0, x.1)) (λ f. f) ((ka k).0 1 rest wl.1 lt) refl)))

  negated : (a : Tree) (d : ℕ) → IsLevelled (Negated a) → ((k : ℕ) → Known k a) → Known d (Negated a)
  unfolding levels
  negated a d wl ka =
      plain (Negated a) d wl (λ g n0 n3 n5 le. omega arith) (λ rest lt.
      rw (eat_same m.Not (onto a rest)) (enter_yields (length (m.Not ▸ onto a rest)) d (λ k. Fits c k a) (Negated a, rest) (λ p. p 6 (onto a rest) >>= λ x. Ok (Negated x.0, x.1)) (λ k. then_yields (Fits c k a) (Fits c k a) (a, rest) (Negated a, rest) (level k 6 (onto a rest)) (λ x. Ok (Negated x.0, x.1)) (λ f. f) ((ka k).0 6 rest wl.1 lt) refl)))

  -- an item, whole, before what ends it
  pub item : (a : Tree) (k : ℕ) (ts : Kinds) → Known k a → 8 < grips ts → Yields (Fits c k a) (a, ts) (level k 8 (onto a ts))
  item a k ts ka lt = ka.0 8 ts (height_most a) lt

  bracket : (a : Tree) (d : ℕ) → IsLevelled (Bracket a) → ((k : ℕ) → Known k a) → Known d (Bracket a)
  unfolding levels primary bracket_at
  bracket a d wl ka =
      plain (Bracket a) d wl (λ g n0 n3 n5 le. omega arith) (λ rest lt.
      enter_yields (suc (length (onto a (m.RightBracket ▸ rest)))) d (λ k. Fits c k a) (Bracket a, rest) (λ p. bracket_at (p 8) (onto a (m.RightBracket ▸ rest))) (λ k.
      then_yields (Fits c k a) (Fits c k a) (a, m.RightBracket ▸ rest) (Bracket a, rest) (level k 8 (onto a (m.RightBracket ▸ rest))) (λ x. expect m.RightBracket x.1 >>= λ r. Ok (Bracket x.0, r)) (λ f. f) (item a k (m.RightBracket ▸ rest) (ka k) (omega arith)) (rw (expect_same m.RightBracket rest) refl)))

  -- ---- lists

  abbrev pub MoreTurns : ℕ → Trees → Type 0
  MoreTurns k bs = (rest : Kinds) → 8 < grips rest → eat m.Comma rest ≡ None → Turns (Fits c k) (after m.Comma (level k 8)) (tree_items bs) (more_onto bs rest) rest

  more_turns : (k : ℕ) (a : Tree) (bs : Trees) → Known k a → MoreTurns k bs → MoreTurns k (more_trees a bs)
  more_turns k a bs ka more rest lt e =
      let mid : Kinds = more_onto bs rest in
      (mid, level k 8 (onto a mid), after_same m.Comma (level k 8) (onto a mid), item a k mid ka (more_grips bs rest lt), omega (arith, longer a mid), more rest lt e)

  abbrev ListReads : ℕ → Trees → Type 0
  ListReads k bs = (rest : Kinds) → 8 < grips rest → eat m.Comma rest ≡ None → Yields (Each (Fits c k) (tree_items bs)) (tree_items bs, rest) (list_at m.Comma (level k 8) (list_onto bs rest))

  list_reads : (k : ℕ) (a : Tree) (bs : Trees) → Known k a → MoreTurns k bs → ListReads k (more_trees a bs)
  list_reads k a bs ka more rest lt e =
      list_yields (Fits c k) m.Comma (level k 8) a (tree_items bs) (onto a (more_onto bs rest)) (more_onto bs rest) rest (item a k (more_onto bs rest) ka (more_grips bs rest lt)) (more rest lt e)

  -- ---- windows

  key_reads : (k : ℕ) (a : Tree) (direction : Option SortDirection) (nulls : Option NullsPlace) (rest : Kinds) → Known k a → 0 < clauses rest → Yields (Fits c k a) ((a, direction, nulls), rest) (key_at (level k 8) (onto a (direction_onto direction (nulls_onto nulls rest))))
  unfolding key_at
  key_reads k a direction nulls rest ka lt =
      let mid : Kinds = direction_onto direction (nulls_onto nulls rest) in
      then_yields (Fits c k a) (Fits c k a) (a, mid) ((a, direction, nulls), rest) (level k 8 (onto a mid)) (λ a. nulls_at (direction_at a.1).1 >>= λ n. Ok ((a.0, (direction_at a.1).0, n.0), n.1)) (λ f. f) (item a k mid ka (key_grips direction nulls rest (omega (arith, clause_grips rest lt))))
      (rw (direction_same direction (nulls_onto nulls rest) (nulls_begins m.Asc nulls rest lt) (nulls_begins m.Desc nulls rest lt)) (rw (nulls_same nulls rest lt) refl))

  abbrev pub KeyTurns : ℕ → Keys → Type 0
  KeyTurns k keys = (rest : Kinds) → 1 < clauses rest → Turns (λ key. Fits c k key.0) (after m.Comma (key_at (level k 8))) (key_items keys) (more_keys_onto keys rest) rest

  key_turns : (k : ℕ) (a : Tree) (direction : Option SortDirection) (nulls : Option NullsPlace) (keys : Keys) → Known k a → KeyTurns k keys → KeyTurns k (more_keys a direction nulls keys)
  key_turns k a direction nulls keys ka more rest lt =
      let mid : Kinds = more_keys_onto keys rest in
      let one : Kinds = onto a (direction_onto direction (nulls_onto nulls mid)) in
      (mid, key_at (level k 8) one, after_same m.Comma (key_at (level k 8)) one, key_reads k a direction nulls mid ka (more_keys_clause keys rest (omega arith)), omega (arith, key_longer a direction nulls mid), more rest lt)

  abbrev pub OrderReads : ℕ → Keys → Type 0
  OrderReads k keys = (rest : Kinds) → 6 < clauses rest → Yields (KeysFit c k keys) (key_items keys, rest) (order_at (level k 8) (order_onto keys rest))

  order_none : (k : ℕ) → OrderReads k no_keys
  unfolding order_at
  order_none k rest lt = rw (clause_stops m.Order rest lt) refl

  order_some : (k : ℕ) (a : Tree) (direction : Option SortDirection) (nulls : Option NullsPlace) (keys : Keys) → Known k a → KeyTurns k keys → OrderReads k (more_keys a direction nulls keys)
  unfolding order_at
  order_some k a direction nulls keys ka more rest lt =
      let mid : Kinds = more_keys_onto keys rest in
      let one : Kinds = onto a (direction_onto direction (nulls_onto nulls mid)) in
      let all : Keys = more_keys a direction nulls keys in
      rw (eat_same m.Order (m.By ▸ one)) (rw (expect_same m.By one)
      (yields_weaker (Each (λ key. Fits c k key.0) (key_items all)) (KeysFit c k all) (key_items all, rest) (list_at m.Comma (key_at (level k 8)) one) (keys_each c k all)
      (list_yields (λ key. Fits c k key.0) m.Comma (key_at (level k 8)) (a, direction, nulls) (key_items keys) one mid rest (key_reads k a direction nulls mid ka (more_keys_clause keys rest (omega arith))) (more rest (omega arith)))))

  abbrev PartitionReads : ℕ → Trees → Type 0
  PartitionReads k bs = (rest : Kinds) → 5 < clauses rest → Yields (AllFit c k bs) (tree_items bs, rest) (partition_at (level k 8) (partition_onto bs rest))

  partition_none : (k : ℕ) → PartitionReads k no_trees
  unfolding partition_at
  partition_none k rest lt = rw (clause_stops m.Partition rest lt) refl

  partition_some : (k : ℕ) (a : Tree) (bs : Trees) → Known k a → MoreTurns k bs → PartitionReads k (more_trees a bs)
  unfolding partition_at
  partition_some k a bs ka more rest lt =
      let one : Kinds = onto a (more_onto bs rest) in
      let all : Trees = more_trees a bs in
      rw (eat_same m.Partition (m.By ▸ one)) (rw (expect_same m.By one)
      (yields_weaker (Each (Fits c k) (tree_items all)) (AllFit c k all) (tree_items all, rest) (list_at m.Comma (level k 8) one) (trees_each c k all)
      (list_reads k a bs ka more rest (omega (arith, clause_grips rest (omega arith))) (clause_stops m.Comma rest (omega arith)))))

  abbrev pub WindowReads : ℕ → WindowTree → Type 0
  WindowReads k w = (rest : Kinds) → Yields (WindowFits c k w) (w, rest) (window_at (level k 8) (window_onto w (m.RightBracket ▸ rest)))

  window_back : (base : Option Name) (partition : Trees) (order : Keys) (frame : Option Frame) (rest : Kinds) → (let r : Reads WindowTree = Ok (window base (trees_of (tree_items partition)) (keys_of (key_items order)) frame, rest) in r) ≡ Ok (window base partition order frame, rest)
  window_back base partition order frame rest = rw (trees_back partition, keys_back order) refl

  window_reads : (k : ℕ) (base : Option Name) (partition : Trees) (order : Keys) (frame : Option Frame) → PartitionReads k partition → OrderReads k order → WindowReads k (window base partition order frame)
  unfolding window_at
  window_reads k base partition order frame kp ko rest =
      let end : Kinds = m.RightBracket ▸ rest in
      let third : Kinds = frame_onto frame end in
      let second : Kinds = order_onto order third in
      let first : Kinds = partition_onto partition second in
      let w : WindowTree = window base partition order frame in
      let last : 6 < clauses third = frame_clause frame end (omega arith) in
      let middle : 5 < clauses second = order_clause order third (omega arith) in
      rw (base_same base first (let h : 2 < clauses first = partition_clause partition second (omega arith) in omega arith))
      (then_yields (AllFit c k partition) (WindowFits c k w) (tree_items partition, second) (w, rest) (partition_at (level k 8) first) (λ ps. order_at (level k 8) ps.1 >>= λ ks. frame_at ks.1 >>= λ f. expect m.RightBracket f.1 >>= λ r. Ok (window base (trees_of ps.0) (keys_of ks.0) f.0, r)) (λ f. f.0) (kp second middle)
      (then_exactly (KeysFit c k order) (WindowFits c k w) (key_items order, third) (w, rest) (order_at (level k 8) second) (λ ks. frame_at ks.1 >>= λ f. expect m.RightBracket f.1 >>= λ r. Ok (window base (trees_of (tree_items partition)) (keys_of ks.0) f.0, r)) (λ f. f.1) (ko third last)
      (rw (frame_same frame end (omega arith)) (rw (expect_same m.RightBracket rest) (window_back base partition order frame rest)))))

  -- ---- calls

  abbrev OverReads : ℕ → OverTree → Type 0
  OverReads d over = (rest : Kinds) → 0 < grips rest → Yields (OverFits c d over) (over, rest) (over_at (deeper_of c d) (over_onto over rest))

  over_none : (d : ℕ) → OverReads d no_over
  unfolding over_at
  over_none d rest lt = rw (grip_stops m.Over rest lt) refl

  over_named : (d : ℕ) (n : Name) → OverReads d (over_name n)
  unfolding over_at
  over_named d n rest lt = rw (eat_same m.Over (name_kind n ∷ rest)) (rw (eat_name_kind m.LeftBracket n rest) (rw (name_at_same n rest) refl))

  over_windowed : (d : ℕ) (w : WindowTree) → ((k : ℕ) → WindowReads k w) → OverReads d (over_window w)
  unfolding over_at
  over_windowed d w kw rest lt =
      let inside : Kinds = window_onto w (m.RightBracket ▸ rest) in
      rw (eat_same m.Over (m.LeftBracket ▸ inside)) (rw (eat_same m.LeftBracket inside)
      (enter_yields (length (m.LeftBracket ▸ inside)) d (λ k. WindowFits c k w) (over_window w, rest) (λ p. window_at (p 8) inside >>= λ x. Ok (over_window x.0, x.1)) (λ k.
      then_yields (WindowFits c k w) (WindowFits c k w) (w, rest) (over_window w, rest) (window_at (level k 8) inside) (λ x. Ok (over_window x.0, x.1)) (λ f. f) (kw k rest) refl)))

  -- the arguments, between the brackets

  arguments_all : (k : ℕ) (rest : Kinds) → Yields (Unit {0}) (None, rest) (arguments_at (level k 8) (m.Star ▸ m.RightBracket ▸ rest))
  unfolding arguments_at
  arguments_all k rest = rw (eat_same m.Star (m.RightBracket ▸ rest)) (rw (expect_same m.RightBracket rest) refl)

  arguments_none : (k : ℕ) (rest : Kinds) → Yields (Unit {0}) (Some [], rest) (arguments_at (level k 8) (m.RightBracket ▸ rest))
  unfolding arguments_at
  arguments_none k rest = rw (other_terminals rest).2 (rw (eat_same m.RightBracket rest) refl)

  arguments_some : (k : ℕ) (a : Tree) (bs : Trees) (rest : Kinds) → Known k a → MoreTurns k bs → Yields (AllFit c k (more_trees a bs)) (Some (a ∷ tree_items bs), rest) (arguments_at (level k 8) (onto a (more_onto bs (m.RightBracket ▸ rest))))
  unfolding arguments_at
  arguments_some k a bs rest ka more =
      let close : Kinds = m.RightBracket ▸ rest in
      let b = begun a (more_onto bs close) in
      rw (begun_stops m.Star (onto a (more_onto bs close)) refl b) (rw (begun_stops m.RightBracket (onto a (more_onto bs close)) refl b)
      (then_exactly (Each (Fits c k) (a ∷ tree_items bs)) (AllFit c k (more_trees a bs)) (a ∷ tree_items bs, close) (Some (a ∷ tree_items bs), rest) (list_at m.Comma (level k 8) (onto a (more_onto bs close))) (λ bs. expect m.RightBracket bs.1 >>= λ r. Ok (Some bs.0, r)) (trees_each c k (more_trees a bs)) (list_reads k a bs ka more close (omega arith) (other_terminals rest).1)
      (rw (expect_same m.RightBracket rest) refl)))

  primary_name : (d : ℕ) (b : Bool) (text : List ℕ) (ts : Kinds) → level d 0 (written b text ∷ ts) ≡ named_at (deeper_of c d) (record { text = text; quoted = b }) ts
  unfolding levels primary
  primary_name d true text ts = refl
  primary_name d false text ts = refl

  name_first : (d : ℕ) (n : Name) (ts : Kinds) → level d 0 (name_kind n ∷ ts) ≡ named_at (deeper_of c d) n ts
  name_first d n ts = primary_name d n.quoted n.text ts

  call_first : (d : ℕ) (f : Name) (ts : Kinds) → named_at (deeper_of c d) f (m.LeftBracket ▸ ts) ≡ call_at (deeper_of c d) f ts
  unfolding named_at
  call_first d f ts = rw (other_terminals ts).3 (rw (eat_same m.LeftBracket ts) refl)

  -- the call's brackets open a level
  called : (d : ℕ) (f : Name) (arguments : Option (List Tree)) (over : OverTree) (F : ℕ → Type 0) (inside rest : Kinds) → OverReads d over → 0 < grips rest → ((k : ℕ) → Yields (F k) (arguments, over_onto over rest) (arguments_at (level k 8) inside)) → Yields (Below d F × OverFits c d over) (call_of f arguments over, rest) (level d 0 (name_kind f ∷ (m.LeftBracket ▸ inside)))
  unfolding call_at
  called d f arguments over F inside rest ko lt h =
      let G : Type 0 = Below d F × OverFits c d over in
      let y : Tree × Kinds = (call_of f arguments over, rest) in
      subst (Yields G y) (sym (name_first d f (m.LeftBracket ▸ inside) ∙ call_first d f inside))
      (then_yields (Below d F) G (arguments, over_onto over rest) y (enter (suc (length inside)) (deeper_of c d) (λ p. arguments_at (p 8) inside)) (λ bs. over_at (deeper_of c d) bs.1 >>= λ x. Ok (call_of f bs.0 x.0, x.1)) (λ f. f.0) (enter_yields (suc (length inside)) d F (arguments, over_onto over rest) (λ p. arguments_at (p 8) inside) h)
      (then_yields (OverFits c d over) G (over, rest) y (over_at (deeper_of c d) (over_onto over rest)) (λ x. Ok (call_of f arguments x.0, x.1)) (λ f. f.1) (ko rest lt) refl))

  call_all : (d : ℕ) (f : Name) (over : OverTree) → OverLevelled over → OverReads d over → Known d (CallAll f over)
  call_all d f over wl ko =
      plain (CallAll f over) d wl (λ g n0 n3 n5 le. omega arith) (λ rest lt. called d f None over (λ k. Unit {0}) (m.Star ▸ m.RightBracket ▸ over_onto over rest) rest ko lt (λ k. arguments_all k (over_onto over rest)))

  call_list : (d : ℕ) (f : Name) (bs : Trees) (over : OverTree) → IsLevelled (Call f bs over) → OverReads d over → ((k : ℕ) (rest : Kinds) → Yields (AllFit c k bs) (Some (tree_items bs), rest) (arguments_at (level k 8) (list_onto bs (m.RightBracket ▸ rest)))) → Known d (Call f bs over)
  call_list d f bs over wl ko kb =
      plain (Call f bs over) d wl (λ g n0 n3 n5 le. omega arith) (λ rest lt.
      subst (λ z. Yields (Fits c d (Call f bs over)) (Call f z over, rest) (level d 0 (onto (Call f bs over) rest))) (trees_back bs)
      (called d f (Some (tree_items bs)) over (λ k. AllFit c k bs) (list_onto bs (m.RightBracket ▸ over_onto over rest)) rest ko lt (λ k. kb k (over_onto over rest))))

  column : (n : Name) (d : ℕ) → Known d (Column n)
  unfolding named_at
  column n d =
      plain (Column n) d tt (λ g n0 n3 n5 le. omega arith) (λ rest lt. rw (name_first d n rest) (rw (grip_stops m.Dot rest lt) (rw (grip_stops m.LeftBracket rest lt) refl)))

  qualified : (a b : Name) (d : ℕ) → Known d (Qualified a b)
  unfolding named_at
  qualified a b d =
      plain (Qualified a b) d tt (λ g n0 n3 n5 le. omega arith) (λ rest lt. rw (name_first d a (m.Dot ▸ (name_kind b ∷ rest))) (rw (eat_same m.Dot (name_kind b ∷ rest)) (rw (name_at_same b rest) refl)))

  literal_first : (d : ℕ) (literal : Literal) (ts : Kinds) → level d 0 (literal_kind literal ∷ ts) ≡ Ok (Constant literal, ts)
  unfolding levels primary
  literal_first d (l.Number n) ts = refl
  literal_first d (l.Text text) ts = refl
  literal_first d (l.Truth true) ts = refl
  literal_first d (l.Truth false) ts = refl
  literal_first d l.Null ts = refl

  constant : (literal : Literal) (d : ℕ) → Known d (Constant literal)
  constant literal d = plain (Constant literal) d tt (λ g n0 n3 n5 le. omega arith) (λ rest lt. rw (literal_first d literal rest) refl)

  -- ---- CASE

  arm_reads : (k : ℕ) (when gives : Tree) (rest : Kinds) → Known k when → Known k gives → 8 < grips rest → Yields (Fits c k when × Fits c k gives) ((when, gives), rest) (arm_at (level k 8) (onto when (m.Then ▸ onto gives rest)))
  unfolding arm_at
  arm_reads k when gives rest kw kg lt =
      let F : Type 0 = Fits c k when × Fits c k gives in
      let mid : Kinds = m.Then ▸ onto gives rest in
      then_yields (Fits c k when) F (when, mid) ((when, gives), rest) (level k 8 (onto when mid)) (λ a. expect m.Then a.1 >>= λ r. level k 8 r >>= λ b. Ok ((a.0, b.0), b.1)) (λ f. f.0) (item when k mid kw (omega arith))
      (rw (expect_same m.Then (onto gives rest))
      (then_yields (Fits c k gives) F (gives, rest) ((when, gives), rest) (level k 8 (onto gives rest)) (λ b. Ok ((when, b.0), b.1)) (λ f. f.1) (item gives k rest kg lt) refl))

  abbrev FitsArm : ℕ → Tree × Tree → Type 0
  FitsArm k arm = Fits c k arm.0 × Fits c k arm.1

  abbrev ArmTurns : ℕ → Arms → Type 0
  ArmTurns k arms = (rest : Kinds) → 8 < grips rest → eat m.When rest ≡ None → Turns (FitsArm k) (after m.When (arm_at (level k 8))) (arm_items arms) (arms_onto arms rest) rest

  arm_turns : (k : ℕ) (when gives : Tree) (arms : Arms) → Known k when → Known k gives → ArmTurns k arms → ArmTurns k (more_arms when gives arms)
  arm_turns k when gives arms kw kg more rest lt e =
      let mid : Kinds = arms_onto arms rest in
      let one : Kinds = onto when (m.Then ▸ onto gives mid) in
      (mid, arm_at (level k 8) one, after_same m.When (arm_at (level k 8)) one, arm_reads k when gives mid kw kg (arms_grips arms rest lt), omega (arith, arm_longer when gives mid), more rest lt e)

  abbrev ElseReads : ℕ → Otherwise → Type 0
  ElseReads k other = (rest : Kinds) → Yields (ElseFits c k other) (other, m.End ▸ rest) (else_at (level k 8) (else_onto other (m.End ▸ rest)))

  else_none : (k : ℕ) → ElseReads k no_else
  unfolding else_at
  else_none k rest = rw (other_terminals rest).4 refl

  else_some : (k : ℕ) (a : Tree) → Known k a → ElseReads k (or_else a)
  unfolding else_at
  else_some k a ka rest =
      rw (eat_same m.Else (onto a (m.End ▸ rest))) (then_yields (Fits c k a) (Fits c k a) (a, m.End ▸ rest) (or_else a, m.End ▸ rest) (level k 8 (onto a (m.End ▸ rest))) (λ x. Ok (or_else x.0, x.1)) (λ f. f) (item a k (m.End ▸ rest) ka (omega arith)) refl)

  case_inside : (k : ℕ) (when gives : Tree) (arms : Arms) (other : Otherwise) (rest : Kinds) → Known k when → Known k gives → ArmTurns k arms → ElseReads k other → Yields (ArmsFit c k (more_arms when gives arms) × ElseFits c k other) (Case (more_arms when gives arms) other, rest) (case_at (level k 8) (arms_onto (more_arms when gives arms) (else_onto other (m.End ▸ rest))))
  unfolding case_at
  case_inside k when gives arms other rest kw kg more ko =
      let last : Kinds = else_onto other (m.End ▸ rest) in
      let mid : Kinds = arms_onto arms last in
      let one : Kinds = onto when (m.Then ▸ onto gives mid) in
      let all : Arms = more_arms when gives arms in
      let F : Type 0 = ArmsFit c k all × ElseFits c k other in
      let y : Tree × Kinds = (Case all other, rest) in
      let w = when_stops other rest in
      rw (expect_same m.When one)
      (then_yields (Each (FitsArm k) (arm_items all)) F (arm_items all, last) y (list_at m.When (arm_at (level k 8)) one) (λ arms. else_at (level k 8) arms.1 >>= λ other. expect m.End other.1 >>= λ r. Ok (Case (arms_of arms.0) other.0, r)) (λ f. arms_each c k all f.0) (list_yields (FitsArm k) m.When (arm_at (level k 8)) (when, gives) (arm_items arms) one mid last (arm_reads k when gives mid kw kg (arms_grips arms last w.1)) (more last w.1 w.0))
      (then_exactly (ElseFits c k other) F (other, m.End ▸ rest) y (else_at (level k 8) last) (λ other. expect m.End other.1 >>= λ r. Ok (Case (arms_of (arm_items all)) other.0, r)) (λ f. f.1) (ko rest)
      (rw (expect_same m.End rest) (rw (arms_back arms) refl))))

  cased : (when gives : Tree) (arms : Arms) (other : Otherwise) (d : ℕ) → IsLevelled (Case (more_arms when gives arms) other) → ((k : ℕ) → Known k when) → ((k : ℕ) → Known k gives) → ((k : ℕ) → ArmTurns k arms) → ((k : ℕ) → ElseReads k other) → Known d (Case (more_arms when gives arms) other)
  unfolding levels primary
  cased when gives arms other d wl kw kg ka ko =
      let all : Arms = more_arms when gives arms in
      plain (Case all other) d wl (λ g n0 n3 n5 le. omega arith) (λ rest lt.
      enter_yields (suc (length (arms_onto all (else_onto other (m.End ▸ rest))))) d (λ k. ArmsFit c k all × ElseFits c k other) (Case all other, rest) (λ p. case_at (p 8) (arms_onto all (else_onto other (m.End ▸ rest)))) (λ k. case_inside k when gives arms other rest (kw k) (kg k) (ka k) (ko k)))

  -- ---- each tree

  or_chain : IsChain 7 o.Or
  or_chain = record { op = refl; left = refl; goes = λ p n a ts. refl; n0 = omega arith; n3 = omega arith; n5 = omega arith }

  and_chain : IsChain 6 o.And
  and_chain = record { op = refl; left = refl; goes = λ p n a ts. refl; n0 = omega arith; n3 = omega arith; n5 = omega arith }

  add_chain : IsChain 2 o.Add
  add_chain = record { op = refl; left = refl; goes = λ p n a ts. refl; n0 = omega arith; n3 = omega arith; n5 = omega arith }

  subtract_chain : IsChain 2 o.Subtract
  subtract_chain = record { op = refl; left = refl; goes = λ p n a ts. refl; n0 = omega arith; n3 = omega arith; n5 = omega arith }

  multiply_chain : IsChain 1 o.Multiply
  multiply_chain = record { op = refl; left = refl; goes = λ p n a ts. refl; n0 = omega arith; n3 = omega arith; n5 = omega arith }

  divide_chain : IsChain 1 o.Divide
  divide_chain = record { op = refl; left = refl; goes = λ p n a ts. refl; n0 = omega arith; n3 = omega arith; n5 = omega arith }

  remainder_chain : IsChain 1 o.Remainder
  remainder_chain = record { op = refl; left = refl; goes = λ p n a ts. refl; n0 = omega arith; n3 = omega arith; n5 = omega arith }

  binary : (o : Operator) (a b : Tree) (d : ℕ) → IsLevelled (Binary o a b) → Known d a → Known d b → Known d (Binary o a b)
  binary o.Or a b d wl ka kb = chain 7 o.Or a b d or_chain wl ka kb
  binary o.And a b d wl ka kb = chain 6 o.And a b d and_chain wl ka kb
  binary o.Equal a b d wl ka kb = comparison o.Equal a b d refl refl wl ka kb
  binary o.NotEqual a b d wl ka kb = comparison o.NotEqual a b d refl refl wl ka kb
  binary o.Less a b d wl ka kb = comparison o.Less a b d refl refl wl ka kb
  binary o.LessOrEqual a b d wl ka kb = comparison o.LessOrEqual a b d refl refl wl ka kb
  binary o.Greater a b d wl ka kb = comparison o.Greater a b d refl refl wl ka kb
  binary o.GreaterOrEqual a b d wl ka kb = comparison o.GreaterOrEqual a b d refl refl wl ka kb
  binary o.Add a b d wl ka kb = chain 2 o.Add a b d add_chain wl ka kb
  binary o.Subtract a b d wl ka kb = chain 2 o.Subtract a b d subtract_chain wl ka kb
  binary o.Multiply a b d wl ka kb = chain 1 o.Multiply a b d multiply_chain wl ka kb
  binary o.Divide a b d wl ka kb = chain 1 o.Divide a b d divide_chain wl ka kb
  binary o.Remainder a b d wl ka kb = chain 1 o.Remainder a b d remainder_chain wl ka kb

  mutual
    pub known : (a : Tree) → IsLevelled a → (d : ℕ) → Known d a
    known (Constant literal) wl d = constant literal d
    known (Column n) wl d = column n d
    known (Qualified a b) wl d = qualified a b d
    known (CallAll f over) wl d = call_all d f over wl (over_known over wl d)
    known (Call f no_trees over) wl d = call_list d f no_trees over wl (over_known over wl.1 d) (λ k rest. arguments_none k rest)
    known (Call f (more_trees a bs) over) wl d = call_list d f (more_trees a bs) over wl (over_known over wl.1 d) (λ k rest. arguments_some k a bs rest (known a wl.0.0 k) (more_known bs wl.0.1 k))
    known (Case no_arms other) wl d = absurd wl.0
    known (Case (more_arms when gives arms) other) wl d = cased when gives arms other d wl (known when wl.1.0) (known gives wl.1.1) (arms_known arms wl.1.2) (else_known other wl.2)
    known (Bracket a) wl d = bracket a d wl (known a wl)
    known (Signed s a) wl d = signed s a d wl (known a wl.0)
    known (Binary o a b) wl d = binary o a b d wl (known a wl.0 d) (known b wl.2 d)
    known (IsNull a not) wl d = tested a not d wl (known a wl.0 d)
    known (Negated a) wl d = negated a d wl (known a wl.0)

    more_known : (bs : Trees) → AreLevelled bs → (k : ℕ) → MoreTurns k bs
    more_known no_trees wl k = λ rest lt e. (refl, after_none m.Comma (level k 8) rest e)
    more_known (more_trees a bs) wl k = more_turns k a bs (known a wl.0 k) (more_known bs wl.1 k)

    arms_known : (arms : Arms) → ArmsLevelled arms → (k : ℕ) → ArmTurns k arms
    arms_known no_arms wl k = λ rest lt e. (refl, after_none m.When (arm_at (level k 8)) rest e)
    arms_known (more_arms when gives arms) wl k = arm_turns k when gives arms (known when wl.0 k) (known gives wl.1 k) (arms_known arms wl.2 k)

    else_known : (other : Otherwise) → ElseLevelled other → (k : ℕ) → ElseReads k other
    else_known no_else wl k = else_none k
    else_known (or_else a) wl k = else_some k a (known a wl k)

    over_known : (over : OverTree) → OverLevelled over → (d : ℕ) → OverReads d over
    over_known no_over wl d = over_none d
    over_known (over_name n) wl d = over_named d n
    over_known (over_window w) wl d = over_windowed d w (window_known w wl)

    pub window_known : (w : WindowTree) → WindowLevelled w → (k : ℕ) → WindowReads k w
    window_known (window base no_trees order frame) wl k = window_reads k base no_trees order frame (partition_none k) (order_known order wl.1 k)
    window_known (window base (more_trees a bs) order frame) wl k = window_reads k base (more_trees a bs) order frame (partition_some k a bs (known a wl.0.0 k) (more_known bs wl.0.1 k)) (order_known order wl.1 k)

    pub order_known : (order : Keys) → KeysLevelled order → (k : ℕ) → OrderReads k order
    order_known no_keys wl k = order_none k
    order_known (more_keys a direction nulls keys) wl k = order_some k a direction nulls keys (known a wl.0 k) (keys_known keys wl.1 k)

    keys_known : (keys : Keys) → KeysLevelled keys → (k : ℕ) → KeyTurns k keys
    keys_known no_keys wl k = λ rest lt. (refl, after_none m.Comma (key_at (level k 8)) rest (clause_stops m.Comma rest lt))
    keys_known (more_keys a direction nulls keys) wl k = key_turns k a direction nulls keys (known a wl.0 k) (keys_known keys wl.1 k)
