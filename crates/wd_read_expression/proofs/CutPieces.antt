-- What of an expression never passes a limit, and what of it stands before other tokens.
use Rattle.std.proofs.Common.{◌≡◌, ℕ, Bool, true, false, [], ◌∷◌, Option, Some, None, Result, Ok, Err, refl, ap, ◌∙◌}
use Rattle.wd_lex.specs.declared.token.Terminal.{Terminal}
use Rattle.wd_lex.specs.declared.token.Terminal.TheVariants as m
use Rattle.wd_lex.specs.declared.token.TokenKind.TheVariants as t
use Rattle.wd_read_cursor.specs.declared.words.KeyWord.{KeyWord}
use Rattle.wd_read_cursor.specs.declared.words.KeyWord.TheVariants as k
use Rattle.wd_read_cursor.specs.declared.name.Name.{Name}
use Rattle.wd_syntax.specs.declared.frame.Frame.{Frame}
use Rattle.wd_syntax.specs.declared.frame.FrameMode.{FrameMode}
use Rattle.wd_syntax.specs.declared.frame.FrameMode.TheVariants.{Rows, Range, Groups}
use Rattle.wd_syntax.specs.declared.frame.Bound.{Bound}
use Rattle.wd_syntax.specs.declared.frame.Bound.TheVariants.{UnboundedPreceding, Preceding, CurrentRow, Following, UnboundedFollowing}
use Rattle.wd_syntax.specs.declared.frame.Extent.{Extent}
use Rattle.wd_syntax.specs.declared.frame.Extent.TheVariants.{Start, Between}
use Rattle.wd_syntax.specs.declared.frame.Exclusion.{Exclusion}
use Rattle.wd_syntax.specs.declared.frame.Exclusion.TheVariants as x
use Rattle.wd_syntax.specs.declared.expression.SortDirection.{SortDirection}
use Rattle.wd_syntax.specs.declared.expression.SortDirection.TheVariants.{Ascending, Descending}
use Rattle.wd_syntax.specs.declared.expression.NullsPlace.{NullsPlace}
use Rattle.wd_syntax.specs.declared.expression.NullsPlace.TheVariants as p
use Rattle.wd_read_cursor.specs.Tokens.{Kinds, ◌▸◌, ◌▹◌, name_kind}
use Rattle.wd_syntax.specs.Tokens.{operator_terminal, sign_terminal}
use Rattle.wd_syntax.specs.Tree.{Tree, Constant, Column, Qualified, CallAll, Call, Case, Bracket, Signed, Binary, IsNull, Negated, Trees, no_trees, more_trees, Arms, no_arms, more_arms, Otherwise, no_else, or_else, OverTree, no_over, over_name, over_window, WindowTree, window, Keys, no_keys, more_keys, Key}
use Rattle.wd_syntax.specs.Spelling.{mode_onto, bound_onto, extent_onto, exclusion_onto, frame_onto, direction_onto, nulls_onto, not_onto, base_onto, onto, list_onto, more_onto, arms_onto, else_onto, over_onto, window_onto, partition_onto, order_onto, more_keys_onto}
use Rattle.wd_read_cursor.specs.Cursor.{Fault, Unexpected, Limit, ◌>>=◌, choose, eat, expect, eat_word, expect_word, eat_name, name_at, number_at, some_or_unexpected}
use Rattle.wd_read_expression.specs.Reading.{mode_at, side_at, unbounded, away, bound_at, extent_at, exclusion_words_at, exclusion_at, frame_if, frame_at, nulls_at, null_at}
use Rattle.std.proofs.Common.{◌++◌}
use Rattle.wd_read_expression.proofs.SoundPieces.{Holds}
use Rattle.wd_read_expression.proofs.Sound.{key_onto, arm_onto}

-- what holds of how many tokens are left, where reading has passed a limit
abbrev pub CutBy : {B : Type 0} → (ℕ → Type 0) → Result B Fault → Type 0
CutBy K (Ok x) = Unit {0}
CutBy K (Err (Unexpected left)) = Unit {0}
CutBy K (Err (Limit left)) = K left

pub then_cuts : {B C : Type 0} (K L : ℕ → Type 0) (P : B → Type 0) (r : Result B Fault) (f : B → Result C Fault) → CutBy K r → Holds P r → ((left : ℕ) → K left → L left) → ((x : B) → P x → CutBy L (f x)) → CutBy L (r >>= f)
then_cuts K L P (Ok x) f h i k next = next x i
then_cuts K L P (Err (Unexpected left)) f h i k next = tt
then_cuts K L P (Err (Limit left)) f h i k next = k left h

abbrev pub MayCut : {A : Type 0} → (ℕ → Type 0) → Option (Result A Fault) → Type 0
MayCut K None = Unit {0}
MayCut K (Some r) = CutBy K r

-- ---- what never passes a limit

pub some_cuts : {A : Type 0} (left : ℕ) (K : ℕ → Type 0) (o : Option A) → CutBy K (some_or_unexpected left o)
some_cuts left K None = tt
some_cuts left K (Some x) = tt

pub expect_cuts : (K : ℕ → Type 0) (x : Terminal) (ts : Kinds) → CutBy K (expect x ts)
unfolding expect
expect_cuts K x ts = some_cuts _ K (eat x ts)

pub expect_word_cuts : (K : ℕ → Type 0) (x : KeyWord) (ts : Kinds) → CutBy K (expect_word x ts)
unfolding expect_word
expect_word_cuts K x ts = some_cuts _ K (eat_word x ts)

pub name_cuts : (K : ℕ → Type 0) (ts : Kinds) → CutBy K (name_at ts)
unfolding name_at
name_cuts K ts = some_cuts _ K (eat_name ts)

pub number_cuts : (K : ℕ → Type 0) (ts : Kinds) → CutBy K (number_at ts)
unfolding number_at
number_cuts K [] = tt
number_cuts K (t.Terminal y ∷ ts) = tt
number_cuts K (t.Word text ∷ ts) = tt
number_cuts K (t.Quoted text ∷ ts) = tt
number_cuts K (t.Literal text ∷ ts) = tt
number_cuts K (t.Number n ∷ ts) = tt

-- the next step, whatever was read
pub on_cuts : {B C : Type 0} (K : ℕ → Type 0) (r : Result B Fault) (f : B → Result C Fault) → CutBy K r → ((x : B) → CutBy K (f x)) → CutBy K (r >>= f)
on_cuts K (Ok x) f h next = next x
on_cuts K (Err (Unexpected left)) f h next = tt
on_cuts K (Err (Limit left)) f h next = h

pub either_cuts : {B : Type 0} (K : ℕ → Type 0) (o : Option Kinds) (f : Kinds → Result B Fault) (b : Result B Fault) → ((r : Kinds) → CutBy K (f r)) → CutBy K b → CutBy K (choose o f b)
either_cuts K None f b h i = i
either_cuts K (Some r) f b h i = h r

side_cuts : (K : ℕ → Type 0) (ts : Kinds) → CutBy K (side_at ts)
unfolding side_at
side_cuts K ts = either_cuts K (eat_word k.Preceding ts) (λ r. Ok (true, r)) (expect_word k.Following ts >>= λ r. Ok (false, r)) (λ r. tt) (on_cuts K (expect_word k.Following ts) (λ r. Ok (false, r)) (expect_word_cuts K k.Following ts) (λ r. tt))

bound_cuts : (K : ℕ → Type 0) (ts : Kinds) → CutBy K (bound_at ts)
unfolding bound_at
bound_cuts K ts =
    either_cuts K (eat_word k.Unbounded ts) (λ r. side_at r >>= λ side. Ok (unbounded side.0, side.1)) (choose (eat_word k.Current ts) (λ r. expect_word k.Row r >>= λ r. Ok (CurrentRow, r)) (number_at ts >>= λ n. side_at n.1 >>= λ side. Ok (away n.0 side.0, side.1)))
    (λ r. on_cuts K (side_at r) (λ side. Ok (unbounded side.0, side.1)) (side_cuts K r) (λ side. tt))
    (either_cuts K (eat_word k.Current ts) (λ r. expect_word k.Row r >>= λ r. Ok (CurrentRow, r)) (number_at ts >>= λ n. side_at n.1 >>= λ side. Ok (away n.0 side.0, side.1))
    (λ r. on_cuts K (expect_word k.Row r) (λ r. Ok (CurrentRow, r)) (expect_word_cuts K k.Row r) (λ r. tt))
    (on_cuts K (number_at ts) (λ n. side_at n.1 >>= λ side. Ok (away n.0 side.0, side.1)) (number_cuts K ts) (λ n. on_cuts K (side_at n.1) (λ side. Ok (away n.0 side.0, side.1)) (side_cuts K n.1) (λ side. tt))))

extent_cuts : (K : ℕ → Type 0) (ts : Kinds) → CutBy K (extent_at ts)
unfolding extent_at
extent_cuts K ts =
    either_cuts K (eat_word k.Between ts) (λ r. bound_at r >>= λ a. expect m.And a.1 >>= λ r. bound_at r >>= λ b. Ok (Between a.0 b.0, b.1)) (bound_at ts >>= λ a. Ok (Start a.0, a.1))
    (λ r. on_cuts K (bound_at r) (λ a. expect m.And a.1 >>= λ r. bound_at r >>= λ b. Ok (Between a.0 b.0, b.1)) (bound_cuts K r) (λ a. on_cuts K (expect m.And a.1) (λ r. bound_at r >>= λ b. Ok (Between a.0 b.0, b.1)) (expect_cuts K m.And a.1) (λ r. on_cuts K (bound_at r) (λ b. Ok (Between a.0 b.0, b.1)) (bound_cuts K r) (λ b. tt))))
    (on_cuts K (bound_at ts) (λ a. Ok (Start a.0, a.1)) (bound_cuts K ts) (λ a. tt))

excluded_cuts : (K : ℕ → Type 0) (ts : Kinds) → CutBy K (exclusion_words_at ts)
unfolding exclusion_words_at
excluded_cuts K ts =
    either_cuts K (eat_word k.Current ts) (λ r. expect_word k.Row r >>= λ r. Ok (x.CurrentRow, r)) (choose (eat m.Group ts) (λ r. Ok (x.Group, r)) (choose (eat_word k.Ties ts) (λ r. Ok (x.Ties, r)) (expect_word k.No ts >>= λ r. expect_word k.Others r >>= λ r. Ok (x.NoOthers, r))))
    (λ r. on_cuts K (expect_word k.Row r) (λ r. Ok (x.CurrentRow, r)) (expect_word_cuts K k.Row r) (λ r. tt))
    (either_cuts K (eat m.Group ts) (λ r. Ok (x.Group, r)) (choose (eat_word k.Ties ts) (λ r. Ok (x.Ties, r)) (expect_word k.No ts >>= λ r. expect_word k.Others r >>= λ r. Ok (x.NoOthers, r))) (λ r. tt)
    (either_cuts K (eat_word k.Ties ts) (λ r. Ok (x.Ties, r)) (expect_word k.No ts >>= λ r. expect_word k.Others r >>= λ r. Ok (x.NoOthers, r)) (λ r. tt)
    (on_cuts K (expect_word k.No ts) (λ r. expect_word k.Others r >>= λ r. Ok (x.NoOthers, r)) (expect_word_cuts K k.No ts) (λ r. on_cuts K (expect_word k.Others r) (λ r. Ok (x.NoOthers, r)) (expect_word_cuts K k.Others r) (λ r. tt)))))

exclusion_cuts : (K : ℕ → Type 0) (ts : Kinds) → CutBy K (exclusion_at ts)
unfolding exclusion_at
exclusion_cuts K ts = either_cuts K (eat_word k.Exclude ts) (λ r. exclusion_words_at r >>= λ e. Ok (Some e.0, e.1)) (Ok (None, ts)) (λ r. on_cuts K (exclusion_words_at r) (λ e. Ok (Some e.0, e.1)) (excluded_cuts K r) (λ e. tt)) tt

frame_if_cuts : (K : ℕ → Type 0) (o : Option (FrameMode × Kinds)) (ts : Kinds) → CutBy K (frame_if o ts)
frame_if_cuts K None ts = tt
frame_if_cuts K (Some y) ts = on_cuts K (extent_at y.1) (λ a. exclusion_at a.1 >>= λ e. Ok (Some (record { mode = y.0; extent = a.0; exclusion = e.0 }), e.1)) (extent_cuts K y.1) (λ a. on_cuts K (exclusion_at a.1) (λ e. Ok (Some (record { mode = y.0; extent = a.0; exclusion = e.0 }), e.1)) (exclusion_cuts K a.1) (λ e. tt))

pub frame_cuts : (K : ℕ → Type 0) (ts : Kinds) → CutBy K (frame_at ts)
unfolding frame_at
frame_cuts K ts = frame_if_cuts K (mode_at ts) ts

pub nulls_cuts : (K : ℕ → Type 0) (ts : Kinds) → CutBy K (nulls_at ts)
unfolding nulls_at
nulls_cuts K ts = either_cuts K (eat_word k.Nulls ts) (λ r. choose (eat_word k.First r) (λ r. Ok (Some p.First, r)) (expect_word k.Last r >>= λ r. Ok (Some p.Last, r))) (Ok (None, ts)) (λ r. either_cuts K (eat_word k.First r) (λ r. Ok (Some p.First, r)) (expect_word k.Last r >>= λ r. Ok (Some p.Last, r)) (λ r. tt) (on_cuts K (expect_word k.Last r) (λ r. Ok (Some p.Last, r)) (expect_word_cuts K k.Last r) (λ r. tt))) tt

pub null_cuts : (K : ℕ → Type 0) (ts : Kinds) → CutBy K (null_at ts)
unfolding null_at
null_cuts K ts = either_cuts K (eat m.Not ts) (λ r. expect m.Null r >>= λ q. Ok (true, q)) (expect m.Null ts >>= λ q. Ok (false, q)) (λ r. on_cuts K (expect m.Null r) (λ q. Ok (true, q)) (expect_cuts K m.Null r) (λ q. tt)) (on_cuts K (expect m.Null ts) (λ q. Ok (false, q)) (expect_cuts K m.Null ts) (λ q. tt))

-- ---- what stands before other tokens

abbrev pub IsPre : (Kinds → Kinds) → Type 0
IsPre pre = (ts us : Kinds) → pre (ts ++ us) ≡ pre ts ++ us

pub pre_then : (f g : Kinds → Kinds) → IsPre f → IsPre g → IsPre (λ z. f (g z))
pre_then f g hf hg ts us = ap f (hg ts us) ∙ hf (g ts) us

pre_bound : (b : Bound) → IsPre (bound_onto b)
pre_bound UnboundedPreceding ts us = refl
pre_bound (Preceding n) ts us = refl
pre_bound CurrentRow ts us = refl
pre_bound (Following n) ts us = refl
pre_bound UnboundedFollowing ts us = refl

pre_extent : (e : Extent) → IsPre (extent_onto e)
pre_extent (Start a) ts us = pre_bound a ts us
pre_extent (Between a b) ts us = ap (λ (z : Kinds). k.Between ▹ bound_onto a (m.And ▸ z)) (pre_bound b ts us) ∙ ap (λ (z : Kinds). k.Between ▹ z) (pre_bound a (m.And ▸ bound_onto b ts) us)

pre_exclusion : (e : Option Exclusion) → IsPre (exclusion_onto e)
pre_exclusion None ts us = refl
pre_exclusion (Some x.CurrentRow) ts us = refl
pre_exclusion (Some x.Group) ts us = refl
pre_exclusion (Some x.Ties) ts us = refl
pre_exclusion (Some x.NoOthers) ts us = refl

pre_mode : (mode : FrameMode) → IsPre (mode_onto mode)
pre_mode Rows ts us = refl
pre_mode Range ts us = refl
pre_mode Groups ts us = refl

pub pre_frame : (frame : Option Frame) → IsPre (frame_onto frame)
pre_frame None ts us = refl
pre_frame (Some fr) ts us = ap (λ (z : Kinds). mode_onto fr.mode (extent_onto fr.extent z)) (pre_exclusion fr.exclusion ts us) ∙ ap (mode_onto fr.mode) (pre_extent fr.extent (exclusion_onto fr.exclusion ts) us) ∙ pre_mode fr.mode (extent_onto fr.extent (exclusion_onto fr.exclusion ts)) us

pub pre_direction : (d : Option SortDirection) → IsPre (direction_onto d)
pre_direction None ts us = refl
pre_direction (Some Ascending) ts us = refl
pre_direction (Some Descending) ts us = refl

pub pre_nulls : (n : Option NullsPlace) → IsPre (nulls_onto n)
pre_nulls None ts us = refl
pre_nulls (Some p.First) ts us = refl
pre_nulls (Some p.Last) ts us = refl

pub pre_base : (base : Option Name) → IsPre (base_onto base)
pre_base None ts us = refl
pre_base (Some n) ts us = refl

pre_not : (not : Bool) (ts us : Kinds) → not_onto not (m.Null ▸ (ts ++ us)) ≡ not_onto not (m.Null ▸ ts) ++ us
pre_not true ts us = refl
pre_not false ts us = refl

mutual
  pub pre_tree : (a : Tree) → IsPre (onto a)
  pre_tree (Constant literal) ts us = refl
  pre_tree (Column n) ts us = refl
  pre_tree (Qualified a b) ts us = refl
  pre_tree (CallAll f over) ts us = ap (λ (z : Kinds). name_kind f ∷ (m.LeftBracket ▸ m.Star ▸ m.RightBracket ▸ z)) (pre_over over ts us)
  pre_tree (Call f bs over) ts us = ap (λ (z : Kinds). name_kind f ∷ (m.LeftBracket ▸ list_onto bs (m.RightBracket ▸ z))) (pre_over over ts us) ∙ ap (λ (z : Kinds). name_kind f ∷ (m.LeftBracket ▸ z)) (pre_list bs (m.RightBracket ▸ over_onto over ts) us)
  pre_tree (Case arms other) ts us = ap (λ (z : Kinds). m.Case ▸ arms_onto arms z) (pre_else other (m.End ▸ ts) us) ∙ ap (λ (z : Kinds). m.Case ▸ z) (pre_arms arms (else_onto other (m.End ▸ ts)) us)
  pre_tree (Bracket a) ts us = ap (λ (z : Kinds). m.LeftBracket ▸ z) (pre_tree a (m.RightBracket ▸ ts) us)
  pre_tree (Signed s a) ts us = ap (λ (z : Kinds). sign_terminal s ▸ z) (pre_tree a ts us)
  pre_tree (Binary o a b) ts us = ap (λ (z : Kinds). onto a (operator_terminal o ▸ z)) (pre_tree b ts us) ∙ pre_tree a (operator_terminal o ▸ onto b ts) us
  pre_tree (IsNull a not) ts us = ap (λ (z : Kinds). onto a (m.Is ▸ z)) (pre_not not ts us) ∙ pre_tree a (m.Is ▸ not_onto not (m.Null ▸ ts)) us
  pre_tree (Negated a) ts us = ap (λ (z : Kinds). m.Not ▸ z) (pre_tree a ts us)

  pub pre_list : (bs : Trees) → IsPre (list_onto bs)
  pre_list no_trees ts us = refl
  pre_list (more_trees a bs) ts us = ap (onto a) (pre_more bs ts us) ∙ pre_tree a (more_onto bs ts) us

  pub pre_more : (bs : Trees) → IsPre (more_onto bs)
  pre_more no_trees ts us = refl
  pre_more (more_trees a bs) ts us = ap (λ (z : Kinds). m.Comma ▸ onto a z) (pre_more bs ts us) ∙ ap (λ (z : Kinds). m.Comma ▸ z) (pre_tree a (more_onto bs ts) us)

  pub pre_arms : (arms : Arms) → IsPre (arms_onto arms)
  pre_arms no_arms ts us = refl
  pre_arms (more_arms when gives arms) ts us = ap (λ (z : Kinds). m.When ▸ onto when (m.Then ▸ onto gives z)) (pre_arms arms ts us) ∙ ap (λ (z : Kinds). m.When ▸ onto when (m.Then ▸ z)) (pre_tree gives (arms_onto arms ts) us) ∙ ap (λ (z : Kinds). m.When ▸ z) (pre_tree when (m.Then ▸ onto gives (arms_onto arms ts)) us)

  pub pre_else : (other : Otherwise) → IsPre (else_onto other)
  pre_else no_else ts us = refl
  pre_else (or_else a) ts us = ap (λ (z : Kinds). m.Else ▸ z) (pre_tree a ts us)

  pub pre_over : (over : OverTree) → IsPre (over_onto over)
  pre_over no_over ts us = refl
  pre_over (over_name n) ts us = refl
  pre_over (over_window w) ts us = ap (λ (z : Kinds). m.Over ▸ m.LeftBracket ▸ z) (pre_window w (m.RightBracket ▸ ts) us)

  pub pre_window : (w : WindowTree) → IsPre (window_onto w)
  pre_window (window base partition order frame) ts us =
      ap (λ (z : Kinds). base_onto base (partition_onto partition (order_onto order z))) (pre_frame frame ts us) ∙ ap (λ (z : Kinds). base_onto base (partition_onto partition z)) (pre_order order (frame_onto frame ts) us) ∙ ap (base_onto base) (pre_partition partition (order_onto order (frame_onto frame ts)) us) ∙ pre_base base (partition_onto partition (order_onto order (frame_onto frame ts))) us

  pub pre_partition : (partition : Trees) → IsPre (partition_onto partition)
  pre_partition no_trees ts us = refl
  pre_partition (more_trees a bs) ts us = ap (λ (z : Kinds). m.Partition ▸ m.By ▸ z) (ap (onto a) (pre_more bs ts us) ∙ pre_tree a (more_onto bs ts) us)

  pub pre_order : (order : Keys) → IsPre (order_onto order)
  pre_order no_keys ts us = refl
  pre_order (more_keys a direction nulls keys) ts us =
      ap (λ (z : Kinds). m.Order ▸ m.By ▸ onto a (direction_onto direction (nulls_onto nulls z))) (pre_keys keys ts us) ∙ ap (λ (z : Kinds). m.Order ▸ m.By ▸ z) (ap (λ (z : Kinds). onto a (direction_onto direction z)) (pre_nulls nulls (more_keys_onto keys ts) us) ∙ ap (onto a) (pre_direction direction (nulls_onto nulls (more_keys_onto keys ts)) us) ∙ pre_tree a (direction_onto direction (nulls_onto nulls (more_keys_onto keys ts))) us)

  pub pre_keys : (keys : Keys) → IsPre (more_keys_onto keys)
  pre_keys no_keys ts us = refl
  pre_keys (more_keys a direction nulls keys) ts us =
      ap (λ (z : Kinds). m.Comma ▸ onto a (direction_onto direction (nulls_onto nulls z))) (pre_keys keys ts us) ∙ ap (λ (z : Kinds). m.Comma ▸ z) (ap (λ (z : Kinds). onto a (direction_onto direction z)) (pre_nulls nulls (more_keys_onto keys ts) us) ∙ ap (onto a) (pre_direction direction (nulls_onto nulls (more_keys_onto keys ts)) us) ∙ pre_tree a (direction_onto direction (nulls_onto nulls (more_keys_onto keys ts))) us)

pub pre_key : (key : Key) → IsPre (key_onto key)
pre_key key ts us = ap (λ (z : Kinds). onto key.0 (direction_onto key.1 z)) (pre_nulls key.2 ts us) ∙ ap (onto key.0) (pre_direction key.1 (nulls_onto key.2 ts) us) ∙ pre_tree key.0 (direction_onto key.1 (nulls_onto key.2 ts)) us

pub pre_arm : (arm : Tree × Tree) → IsPre (arm_onto arm)
pre_arm arm ts us = ap (λ (z : Kinds). onto arm.0 (m.Then ▸ z)) (pre_tree arm.1 ts us) ∙ pre_tree arm.0 (m.Then ▸ onto arm.1 ts) us
