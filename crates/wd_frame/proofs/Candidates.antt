-- The candidates of a list, one value longer at the back and one shorter at the front.
use Rattle.std.proofs.Common.{◌≡◌, ◌∙◌, Bool, true, false, [], ◌∷◌, ◌++◌, if◌then◌else◌, refl, sym, ap, Ordering, Less, Equal, Greater, is_gt}
use Rattle.std.specs.Ordering.{ordering_reverse}
use Rattle.std.proofs.lemmas.Cmp.{tied_itself}
use Rattle.wd_value.specs.declared.order.SortKey.{SortKey}
use Rattle.wd_value.specs.declared.value.Value.{Value}
use Rattle.wd_value.specs.declared.value.Value.TheVariants.{Null, Int, Text, Bool as Truth}
use Rattle.wd_value.specs.Order.{compare}
use Rattle.wd_value.proofs.OrderLaws.{compare_total}
use Rattle.wd_plan.specs.Calls.{first_by}
use Rattle.wd_plan.specs.Expressions.{is_null}
use Rattle.wd_frame.specs.Kept.{candidates, is_after, kept_before, popped, pushed, trimmed}
use Rattle.wd_frame.specs.Slides.{Nothing, Of, Values, answer_of, first_over}

-- ---- the first candidate

abbrev pub first_of : Values → Value
first_of [] = Null
first_of (c ∷ cs) = c

pub against_null : (key : SortKey) (v : Value) → key.nulls_first ≡ false → is_gt (compare key v Null) ≡ false
against_null key Null e = refl
against_null key (Int n) e = rw e refl
against_null key (Text t) e = rw e refl
against_null key (Truth b) e = rw e refl

null_is : (v : Value) → is_null v ≡ true → v ≡ Null
null_is Null e = refl
null_is (Int n) e = cc
null_is (Text t) e = cc
null_is (Truth b) e = cc

first_step : (key : SortKey) (v : Value) (cs : Values) → key.nulls_first ≡ false → first_of (if is_after key v cs then cs else v ∷ cs) ≡ (if is_gt (compare key v (first_of cs)) then first_of cs else v)
first_step key v (c ∷ cs) e = by (is_gt (compare key v c))
  where
    by : (b : Bool) → first_of (if b then c ∷ cs else v ∷ c ∷ cs) ≡ (if b then c else v)
    by true = refl
    by false = refl
first_step key v [] e = by (is_null v) refl
  where
    by : (b : Bool) → is_null v ≡ b → first_of (if b then [] else v ∷ []) ≡ (if is_gt (compare key v Null) then Null else v)
    by true f = rw (against_null key v e) (sym (null_is v f))
    by false f = rw (against_null key v e) refl

pub first_candidate : (key : SortKey) (vs : Values) → key.nulls_first ≡ false → first_of (candidates key vs) ≡ first_by key vs
first_candidate key [] e = refl
first_candidate key (v ∷ vs) e = first_step key v (candidates key vs) e ∙ ap (λ w. if is_gt (compare key v w) then w else v) (first_candidate key vs e)

-- ---- one value more at the back

abbrev step : SortKey → Value → Values → Values
step key v cs = if is_after key v cs then cs else v ∷ cs

greater : (o : Ordering) → is_gt o ≡ true → o ≡ Greater
greater Less e = cc
greater Equal e = cc
greater Greater e = refl

-- after one that stands after a third
pub gt_trans : (key : SortKey) (a b c : Value) → is_gt (compare key a b) ≡ true → is_gt (compare key b c) ≡ true → is_gt (compare key a c) ≡ true
gt_trans key a b c e f =
    let total = compare_total key in
    let below : compare key b a ≡ Less = total.antisymm b a ∙ ap ordering_reverse (greater (compare key a b) e) in
    let under : compare key c b ≡ Less = total.antisymm c b ∙ ap ordering_reverse (greater (compare key b c) f) in
    ap is_gt (total.antisymm a c ∙ ap ordering_reverse (total.trans c b a under below))

null_after : (key : SortKey) (v x : Value) → key.nulls_first ≡ false → is_null v ≡ true → is_null x ≡ false → is_gt (compare key v x) ≡ true
null_after key Null Null e f g = cc
null_after key Null (Int n) e f g = rw e refl
null_after key Null (Text t) e f g = rw e refl
null_after key Null (Truth b) e f g = rw e refl
null_after key (Int n) x e f g = cc
null_after key (Text t) x e f g = cc
null_after key (Truth b) x e f g = cc

goes : (key : SortKey) (v c x : Value) (t : Values) → is_gt (compare key v c) ≡ true → step key v (kept_before key c x t ++ x ∷ []) ≡ kept_before key c x t ++ x ∷ []
goes key v c x (d ∷ ds) f = rw f refl
goes key v c x [] f = by (is_gt (compare key c x)) refl
  where
    by : (b : Bool) → is_gt (compare key c x) ≡ b → step key v ((if b then [] else c ∷ []) ++ x ∷ []) ≡ (if b then [] else c ∷ []) ++ x ∷ []
    by true g = rw (gt_trans key v c x f g) refl
    by false g = rw f refl

stays : (key : SortKey) (v c x : Value) (t : Values) → is_gt (compare key v c) ≡ false → step key v (kept_before key c x t ++ x ∷ []) ≡ kept_before key v x (kept_before key c x t) ++ x ∷ []
stays key v c x (d ∷ ds) f = rw f refl
stays key v c x [] f = by (is_gt (compare key c x)) (is_gt (compare key v x)) refl
  where
    by : (b h : Bool) → is_gt (compare key v x) ≡ h → step key v ((if b then [] else c ∷ []) ++ x ∷ []) ≡ kept_before key v x (if b then [] else c ∷ []) ++ x ∷ []
    by true true e = rw e refl
    by true false e = rw e refl
    by false h e = rw f refl

push_step : (key : SortKey) (v x : Value) (cs : Values) → key.nulls_first ≡ false → is_null x ≡ false → step key v (trimmed key cs x ++ x ∷ []) ≡ trimmed key (step key v cs) x ++ x ∷ []
push_step key v x [] first some = by (is_null v) refl (is_gt (compare key v x)) refl
  where
    by : (b : Bool) → is_null v ≡ b → (h : Bool) → is_gt (compare key v x) ≡ h → step key v (x ∷ []) ≡ trimmed key (if b then [] else v ∷ []) x ++ x ∷ []
    by true e h g = rw (null_after key v x first e some) refl
    by false e true g = rw g refl
    by false e false g = rw g refl
push_step key v x (c ∷ cs) first some = by (is_gt (compare key v c)) refl
  where
    by : (b : Bool) → is_gt (compare key v c) ≡ b → step key v (kept_before key c x (trimmed key cs x) ++ x ∷ []) ≡ trimmed key (if b then c ∷ cs else v ∷ c ∷ cs) x ++ x ∷ []
    by true f = goes key v c x (trimmed key cs x) f
    by false f = stays key v c x (trimmed key cs x) f

push_some : (key : SortKey) (vs : Values) (x : Value) → key.nulls_first ≡ false → is_null x ≡ false → candidates key (vs ++ x ∷ []) ≡ trimmed key (candidates key vs) x ++ x ∷ []
push_some key [] x first some = rw some refl
push_some key (v ∷ vs) x first some = ap (step key v) (push_some key vs x first some) ∙ push_step key v x (candidates key vs) first some

push_none : (key : SortKey) (vs : Values) (x : Value) → is_null x ≡ true → candidates key (vs ++ x ∷ []) ≡ candidates key vs
push_none key [] x none = rw none refl
push_none key (v ∷ vs) x none = ap (step key v) (push_none key vs x none)

pub candidates-push : (key : SortKey) (vs : Values) (x : Value) → key.nulls_first ≡ false → candidates key (vs ++ x ∷ []) ≡ pushed key (candidates key vs) x
candidates-push key vs x first = by (is_null x) refl
  where
    by : (b : Bool) → is_null x ≡ b → candidates key (vs ++ x ∷ []) ≡ (if b then candidates key vs else trimmed key (candidates key vs) x ++ x ∷ [])
    by true e = push_none key vs x e
    by false e = push_some key vs x first e

-- ---- one value less at the front

pop_step : (key : SortKey) (v : Value) (cs : Values) → popped key (step key v cs) v ≡ cs
pop_step key v [] = by (is_null v)
  where
    by : (b : Bool) → popped key (if b then [] else v ∷ []) v ≡ []
    by true = refl
    by false = rw (tied_itself (compare_total key) v) refl
pop_step key v (c ∷ cs) = by (is_gt (compare key v c)) refl
  where
    by : (b : Bool) → is_gt (compare key v c) ≡ b → popped key (if b then c ∷ cs else v ∷ c ∷ cs) v ≡ c ∷ cs
    by true f = rw f refl
    by false f = rw (tied_itself (compare_total key) v) refl

pub candidates-pop : (key : SortKey) (v : Value) (vs : Values) → popped key (candidates key (v ∷ vs)) v ≡ candidates key vs
candidates-pop key v vs = pop_step key v (candidates key vs)

-- ---- the last candidate

whole : (key : SortKey) (d c x : Value) (ds : Values) → kept_before key d x (ds ++ c ∷ []) ≡ d ∷ ds ++ c ∷ []
whole key d c x [] = refl
whole key d c x (e ∷ es) = refl

pub trimmed-push : (key : SortKey) (cs : Values) (c x : Value) → trimmed key (cs ++ c ∷ []) x ≡ (if is_gt (compare key c x) then trimmed key cs x else cs ++ c ∷ [])
trimmed-push key [] c x = refl
trimmed-push key (d ∷ ds) c x = ap (kept_before key d x) (trimmed-push key ds c x) ∙ by (is_gt (compare key c x))
  where
    by : (b : Bool) → kept_before key d x (if b then trimmed key ds x else ds ++ c ∷ []) ≡ (if b then kept_before key d x (trimmed key ds x) else d ∷ ds ++ c ∷ [])
    by true = refl
    by false = whole key d c x ds

-- ---- no candidate is NULL

front_step : (key : SortKey) (v : Value) (cs : Values) → key.nulls_first ≡ false → ((c : Value) (ds : Values) → cs ≡ c ∷ ds → is_null c ≡ false) → (c : Value) (ds : Values) → step key v cs ≡ c ∷ ds → is_null c ≡ false
front_step key v [] first h c ds e = by (is_null v) refl e
  where
    by : (b : Bool) → is_null v ≡ b → (if b then [] else v ∷ []) ≡ c ∷ ds → is_null c ≡ false
    by true f g = cc
    by false f g = let same : v ≡ c = cc in ap is_null (sym same) ∙ f
front_step key v (d ∷ es) first h c ds e = by (is_gt (compare key v d)) refl e
  where
    some : (b : Bool) → is_null v ≡ b → is_gt (compare key v d) ≡ false → is_null v ≡ false
    some false f g = f
    some true f g = absurd (let yes = null_after key v d first f (h d es refl) in cc)

    by : (b : Bool) → is_gt (compare key v d) ≡ b → (if b then d ∷ es else v ∷ d ∷ es) ≡ c ∷ ds → is_null c ≡ false
    by true f g = h c ds g
    by false f g = let same : v ≡ c = cc in ap is_null (sym same) ∙ some (is_null v) refl f

pub front_not_null : (key : SortKey) (vs : Values) → key.nulls_first ≡ false → (c : Value) (ds : Values) → candidates key vs ≡ c ∷ ds → is_null c ≡ false
front_not_null key [] first c ds e = cc
front_not_null key (v ∷ vs) first c ds e = front_step key v (candidates key vs) first (front_not_null key vs first) c ds e

answer_some : (v : Value) → is_null v ≡ false → answer_of v ≡ Of v
answer_some Null e = cc
answer_some (Int n) e = refl
answer_some (Text t) e = refl
answer_some (Truth b) e = refl

-- the first candidate is the answer
pub answers_some : (key : SortKey) (vs : Values) (c : Value) (ds : Values) → key.nulls_first ≡ false → candidates key vs ≡ c ∷ ds → first_over key vs ≡ Of c
answers_some key vs c ds first e = ap answer_of (sym (first_candidate key vs first) ∙ ap first_of e) ∙ answer_some c (front_not_null key vs first c ds e)

pub answers_none : (key : SortKey) (vs : Values) → key.nulls_first ≡ false → candidates key vs ≡ [] → first_over key vs ≡ Nothing
answers_none key vs first e = ap answer_of (sym (first_candidate key vs first) ∙ ap first_of e)
