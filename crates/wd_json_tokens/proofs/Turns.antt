-- Lists and objects, an element and a member at a time.
use Rattle.std.proofs.Common.{◌≡◌, ℕ, zero, suc, ◌-◌, ◌<◌, ◌≤◌, List, [], ◌∷◌, length, Bool, Option, Some, None, option_map, option_and_then, Result, Ok, Err, OnErr, refl, sym, ap, ◌∙◌, arith}
use Rattle.json.specs.Token.{Token}
use Rattle.json.specs.Json as json
use Rattle.json.specs.Json.{Parse, parse_map, after_end_array, read_key, items_step, members_step, items, members}
use Rattle.json.proofs.Grammar.{left, left_none, left-parse_map, value_is, value-begin_array, value-begin_object, items_end, items_more, members_end, members_no_key, members_more, skip_value-shorter, read_key-shorter, Takes}
use Rattle.serde_json.specs.Data.{Num, Data, null, boolean, number, string, array, object, Items, no_items, item, Members, no_members, put}
use Rattle.serde_json.specs.Read.{number_of, of_json, of_items, of_members, converted}
use Rattle.wd_json_tokens.specs.Values.{value_at, items_at, members_at, list_at, object_at}

abbrev pick : {A : Type 0} → A → Option A → A
pick d None = d
pick d (Some a) = a

found : {A B : Type 0} (a : A) (r s : List Token) (x : Option B) (b : B) → option_map {U = B × List Token} (λ y. (y, r)) x ≡ Some (b, s) → (r ≡ s) × (x ≡ Some b)
found a r s None b e = absurd (cc)
found a r s (Some y) b e = let same = ap (pick (y, r)) e in (ap (λ p. p.1) same, ap (λ p. Some p.0) same)

pub converted_some : {A B : Type 0} (f : A → Option B) (o : Option (A × List Token)) (b : B) (r : List Token) → converted f o ≡ Some (b, r) → (a : A) × (o ≡ Some (a, r)) × (f a ≡ Some b)
converted_some f None b r e = absurd (cc)
converted_some f (Some p) b r e = let both = found p.0 p.1 r (f p.0) b e in (p.0, ap (λ s. Some (p.0, s)) both.0, both.1)

pub refused : {B : Type 0} (r : List Token) (x : Option B) → option_map {U = B × List Token} (λ y. (y, r)) x ≡ None → x ≡ None
refused r None e = refl
refused r (Some y) e = absurd (cc)

twice : {A B : Type 0} (g : A → B) (r : List Token) (x : Option A) → option_map (λ b. (b, r)) (option_map g x) ≡ parse_map g (option_map (λ a. (a, r)) x)
twice g r None = refl
twice g r (Some a) = refl

converted-array : (o : Option (json.Items × List Token)) → converted of_json (parse_map json.array o) ≡ parse_map array (converted of_items o)
converted-array None = refl
converted-array (Some p) = twice array p.1 (of_items p.0)

converted-object : (o : Option (json.Members × List Token)) → converted of_json (parse_map json.object o) ≡ parse_map object (converted (λ ms. of_members ms no_members) o)
converted-object None = refl
converted-object (Some p) = twice object p.1 (of_members p.0 no_members)

with_item : (j : json.Json) (d : Data) → of_json j ≡ Some d → (o : Option (json.Items × List Token)) → converted of_items (parse_map (json.item j) o) ≡ parse_map (item d) (converted of_items o)
with_item j d e None = refl
with_item j d e (Some p) = rw e (twice (item d) p.1 (of_items p.0))

without_item : (j : json.Json) → of_json j ≡ None → (o : Option (json.Items × List Token)) → converted of_items (parse_map (json.item j) o) ≡ None
without_item j e None = refl
without_item j e (Some p) = rw e

with_member : (k : List ℕ) (j : json.Json) (d : Data) (old : Members) → of_json j ≡ Some d → (o : Option (json.Members × List Token))
    → converted (λ ms. of_members ms old) (parse_map (json.member k j) o) ≡ converted (λ ms. of_members ms (put k d old)) o
with_member k j d old e None = refl
with_member k j d old e (Some p) = rw e

without_member : (k : List ℕ) (j : json.Json) (old : Members) → of_json j ≡ None → (o : Option (json.Members × List Token)) → converted (λ ms. of_members ms old) (parse_map (json.member k j) o) ≡ None
without_member k j old e None = refl
without_member k j old e (Some p) = rw e

module _ (p : Parse json.Json) where
  no_item : (more : Parse json.Items) (o : Option (json.Json × List Token)) → converted of_json o ≡ None → converted of_items (option_and_then (λ q. parse_map (json.item q.0) (more q.1)) o) ≡ None
  no_item more None e = refl
  no_item more (Some q) e = without_item q.0 (refused q.1 (of_json q.0) e) (more q.1)

  item_fails : (n : ℕ) (ts : List Token) → after_end_array ts ≡ None → converted of_json (p ts) ≡ None → converted of_items (items p n ts) ≡ None
  unfolding items
  item_fails zero ts going e = refl
  item_fails (suc n) ts going e = ap (λ o. converted of_items (items_step p (items p n) ts o)) going ∙ no_item (items p n) (p ts) e

  module _ (old : Members) where
    no_member : (k : List ℕ) (more : Parse json.Members) (o : Option (json.Json × List Token)) → converted of_json o ≡ None
        → converted (λ ms. of_members ms old) (option_and_then (λ q. parse_map (json.member k q.0) (more q.1)) o) ≡ None
    no_member k more None e = refl
    no_member k more (Some q) e = without_member k q.0 old (refused q.1 (of_json q.0) e) (more q.1)

    member_fails : (n : ℕ) (k : List ℕ) (ts s : List Token) → read_key ts ≡ Some (Some k, s) → converted of_json (p s) ≡ None → converted (λ ms. of_members ms old) (members p n ts) ≡ None
    unfolding members
    member_fails zero k ts s key e = refl
    member_fails (suc n) k ts s key e = rw key (no_member k (members p n) (p s) e)

-- ---- a value by its first token

pub at_end : (depth : ℕ) → value_at depth [] ≡ None
unfolding value_at
at_end depth = ap (converted of_json) (value_is depth [])

pub at_null : (depth : ℕ) (ts : List Token) → value_at depth (Token.null ∷ ts) ≡ Some (null, ts)
unfolding value_at
at_null depth ts = ap (converted of_json) (value_is depth (Token.null ∷ ts))

pub at_boolean : (depth : ℕ) (b : Bool) (ts : List Token) → value_at depth (Token.boolean b ∷ ts) ≡ Some (boolean b, ts)
unfolding value_at
at_boolean depth b ts = ap (converted of_json) (value_is depth (Token.boolean b ∷ ts))

pub at_string : (depth : ℕ) (s : List ℕ) (ts : List Token) → value_at depth (Token.string s ∷ ts) ≡ Some (string s, ts)
unfolding value_at
at_string depth s ts = ap (converted of_json) (value_is depth (Token.string s ∷ ts))

pub at_number : (depth : ℕ) (s : List ℕ) (n : Num) (ts : List Token) → number_of s ≡ Some n → value_at depth (Token.number s ∷ ts) ≡ Some (number n, ts)
unfolding value_at
at_number depth s n ts e = ap (converted of_json) (value_is depth (Token.number s ∷ ts)) ∙ rw e

pub at_no_number : (depth : ℕ) (s : List ℕ) (ts : List Token) → number_of s ≡ None → value_at depth (Token.number s ∷ ts) ≡ None
unfolding value_at
at_no_number depth s ts e = ap (converted of_json) (value_is depth (Token.number s ∷ ts)) ∙ rw e

pub at_list : (depth : ℕ) (ts : List Token) → 0 < depth → value_at depth (Token.begin_array ∷ ts) ≡ list_at (depth - 1) ts
unfolding value_at items_at
at_list depth ts h = ap (converted of_json) (value-begin_array depth ts h) ∙ converted-array (items (json.value (depth - 1)) (length ts) ts)

pub at_object : (depth : ℕ) (ts : List Token) → 0 < depth → value_at depth (Token.begin_object ∷ ts) ≡ object_at (depth - 1) ts
unfolding value_at members_at
at_object depth ts h = ap (converted of_json) (value-begin_object depth ts h) ∙ converted-object (members (json.value (depth - 1)) (length ts) ts)

pub too_deep : (ts : List Token) → (value_at 0 (Token.begin_array ∷ ts) ≡ None) × (value_at 0 (Token.begin_object ∷ ts) ≡ None)
unfolding value_at
too_deep ts = (ap (converted of_json) (value_is 0 (Token.begin_array ∷ ts)), ap (converted of_json) (value_is 0 (Token.begin_object ∷ ts)))

-- a value takes at least one token
pub value_at-shorter : (depth : ℕ) (ts r : List Token) (d : Data) → value_at depth ts ≡ Some (d, r) → length r < length ts
unfolding value_at
value_at-shorter depth ts r d e = skip_value-shorter depth ts r (ap left (converted_some of_json (json.value depth ts) d r e).1)

-- ---- as many turns as there are tokens are enough

module _ (p : Parse json.Json) (takes : Takes p) where
  nothing_at_end : (o : Option (json.Json × List Token)) → p [] ≡ o → o ≡ None
  nothing_at_end None e = refl
  nothing_at_end (Some q) e = let never : ⊥ = omega (arith, takes [] q.1 (ap left e)) in absurd never

  next_items : (n m : ℕ) (ts : List Token) (o : Option (json.Json × List Token)) → length ts ≤ suc n → length ts ≤ suc m → p ts ≡ o
      → ((r : List Token) → length r ≤ n → length r ≤ m → items p n r ≡ items p m r)
      → option_and_then (λ q. parse_map (json.item q.0) (items p n q.1)) o ≡ option_and_then (λ q. parse_map (json.item q.0) (items p m q.1)) o
  next_items n m ts None h k e same = refl
  next_items n m ts (Some q) h k e same = let less = takes ts q.1 (ap left e) in ap (parse_map (json.item q.0)) (same q.1 (omega arith) (omega arith))

  step_items : (n m : ℕ) (ts : List Token) (o : Option (List Token)) → length ts ≤ suc n → length ts ≤ suc m
      → ((r : List Token) → length r ≤ n → length r ≤ m → items p n r ≡ items p m r) → items_step p (items p n) ts o ≡ items_step p (items p m) ts o
  step_items n m ts (Some r) h k same = refl
  step_items n m ts None h k same = next_items n m ts (p ts) h k refl same

  no_items_at_end : (n : ℕ) → items p n [] ≡ None
  unfolding items
  no_items_at_end zero = refl
  no_items_at_end (suc n) = ap (option_and_then (λ q. parse_map (json.item q.0) (items p n q.1))) (nothing_at_end (p []) refl)

  enough_items : (n m : ℕ) (ts : List Token) → length ts ≤ n → length ts ≤ m → items p n ts ≡ items p m ts
  unfolding items
  enough_items n m [] h k = no_items_at_end n ∙ sym (no_items_at_end m)
  enough_items zero m (t ∷ ts) h k = let never : ⊥ = omega arith in absurd never
  enough_items (suc n) zero (t ∷ ts) h k = let never : ⊥ = omega arith in absurd never
  enough_items (suc n) (suc m) (t ∷ ts) h k = step_items n m (t ∷ ts) (after_end_array (t ∷ ts)) h k (enough_items n m)

  next_members : (n m : ℕ) (k : List ℕ) (ts : List Token) (o : Option (json.Json × List Token)) → length ts ≤ n → length ts ≤ m → p ts ≡ o
      → ((r : List Token) → length r ≤ n → length r ≤ m → members p n r ≡ members p m r)
      → option_and_then (λ q. parse_map (json.member k q.0) (members p n q.1)) o ≡ option_and_then (λ q. parse_map (json.member k q.0) (members p m q.1)) o
  next_members n m k ts None h i e same = refl
  next_members n m k ts (Some q) h i e same = let less = takes ts q.1 (ap left e) in ap (parse_map (json.member k q.0)) (same q.1 (omega arith) (omega arith))

  step_members : (n m : ℕ) (ts : List Token) (o : Option (Option (List ℕ) × List Token)) → length ts ≤ suc n → length ts ≤ suc m → read_key ts ≡ o
      → ((r : List Token) → length r ≤ n → length r ≤ m → members p n r ≡ members p m r)
      → option_and_then (λ q. members_step p (members p n) q.0 q.1) o ≡ option_and_then (λ q. members_step p (members p m) q.0 q.1) o
  step_members n m ts None h i e same = refl
  step_members n m ts (Some (None, s)) h i e same = refl
  step_members n m ts (Some (Some k, s)) h i e same = let less = read_key-shorter ts (Some k) s e in next_members n m k s (p s) (omega arith) (omega arith) refl same

  no_members_at_end : (n : ℕ) → members p n [] ≡ None
  unfolding members
  no_members_at_end zero = refl
  no_members_at_end (suc n) = refl

  enough_members : (n m : ℕ) (ts : List Token) → length ts ≤ n → length ts ≤ m → members p n ts ≡ members p m ts
  unfolding members
  enough_members n m [] h k = no_members_at_end n ∙ sym (no_members_at_end m)
  enough_members zero m (t ∷ ts) h k = let never : ⊥ = omega arith in absurd never
  enough_members (suc n) zero (t ∷ ts) h k = let never : ⊥ = omega arith in absurd never
  enough_members (suc n) (suc m) (t ∷ ts) h k = step_members n m (t ∷ ts) (read_key (t ∷ ts)) h k refl (enough_members n m)

-- ---- a turn

module _ (depth : ℕ) where
  pub item_read : (ts r : List Token) (d : Data) → after_end_array ts ≡ None → value_at depth ts ≡ Some (d, r) → items_at depth ts ≡ parse_map (item d) (items_at depth r)
  unfolding value_at items_at
  item_read ts r d going e =
      let p = json.value depth in
      let j = converted_some of_json (p ts) d r e in
      let less = skip_value-shorter depth ts r (ap left j.1) in
      ap (converted of_items) (items_more p (length ts) ts r j.0 (omega arith) going j.1 ∙ ap (parse_map (json.item j.0)) (enough_items p (skip_value-shorter depth) (length ts - 1) (length r) r (omega arith) (omega arith)))
      ∙ with_item j.0 d j.2 _

  pub item_refused : (ts : List Token) → after_end_array ts ≡ None → value_at depth ts ≡ None → items_at depth ts ≡ None
  unfolding value_at items_at
  item_refused ts going e = item_fails (json.value depth) (length ts) ts going e

  pub items_over : (ts r : List Token) → after_end_array ts ≡ Some r → items_at depth ts ≡ Some (no_items, r)
  unfolding items_at
  items_over ts r e = ap (converted of_items) (items_end (json.value depth) (length ts) ts r (omega arith) e)

  pub member_read : (old : Members) (k : List ℕ) (ts s r : List Token) (d : Data) → read_key ts ≡ Some (Some k, s) → value_at depth s ≡ Some (d, r)
      → members_at depth old ts ≡ members_at depth (put k d old) r
  unfolding value_at members_at
  member_read old k ts s r d key e =
      let p = json.value depth in
      let j = converted_some of_json (p s) d r e in
      let less = skip_value-shorter depth s r (ap left j.1) in
      let lesser = read_key-shorter ts (Some k) s key in
      ap (converted (λ ms. of_members ms old))
      (members_more p (length ts) k ts s r j.0 (omega arith) key j.1 ∙ ap (parse_map (json.member k j.0)) (enough_members p (skip_value-shorter depth) (length ts - 1) (length r) r (omega arith) (omega arith)))
      ∙ with_member k j.0 d old j.2 _

  pub member_refused : (old : Members) (k : List ℕ) (ts s : List Token) → read_key ts ≡ Some (Some k, s) → value_at depth s ≡ None → members_at depth old ts ≡ None
  unfolding value_at members_at
  member_refused old k ts s key e = member_fails (json.value depth) old (length ts) k ts s key e

  pub key_refused : (old : Members) (ts : List Token) → read_key ts ≡ None → members_at depth old ts ≡ None
  unfolding members_at
  key_refused old ts e = ap (converted (λ ms. of_members ms old)) (members_no_key (json.value depth) (length ts) ts e)

  pub members_over : (old : Members) (ts r : List Token) → read_key ts ≡ Some (None, r) → members_at depth old ts ≡ Some (old, r)
  unfolding members_at
  members_over old ts r e = ap (converted (λ ms. of_members ms old)) (members_end (json.value depth) (length ts) ts r (omega arith) e)

-- ---- what is left, whatever was read

pub left_some : {A : Type 0} (r : Option (A × List Token)) (ts : List Token) → left r ≡ Some ts → (a : A) × (r ≡ Some (a, ts))
left_some None ts e = absurd (cc)
left_some (Some q) ts e = (q.0, ap (λ x. Some (q.0, x)) (ap (λ o. pick ts o) e))

pub left_item : (d : Data) (r : Option (Items × List Token)) → left (parse_map (item d) r) ≡ left r
left_item d r = left-parse_map (item d) r

-- ---- an error that `?` passes on

pub OnErr-of : {T E : Type 0} (r : Result T E) (P : Type 0) → P → OnErr r P
OnErr-of (Ok x) P h = tt
OnErr-of (Err e) P h = h

-- ---- what is left of a list

pub items_left : (depth : ℕ) (ts us r : List Token) → left (items_at depth ts) ≡ left (items_at depth us) → items_at depth us ≡ Some (no_items, r) → (ds : Items) × (items_at depth ts ≡ Some (ds, r))
items_left depth ts us r e f = left_some (items_at depth ts) r (e ∙ ap left f)

pub items_none : (depth : ℕ) (ts us : List Token) → left (items_at depth ts) ≡ left (items_at depth us) → items_at depth us ≡ None → items_at depth ts ≡ None
items_none depth ts us e f = left_none (items_at depth ts) (e ∙ ap left f)
