-- The members of an object by their slots.
use Rattle.std.proofs.Common.{◌≡◌, ◌≢◌, ◌⊎◌, inl, inr, ℕ, List, Bool, true, false, Option, Some, None, option_map, Ordering, Less, Equal, Greater, nat_cmp, refl, sym, ap, ◌∙◌}
use Rattle.std.specs.Option.{option_flatten, option_zip}
use Rattle.std.specs.Ordering.{match_ordering, ordering_reverse, is_lt}
use Rattle.std.specs.Cmp.Lexicographic.{slice_cmp}
use Rattle.std.proofs.lemmas.Map.Lookups.{exact_bytes}
use Rattle.std.proofs.lemmas.Cmp.{nat_list_cmp_total}
use Rattle.serde_json.specs.Data.{Data, object, Members, no_members, member, put}
use Rattle.serde_json.specs.Find.{get_member}
use Rattle.serde_json.proofs.Views.{get_member-put, get_member-put_other}
use Rattle.wd_json_tokens.specs.Forms.{IsForm}
use Rattle.wd_json_tokens.specs.Pairs.{Fills, with_member, ComesBefore, pair_json, both_seen, slot_seen, HasOther, HoldsPair}

-- ---- names in order

is_Less : (o : Ordering) → is_lt o ≡ true → o ≡ Less
is_Less Less e = refl
is_Less Equal e = absurd (cc)
is_Less Greater e = absurd (cc)

less : (k l : List ℕ) → ComesBefore k l → slice_cmp nat_cmp k l ≡ Less
less k l h = is_Less (slice_cmp nat_cmp k l) h

greater : (k l : List ℕ) → ComesBefore k l → slice_cmp nat_cmp l k ≡ Greater
greater k l h = nat_list_cmp_total.antisymm l k ∙ ap ordering_reverse (less k l h)

is_Equal : (o : Ordering) → o ≡ ordering_reverse o → o ≡ Equal
is_Equal Less e = absurd (cc)
is_Equal Equal e = refl
is_Equal Greater e = absurd (cc)

itself : (k : List ℕ) → slice_cmp nat_cmp k k ≡ Equal
itself k = is_Equal (slice_cmp nat_cmp k k) (nat_list_cmp_total.antisymm k k)

-- ---- where a member goes

-- before all others
abbrev pub GoesFirst : List ℕ → Data → Members → Type 0
GoesFirst k d ms = put k d ms ≡ member k d ms

pub goes_first : (k l : List ℕ) (d : Data) (v : Option Data) (ms : Members) → ComesBefore k l → GoesFirst k d ms → GoesFirst k d (with_member l v ms)
goes_first k l d None ms h first = first
goes_first k l d (Some e) ms h first = rw (less k l h)

pub put_here : (k : List ℕ) (d : Data) (v : Option Data) (ms : Members) → GoesFirst k d ms → put k d (with_member k v ms) ≡ with_member k (Some d) ms
put_here k d None ms first = first
put_here k d (Some e) ms first = rw (itself k)

pub put_past : (k l : List ℕ) (d : Data) (v : Option Data) (ms : Members) → ComesBefore k l → put l d (with_member k v ms) ≡ with_member k v (put l d ms)
put_past k l d None ms h = refl
put_past k l d (Some e) ms h = rw (greater k l h)

-- ---- a name that is not wanted

other_kept : (k l name : List ℕ) (d : Data) (ms : Members) → (name ≡ k) ⊎ (name ≡ l) → HasOther k l ms → HasOther k l (put name d ms)
other_kept k l name d ms (inl e) h = (h.0, h.1, get_member-put_other h.0 name d ms (λ same. h.3 (same ∙ e)) ∙ h.2, h.3, h.4)
other_kept k l name d ms (inr e) h = (h.0, h.1, get_member-put_other h.0 name d ms (λ same. h.4 (same ∙ e)) ∙ h.2, h.3, h.4)

not_found_at : (o : Ordering) (k l : List ℕ) (d : Data) (r : Option Data) → slice_cmp nat_cmp k l ≡ o → k ≢ l → match_ordering o r (Some d) r ≡ r
not_found_at Less k l d r e other = refl
not_found_at Equal k l d r e other = absurd (other (exact_bytes k l e))
not_found_at Greater k l d r e other = refl

pub not_found : (k l : List ℕ) (d : Data) (ms : Members) → k ≢ l → get_member k (member l d ms) ≡ get_member k ms
not_found k l d ms other = not_found_at (slice_cmp nat_cmp k l) k l d (get_member k ms) refl other

pub same_members : (ms ns : Members) → object ms ≡ object ns → ms ≡ ns
same_members ms ns e = cc

-- ---- two slots

module _ {A B : Type 0} (k l : List ℕ) (f : A → Data) (g : B → Data) where
  pub put_first : (a : Option (Option A)) (b : Option (Option B)) (other : Bool) (x : Option A) (d : Data) (ms : Members) → ComesBefore k l → IsForm f x d
      → HoldsPair k l f g a b other ms → HoldsPair k l f g (Some x) b other (put k d ms)
  put_first a b true x d ms before is h = other_kept k l k d ms (inl refl) h
  put_first a b false x d ms before is h = (Some d, h.1, (d, refl, is), h.3, ap (put k d) h.4 ∙ put_here k d h.0 (with_member l h.1 no_members) (goes_first k l d h.1 no_members before refl))

  pub put_second : (a : Option (Option A)) (b : Option (Option B)) (other : Bool) (y : Option B) (d : Data) (ms : Members) → ComesBefore k l → IsForm g y d
      → HoldsPair k l f g a b other ms → HoldsPair k l f g a (Some y) other (put l d ms)
  put_second a b true y d ms before is h = other_kept k l l d ms (inr refl) h
  put_second a b false y d ms before is h =
      (h.0, Some d, h.2, (d, refl, is), ap (put l d) h.4 ∙ put_past k l d h.0 (with_member l h.1 no_members) before ∙ ap (with_member k h.0) (put_here l d h.1 no_members refl))

  pub put_other : (name : List ℕ) (a : Option (Option A)) (b : Option (Option B)) (d : Data) (ms : Members) → name ≢ k → name ≢ l → HoldsPair k l f g a b true (put name d ms)
  put_other name a b d ms not_first not_second = (name, d, get_member-put name d ms, not_first, not_second)

  pub is_pair : (x : A) (y : B) (ms : Members) → HoldsPair k l f g (Some (Some x)) (Some (Some y)) false ms → object ms ≡ pair_json k l f g (x, y)
  is_pair x y ms h = ap object (h.4 ∙ ap (λ v. with_member k v (with_member l h.1 no_members)) (h.2.1 ∙ ap Some h.2.2) ∙ ap (λ w. member k (f x) (with_member l w no_members)) (h.3.1 ∙ ap Some h.3.2))

  pub other_no_pair : (a : Option (Option A)) (b : Option (Option B)) (ms : Members) → HoldsPair k l f g a b true ms → (p : A × B) → object ms ≢ pair_json k l f g p
  other_no_pair a b ms h p e =
      let same = same_members ms _ e in
      let none : get_member h.0 ms ≡ None = ap (get_member h.0) same ∙ not_found h.0 k (f p.0) (member l (g p.1) no_members) h.3 ∙ not_found h.0 l (g p.1) no_members h.4 in
      let never : Some h.1 ≡ None = sym h.2 ∙ none in cc

  pair_of : (v w : Option Data) (p : A × B) → with_member k v (with_member l w no_members) ≡ member k (f p.0) (member l (g p.1) no_members) → (v ≡ Some (f p.0)) × (w ≡ Some (g p.1))
  pair_of None None p e = absurd (cc)
  pair_of None (Some d) p e = absurd (cc)
  pair_of (Some c) None p e = absurd (cc)
  pair_of (Some c) (Some d) p e = (ap Some (let h : c ≡ f p.0 = cc in h), ap Some (let h : d ≡ g p.1 = cc in h))

  both_held : (a : Option (Option A)) (b : Option (Option B)) (ms : Members) (h : HoldsPair k l f g a b false ms) (p : A × B) → object ms ≡ pair_json k l f g p → (h.0 ≡ Some (f p.0)) × (h.1 ≡ Some (g p.1))
  both_held a b ms h p e = pair_of h.0 h.1 p (sym h.4 ∙ same_members ms _ e)

pub not_absent : {A : Type 0} (f : A → Data) (v : Option Data) (x : A) → Fills f None v → v ≡ Some (f x) → ⊥
not_absent f v x h e = let never : None ≡ Some (f x) = sym h ∙ e in cc

pub not_other : {A : Type 0} (f : A → Data) (v : Option Data) (x : A) → Fills f (Some None) v → v ≡ Some (f x) → ⊥
not_other f v x h e = h.2 x (let same : Some h.0 ≡ Some (f x) = sym h.1 ∙ e in cc)

module _ {X Y A B : Type 0} (k l : List ℕ) (s : X → A) (t : Y → B) (f : A → Data) (g : B → Data) where
  -- what is read of two slots, where no member has another name
  pub pair_read : (a : Option (Option X)) (b : Option (Option Y)) (ms : Members) → HoldsPair k l f g (slot_seen s a) (slot_seen t b) false ms
      → IsForm (pair_json k l f g) (option_map (both_seen s t) (option_zip (option_flatten a) (option_flatten b))) (object ms)
  pair_read None b ms h = λ p e. not_absent f h.0 p.0 h.2 (both_held k l f g None (slot_seen t b) ms h p e).0
  pair_read (Some None) b ms h = λ p e. not_other f h.0 p.0 h.2 (both_held k l f g (Some None) (slot_seen t b) ms h p e).0
  pair_read (Some (Some x)) None ms h = λ p e. not_absent g h.1 p.1 h.3 (both_held k l f g (Some (Some (s x))) None ms h p e).1
  pair_read (Some (Some x)) (Some None) ms h = λ p e. not_other g h.1 p.1 h.3 (both_held k l f g (Some (Some (s x))) (Some None) ms h p e).1
  pair_read (Some (Some x)) (Some (Some y)) ms h = is_pair k l f g (s x) (t y) ms h
