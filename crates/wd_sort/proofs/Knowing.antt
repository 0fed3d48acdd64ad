-- A value more is known.
use Rattle.std.proofs.Common.{◌≡◌, ◌∙◌, ℕ, ℤ, ◌+◌, ◌<◌, Bool, true, false, cond, List, [], ◌∷◌, ◌++◌, map, get_or, length, refl, sym, ap, subst, arith, Option, Some, None}
use Rattle.std.specs.Ordering.{int_eq}
use Rattle.std.specs.Str.{bytes_eq}
use Rattle.std.proofs.lemmas.Bool.Decides.{Decides-int_eq}
use Rattle.std.proofs.lemmas.List.{get_or_append_left, get_or_push, length-map, length_push, map_push}
use Rattle.std.proofs.lemmas.Slice.Eq.{bytes_eq-Decides}
use denote.Ref.{Bor}
use Rattle.wd_value.specs.declared.value.Value.{Value}
use Rattle.wd_value.specs.declared.value.Value.TheVariants.{Null, Int, Text, Bool as Truth}
use Rattle.wd_sort.specs.declared.known.Known.{Known}
use Rattle.wd_sort.specs.Known.{AreKnown, IsAt, Keeps, place_in}

some_not_none : {X : Type 0} {x : X} {o : Option X} → o ≡ None → o ≡ Some x → ⊥
some_not_none e f = cc

module _ (old new : Known) (value : Bor Value) (items : new.values.items ≡ old.values.items ++ value ∷ []) (known : AreKnown old) where
  abbrev number : ℕ
  number = length old.values.items

  shown : map (λ (v : Bor Value). v.now) new.values.items ≡ map (λ (v : Bor Value). v.now) old.values.items ++ value.now ∷ []
  shown = ap (map (λ (v : Bor Value). v.now)) items ∙ map_push (λ (v : Bor Value). v.now) old.values.items value

  long : length new.values.items ≡ number + 1
  long = ap length items ∙ length_push old.values.items value

  -- what stands at a place stays there
  stays : (place : ℕ) (v : Value) → IsAt old place v → IsAt new place v
  stays place v is =
      let low = is.0 in
      let low' : place < length (map (λ (v : Bor Value). v.now) old.values.items) = rw (length-map old.values.items (λ (v : Bor Value). v.now)) low in
      (rw long (omega arith), ap (λ l. get_or l place Null) shown ∙ get_or_append_left (map (λ (v : Bor Value). v.now) old.values.items) (value.now ∷ []) Null place low' ∙ is.1)

  IsAt-push : IsAt new number value.now
  IsAt-push = (rw long (omega arith), ap (λ l. get_or l number Null) shown ∙ get_or_push (map (λ (v : Bor Value). v.now) old.values.items) value.now Null number (length-map old.values.items (λ (v : Bor Value). v.now)))

  -- ---- a text

  module _ (text : List ℕ) (is : value.now ≡ Text text) (texts : (t : List ℕ) → place_in new (Text t) ≡ cond (bytes_eq text t) (Some number) (place_in old (Text t))) (wholes : (n : ℤ) → place_in new (Int n) ≡ place_in old (Int n)) where
    by_text : (t : List ℕ) (place : ℕ) (b : Bool) → bytes_eq text t ≡ b → cond b (Some number) (place_in old (Text t)) ≡ Some place → IsAt new place (Text t)
    by_text t place true e h =
        let same : text ≡ t = (bytes_eq-Decides text t).0 e in
        let here : number ≡ place = cc in
        subst (λ p. IsAt new p (Text t)) here (subst (IsAt new number) (is ∙ ap Text same) IsAt-push)
    by_text t place false e h = stays place (Text t) (known (Text t) place h)

    pub AreKnown-text : AreKnown new
    AreKnown-text Null place h = stays place Null (known Null place h)
    AreKnown-text (Int n) place h = stays place (Int n) (known (Int n) place (sym (wholes n) ∙ h))
    AreKnown-text (Text t) place h = by_text t place (bytes_eq text t) refl (sym (texts t) ∙ h)
    AreKnown-text (Truth true) place h = stays place (Truth true) (known (Truth true) place h)
    AreKnown-text (Truth false) place h = stays place (Truth false) (known (Truth false) place h)

    module _ (absent : place_in old (Text text) ≡ None) where
      kept_text : (t : List ℕ) (place : ℕ) (b : Bool) → bytes_eq text t ≡ b → place_in old (Text t) ≡ Some place → cond b (Some number) (place_in old (Text t)) ≡ Some place
      kept_text t place true e h = absurd (some_not_none (subst (λ t. place_in old (Text t) ≡ None) ((bytes_eq-Decides text t).0 e) absent) h)
      kept_text t place false e h = h

      pub Keeps-text : Keeps old new
      Keeps-text Null place h = h
      Keeps-text (Int n) place h = wholes n ∙ h
      Keeps-text (Text t) place h = texts t ∙ kept_text t place (bytes_eq text t) refl h
      Keeps-text (Truth true) place h = h
      Keeps-text (Truth false) place h = h

  -- ---- a whole number

  module _ (whole : ℤ) (is : value.now ≡ Int whole) (wholes : (n : ℤ) → place_in new (Int n) ≡ cond (int_eq whole n) (Some number) (place_in old (Int n))) (texts : (t : List ℕ) → place_in new (Text t) ≡ place_in old (Text t)) where
    by_whole : (n : ℤ) (place : ℕ) (b : Bool) → int_eq whole n ≡ b → cond b (Some number) (place_in old (Int n)) ≡ Some place → IsAt new place (Int n)
    by_whole n place true e h =
        let same : whole ≡ n = (Decides-int_eq whole n).0 e in
        let here : number ≡ place = cc in
        subst (λ p. IsAt new p (Int n)) here (subst (IsAt new number) (is ∙ ap Int same) IsAt-push)
    by_whole n place false e h = stays place (Int n) (known (Int n) place h)

    pub AreKnown-whole : AreKnown new
    AreKnown-whole Null place h = stays place Null (known Null place h)
    AreKnown-whole (Int n) place h = by_whole n place (int_eq whole n) refl (sym (wholes n) ∙ h)
    AreKnown-whole (Text t) place h = stays place (Text t) (known (Text t) place (sym (texts t) ∙ h))
    AreKnown-whole (Truth true) place h = stays place (Truth true) (known (Truth true) place h)
    AreKnown-whole (Truth false) place h = stays place (Truth false) (known (Truth false) place h)
