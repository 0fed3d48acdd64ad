-- A list that is read element by element.
use Rattle.std.proofs.Common.{◌≡◌, ◌≢◌, List, [], ◌∷◌, ◌++◌, map, All, true, false, Option, Some, None, Result, Ok, Err, IfErr, IsErrAnd, refl, sym, ap, ap₂, ◌∙◌, subst}
use Rattle.std.proofs.lemmas.List.{map-append}
use Rattle.std.proofs.lemmas.List.Elements.{All-nil, All-cons, All-head, All-tail, All-push}
use Rattle.json.specs.Token.{Token}
use Rattle.json.specs.Json.{parse_map}
use Rattle.serde_json.specs.Data.{Data, array, Items, no_items, item}
use Rattle.serde_json.specs.View.{items_of}
use Rattle.wd_json.specs.Json.{list_json}
use Rattle.wd_json_tokens.specs.Lists.{HoldsList}

-- these elements before the rest
abbrev pub items_before : List Data → Items → Items
items_before [] rest = rest
items_before (d ∷ ds) rest = item d (items_before ds rest)

pub items_before-no_items : (ds : List Data) → items_before ds no_items ≡ items_of ds
items_before-no_items [] = refl
items_before-no_items (d ∷ ds) = ap (item d) (items_before-no_items ds)

items_push : (ds : List Data) (d : Data) (rest : Items) → items_before ds (item d rest) ≡ items_before (ds ++ d ∷ []) rest
items_push [] d rest = refl
items_push (e ∷ ds) d rest = ap (item e) (items_push ds d rest)

pub one_more_item : (ds : List Data) (d : Data) (r : Option (Items × List Token)) → parse_map (items_before ds) (parse_map (item d) r) ≡ parse_map (items_before (ds ++ d ∷ [])) r
one_more_item ds d None = refl
one_more_item ds d (Some p) = ap (λ x. Some (x, p.1)) (items_push ds d p.0)

pub none_before : (r : Option (Items × List Token)) → r ≡ parse_map (items_before []) r
none_before None = refl
none_before (Some p) = refl

items_same : (ds es : List Data) → items_of ds ≡ items_of es → ds ≡ es
items_same [] [] e = refl
items_same [] (x ∷ es) e = absurd (cc)
items_same (d ∷ ds) [] e = absurd (cc)
items_same (d ∷ ds) (x ∷ es) e = ap₂ (λ a b. a ∷ b) (let h : d ≡ x = cc in h) (items_same ds es (let h : items_of ds ≡ items_of es = cc in h))

-- ---- elements of a form, which fit

module _ {A : Type 0} (form : A → Data) (Fits : A → Type 0) where
  -- of a list that fits all but the last elements are one, and so is the last
  without_last : (ds : List Data) (d : Data) (ys : List A) → All Fits ys → ds ++ d ∷ [] ≡ map form ys → (zs : List A) × (y : A) × All Fits zs × Fits y × (ds ≡ map form zs) × (d ≡ form y)
  without_last [] d [] all e = absurd (cc)
  without_last [] d (y ∷ []) all e = ([], y, All-nil Fits, All-head Fits y [] all, refl, let h : d ≡ form y = cc in h)
  without_last [] d (y ∷ z ∷ ys) all e = absurd (cc)
  without_last (c ∷ ds) d [] all e = absurd (cc)
  without_last (c ∷ ds) d (y ∷ ys) all e =
      let rest = without_last ds d ys (All-tail Fits y ys all) (let h : ds ++ d ∷ [] ≡ map form ys = cc in h) in
      let first : c ≡ form y = cc in
      (y ∷ rest.0, rest.1, All-cons Fits y rest.0 (All-head Fits y ys all) rest.2, rest.3, ap₂ (λ a b. a ∷ b) first rest.4, rest.5)

  pub one_more : (xs : List A) (x : A) (ds : List Data) (d : Data) → d ≡ form x → Fits x → HoldsList form Fits xs false ds → HoldsList form Fits (xs ++ x ∷ []) false (ds ++ d ∷ [])
  one_more xs x ds d is fits h = (ap₂ (λ a b. a ++ b ∷ []) h.0 is ∙ sym (map-append form xs (x ∷ [])), All-push Fits xs x h.1 fits)

  pub one_other : (xs : List A) (ds : List Data) (d : Data) → ((x : A) → Fits x → d ≢ form x) → HoldsList form Fits xs true (ds ++ d ∷ [])
  one_other xs ds d other = λ ys all e. let parts = without_last ds d ys all e in other parts.1 parts.3 parts.5

  pub one_after_other : (xs : List A) (ds : List Data) (d : Data) → HoldsList form Fits xs true ds → HoldsList form Fits xs true (ds ++ d ∷ [])
  one_after_other xs ds d h = λ ys all e. let parts = without_last ds d ys all e in h parts.0 parts.2 parts.4

  pub is_list : (xs : List A) (ds : List Data) → HoldsList form Fits xs false ds → array (items_of ds) ≡ list_json form xs
  is_list xs ds h = ap (λ es. array (items_of es)) h.0

  pub is_no_list : (xs : List A) (ds : List Data) → HoldsList form Fits xs true ds → (ys : List A) → All Fits ys → array (items_of ds) ≢ list_json form ys
  is_no_list xs ds h ys all e = h ys all (items_same ds (map form ys) (let inside : items_of ds ≡ items_of (map form ys) = cc in inside))

-- an error that `?` passes on is the same error
pub IfErr-from_same : {T E : Type 0} (r : Result T E) (e : E) (P : E → Type 0) → IsErrAnd r (λ y. y ≡ e) → P e → IfErr r P
IfErr-from_same (Ok x) e P h p = absurd h
IfErr-from_same (Err y) e P h p = subst P (sym h) p

-- whatever error `?` makes of another one
pub IfErr-of : {T E : Type 0} (r : Result T E) (P : E → Type 0) → ((e : E) → P e) → IfErr r P
IfErr-of (Ok x) P h = tt
IfErr-of (Err e) P h = h e
