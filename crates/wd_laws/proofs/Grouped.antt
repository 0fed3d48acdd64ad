-- Lists that show the same for each key, in order, show the same elements equally often.
use Rattle.std.proofs.Common.{◌≡◌, Bool, true, false, List, [], ◌∷◌, ◌++◌, map, filter, refl, sym, ◌∙◌, ap, subst, subst₂, Decides}
use Rattle.std.proofs.lemmas.List.Elements.{filter-append}
use Rattle.std.proofs.lemmas.List.{map-append}
use Rattle.wd_value.proofs.Perms.{Perm, Perm-middle, Perm-same, Perm-sym, both, keep}

-- the first that passes, what stands before it and what stands after
pub record FirstPass {B Z : Type 0} (t : B → Bool) (f : B → Z) (bs : List B) (z : Z) (zs : List Z) : Type 0 where
  pub pre : List B
  pub here : B
  pub post : List B
  pub is : bs ≡ pre ++ here ∷ post
  pub passes : t here ≡ true
  pub none : filter t pre ≡ []
  pub shows : f here ≡ z
  pub rest : map f (filter t post) ≡ zs

module _ {B Z : Type 0} (t : B → Bool) (f : B → Z) where
  first_step : (b : B) (bs : List B) (z : Z) (zs : List Z) (c : Bool) → t b ≡ c → map f (filter t (b ∷ bs)) ≡ z ∷ zs → (map f (filter t bs) ≡ z ∷ zs → FirstPass t f bs z zs) → FirstPass t f (b ∷ bs) z zs
  first_step b bs z zs true e h later =
      let g : f b ∷ map f (filter t bs) ≡ z ∷ zs = rw e at h in
      record { pre = []; here = b; post = bs; is = refl; passes = e; none = refl; shows = cc; rest = cc }
  first_step b bs z zs false e h later =
      let r = later (rw e at h) in
      record { pre = b ∷ r.pre; here = r.here; post = r.post; is = ap (λ l. b ∷ l) r.is; passes = r.passes; none = rw e r.none; shows = r.shows; rest = r.rest }

  pub first_pass : (bs : List B) (z : Z) (zs : List Z) → map f (filter t bs) ≡ z ∷ zs → FirstPass t f bs z zs
  first_pass [] z zs h = absurd (cc)
  first_pass (b ∷ bs) z zs h = first_step b bs z zs (t b) refl h (first_pass bs z zs)

module _ {A B R K Z : Type 0} (eq : K → K → Bool) (exact : (a b : K) → Decides (eq a b) (a ≡ b)) (key : R → K) (at_a : A → R) (at_b : B → R) (f : A → Z) (g : B → Z) where
  -- for each key both lists show the same, in order
  abbrev pub Matches : List A → List B → Type 0
  Matches as' bs = (x : R) → map f (filter (λ a. eq (key x) (key (at_a a))) as') ≡ map g (filter (λ b. eq (key x) (key (at_b b))) bs)

  nothing_matches : (bs : List B) → Matches [] bs → bs ≡ []
  nothing_matches [] h = refl
  nothing_matches (b ∷ bs) h = absurd (let e = (exact (key (at_b b)) (key (at_b b))).1 refl in let k = rw e at (h (at_b b)) in cc)

  matches_step : (a : A) (as' : List A) (pre : List B) (b : B) (post : List B) → Matches (a ∷ as') (pre ++ b ∷ post) → key (at_a a) ≡ key (at_b b) → filter (λ c. eq (key (at_a a)) (key (at_b c))) pre ≡ [] → (x : R) (c : Bool) → eq (key x) (key (at_a a)) ≡ c → map f (filter (λ c'. eq (key x) (key (at_a c'))) as') ≡ map g (filter (λ c'. eq (key x) (key (at_b c'))) (pre ++ post))
  matches_step a as' pre b post h k none x true e =
      let t = λ (c : B). eq (key x) (key (at_b c)) in
      let same_key : key x ≡ key (at_a a) = (exact (key x) (key (at_a a))).0 e in
      let none' : filter t pre ≡ [] = subst (λ m. filter (λ c. eq m (key (at_b c))) pre ≡ []) (sym same_key) none in
      let e' : eq (key x) (key (at_b b)) ≡ true = (exact (key x) (key (at_b b))).1 (same_key ∙ k) in
      let whole : f a ∷ map f (filter (λ c'. eq (key x) (key (at_a c'))) as') ≡ map g (filter t (pre ++ b ∷ post)) = rw e at (h x) in
      let cut : filter t (pre ++ b ∷ post) ≡ b ∷ filter t post = filter-append t pre (b ∷ post) ∙ ap (λ l. l ++ filter t (b ∷ post)) none' ∙ (rw e') in
      let joined : filter t (pre ++ post) ≡ filter t post = filter-append t pre post ∙ ap (λ l. l ++ filter t post) none' in
      let both_sides : f a ∷ map f (filter (λ c'. eq (key x) (key (at_a c'))) as') ≡ g b ∷ map g (filter t post) = whole ∙ ap (map g) cut in
      let tails : map f (filter (λ c'. eq (key x) (key (at_a c'))) as') ≡ map g (filter t post) = cc in
      tails ∙ sym (ap (map g) joined)
  matches_step a as' pre b post h k none x false e =
      let t = λ (c : B). eq (key x) (key (at_b c)) in
      let e' : eq (key x) (key (at_b b)) ≡ false = subst (λ m. eq (key x) m ≡ false) k e in
      let whole : map f (filter (λ c'. eq (key x) (key (at_a c'))) as') ≡ map g (filter t (pre ++ b ∷ post)) = rw e at (h x) in
      let cut : filter t (pre ++ b ∷ post) ≡ filter t (pre ++ post) = filter-append t pre (b ∷ post) ∙ (rw e' refl) ∙ sym (filter-append t pre post) in
      whole ∙ ap (map g) cut

  pub Perm-from_matches : (as' : List A) (bs : List B) → Matches as' bs → Perm Z (map f as') (map g bs)
  Perm-from_matches [] bs h = Perm-same [] (map g bs) (sym (ap (map g) (nothing_matches bs h)))
  Perm-from_matches (a ∷ as') bs h =
      let self = (exact (key (at_a a)) (key (at_a a))).1 refl in
      let whole : f a ∷ map f (filter (λ c. eq (key (at_a a)) (key (at_a c))) as') ≡ map g (filter (λ b. eq (key (at_a a)) (key (at_b b))) bs) = rw self at (h (at_a a)) in
      let r = first_pass (λ b. eq (key (at_a a)) (key (at_b b))) g bs (f a) _ (sym whole) in
      let k : key (at_a a) ≡ key (at_b r.here) = (exact (key (at_a a)) (key (at_b r.here))).0 r.passes in
      let h' : Matches (a ∷ as') (r.pre ++ r.here ∷ r.post) = subst (Matches (a ∷ as')) r.is h in
      let rest = Perm-from_matches as' (r.pre ++ r.post) (λ x. matches_step a as' r.pre r.here r.post h' k r.none x (eq (key x) (key (at_a a))) refl) in
      let moved : Perm Z (map g (r.pre ++ r.here ∷ r.post)) (g r.here ∷ map g (r.pre ++ r.post)) = subst₂ (Perm Z) (sym (map-append g r.pre (r.here ∷ r.post))) (ap (λ l. g r.here ∷ l) (sym (map-append g r.pre r.post))) (Perm-middle (map g r.pre) (g r.here) (map g r.post)) in
      both (keep (f a) rest) (both (Perm-same _ _ (ap (λ z. z ∷ map g (r.pre ++ r.post)) (sym r.shows))) (both (Perm-sym moved) (Perm-same _ _ (ap (map g) (sym r.is)))))
