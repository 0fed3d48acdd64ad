-- Two sorted lists with the same elements, where elements that tie look alike, look alike place by place.
use Rattle.std.proofs.Common.{◌≡◌, suc, ◌+◌, ◌<◌, Bool, true, false, cond, List, [], ◌∷◌, map, refl, sym, ◌∙◌, ap, subst, arith, Decides}
use Rattle.std.specs.List.{AllByRecursion}
use Rattle.wd_value.proofs.Perms.{SameBag-tail, count_by-cons}
use Rattle.wd_value.specs.Bags.{SameBag, times}
use Rattle.wd_plan.proofs.Sorted.{Rising}

-- an element whose look stands among the looks of a list, with what holds of each element
module _ {X Y : Type 0} (eq : Y → Y → Bool) (exact : (a b : Y) → Decides (eq a b) (a ≡ b)) (look : X → Y) where
  not_head : (y : Y) (x : X) (xs : List X) → eq y (look x) ≡ false → times eq y (map look (x ∷ xs)) ≡ times eq y (map look xs)
  not_head y x xs e = count_by-cons (eq y) (look x) (map look xs) ∙ ap (λ b. cond b 1 0 + times eq y (map look xs)) e ∙ omega arith

  looks_step : (P : X → Type 0) (y : Y) (x : X) (xs : List X) (b : Bool) → eq y (look x) ≡ b → P x → 0 < times eq y (map look (x ∷ xs)) → (0 < times eq y (map look xs) → (z : X) × P z × (look z ≡ y)) → (z : X) × P z × (look z ≡ y)
  looks_step P y x xs true e p h later = (x, p, sym ((exact y (look x)).0 e))
  looks_step P y x xs false e p h later = later (let n = not_head y x xs e in omega arith)

  pub looks_here : (P : X → Type 0) (y : Y) (xs : List X) → AllByRecursion P xs → 0 < times eq y (map look xs) → (z : X) × P z × (look z ≡ y)
  looks_here P y [] all h = absurd (omega arith)
  looks_here P y (x ∷ xs) all h = looks_step P y x xs (eq y (look x)) refl all.0 h (looks_here P y xs all.1)

  times_head : (x : X) (xs : List X) → times eq (look x) (map look (x ∷ xs)) ≡ suc (times eq (look x) (map look xs))
  times_head x xs = count_by-cons (eq (look x)) (look x) (map look xs) ∙ ap (λ b. cond b 1 0 + times eq (look x) (map look xs)) ((exact (look x) (look x)).1 refl) ∙ omega arith

  module _ (P : X → Type 0) (R : X → X → Type 0) (ties : (x y : X) → P x → P y → R x y → R y x → look x ≡ look y) (alike : (x y z : X) → look x ≡ look y → R z x → R z y) where
    -- x is related to y where x leads a list in which y's look stands further back
    leads : (x y : X) (xs : List X) → AllByRecursion (R x) xs → 0 < times eq (look y) (map look xs) → R x y
    leads x y xs all h = let w = looks_here (R x) (look y) xs all h in alike w.0 y x w.2 w.1

    heads : (x y : X) (xs ys : List X) (b : Bool) (c : Bool) → eq (look x) (look y) ≡ b → eq (look y) (look x) ≡ c → P x → P y → AllByRecursion (R x) xs → AllByRecursion (R y) ys → SameBag eq (map look (x ∷ xs)) (map look (y ∷ ys)) → look x ≡ look y
    heads x y xs ys true c e d p q a b h = (exact (look x) (look y)).0 e
    heads x y xs ys false true e d p q a b h = sym ((exact (look y) (look x)).0 d)
    heads x y xs ys false false e d p q a b h =
        let i = times_head x xs in
        let j = times_head y ys in
        let k = not_head (look x) y ys e in
        let l = not_head (look y) x xs d in
        let u = h (look x) in
        let v = h (look y) in
        ties x y p q (leads x y xs a (omega arith)) (leads y x ys b (omega arith))

    -- both rise and have the same looks equally often: then the looks stand at the same places
    pub same_sorted : (xs ys : List X) → AllByRecursion P xs → AllByRecursion P ys → Rising R xs → Rising R ys → SameBag eq (map look xs) (map look ys) → map look xs ≡ map look ys
    same_sorted [] [] p q r s h = refl
    same_sorted [] (y ∷ ys) p q r s h = absurd (let u = h (look y) in let j = times_head y ys in omega arith)
    same_sorted (x ∷ xs) [] p q r s h = absurd (let u = h (look x) in let j = times_head x xs in omega arith)
    same_sorted (x ∷ xs) (y ∷ ys) p q r s h =
        let e : look x ≡ look y = heads x y xs ys (eq (look x) (look y)) (eq (look y) (look x)) refl refl p.0 q.0 r.0 s.0 h in
        let t : SameBag eq (map look xs) (map look ys) = SameBag-tail eq exact (look y) (map look xs) (map look ys) (subst (λ v. SameBag eq (v ∷ map look xs) (map look (y ∷ ys))) e h) in
        λ i. e i ∷ same_sorted xs ys p.1 q.1 r.1 s.1 t i
