-- Lists by the places of their elements, and what the findings of a plan give.
use Rattle.std.proofs.Common.{◌≡◌, ℕ, zero, suc, ◌+◌, ◌<◌, ◌≤◌, ◌||◌, Bool, cond, List, [], ◌∷◌, ◌++◌, length, drop, get_or, map, refl, sym, ◌∙◌, ap, arith, Option}
use Rattle.std.specs.List.{list_any, range_with_len}
use Rattle.std.proofs.lemmas.List.{append-nil, append_assoc, drop_more, drop_all}
use Rattle.wd_value.specs.declared.value.Value.{Value}
use Rattle.wd_value.specs.Bags.{positions}
use Rattle.wd_value.specs.Rows.{Instance}
use Rattle.wd_schema.specs.Tables.{TableRule}
use Rattle.wd_facts.specs.Given.{table_rule}
use Rattle.wd_candidates.specs.declared.outline.Outline.{Outline}
use Rattle.wd_candidates.specs.Candidates.{cell}
use Rattle.wd_candidates.specs.Fixed.{fixed_value}
use Rattle.wd_plan.specs.Plans.{is_scanned}
use Rattle.wd_candidates.specs.Outlines.{fixed_in, scanned_in}
use Rattle.wd_varied.specs.Patterns.{FillingRule, filled}
use Rattle.wd_varied.specs.Suggested.{hints_of}
use Rattle.wd_varied.specs.Varied.{IsVaried, by_place, filled_row, fillings, rows_in, varied_by}
use Rattle.wd_varied.specs.declared.pools.Suggested.{Suggested}

-- ---- by places

-- one element more
pub place_next : {X Y : Type 0} (f : ℕ → X → Y) (made all : List Y) (xs : List X) (c : ℕ) (x : X) (y : Y) → c < length xs → x ≡ get_or xs c x → y ≡ f c x → made ++ by_place f c (drop c xs) ≡ all → (made ++ y ∷ []) ++ by_place f (c + 1) (drop (c + 1) xs) ≡ all
place_next f made all xs c x y h is value before =
    let rest : drop c xs ≡ x ∷ drop (c + 1) xs = drop_more xs c x h ∙ ap (λ z. z ∷ drop (c + 1) xs) (sym is) in
    append_assoc made (y ∷ []) (by_place f (c + 1) (drop (c + 1) xs))
    ∙ ap (λ z. made ++ (z ∷ by_place f (c + 1) (drop (c + 1) xs))) value
    ∙ ap (λ l. made ++ by_place f c l) (sym rest)
    ∙ before

-- no element more
pub place_end : {X Y : Type 0} (f : ℕ → X → Y) (made all : List Y) (xs : List X) (c : ℕ) → length xs ≤ c → made ++ by_place f c (drop c xs) ≡ all → made ≡ all
place_end f made all xs c h before = sym (append-nil made) ∙ ap (λ l. made ++ by_place f c l) (sym (drop_all c xs h)) ∙ before

place_same : {X Y : Type 0} (f g : ℕ → X → Y) (n c : ℕ) (xs : List X) → c + length xs ≤ n → ((k : ℕ) → k < n → (x : X) → f k x ≡ g k x) → by_place f c xs ≡ by_place g c xs
place_same f g n c [] h same = refl
place_same f g n c (x ∷ xs) h same =
    let first : f c x ≡ g c x = same c (omega arith) x in
    let rest : by_place f (c + 1) xs ≡ by_place g (c + 1) xs = place_same f g n (c + 1) xs (omega arith) same in
    λ i. first i ∷ rest i

place_long : {X Y : Type 0} (f : ℕ → X → Y) (c : ℕ) (xs : List X) → length (by_place f c xs) ≡ length xs
place_long f c [] = refl
place_long f c (x ∷ xs) = ap suc (place_long f (c + 1) xs)

-- a test of the images of some elements
pub any_of : {X Y : Type 0} (p : Y → Bool) (f : X → Y) (xs : List X) → list_any (λ x. p (f x)) xs ≡ list_any p (map f xs)
any_of p f [] = refl
any_of p f (x ∷ xs) = ap (λ b. p (f x) || b) (any_of p f xs)

-- ---- the findings say what a plan's candidate holds

map_same : {X Y : Type 0} (f g : X → Y) → ((x : X) → f x ≡ g x) → (xs : List X) → map f xs ≡ map g xs
map_same f g same [] = refl
map_same f g same (x ∷ xs) = λ i. same x i ∷ map_same f g same xs i

range_same : {X : Type 0} (f g : ℕ → X) (a n : ℕ) → ((t : ℕ) → t < a + n → f t ≡ g t) → map f (range_with_len a n) ≡ map g (range_with_len a n)
range_same f g a zero same = refl
range_same f g a (suc n) same =
    let first : f a ≡ g a = same a (omega arith) in
    let rest : map f (range_with_len (a + 1) n) ≡ map g (range_with_len (a + 1) n) = range_same f g (a + 1) n (λ t h. same t (omega arith)) in
    λ i. first i ∷ rest i

rows_same : (scanned also : Bool) (fixed other : ℕ → Option Value) (fs : List FillingRule) (rows : ℕ) → scanned ≡ also → ((c : ℕ) → c < length fs → fixed c ≡ other c) → rows_in scanned fixed fs rows ≡ rows_in also other fs rows
rows_same scanned also fixed other fs rows s f =
    let same = map_same (filled_row fixed fs rows) (filled_row other fs rows) (λ row. place_same (λ c g. cell (fixed c) (filled g rows row)) (λ c g. cell (other c) (filled g rows row)) (length fs) 0 fs (omega arith) (λ c h g. ap (λ v. cell v (filled g rows row)) (f c h))) (positions rows) in
    λ j. cond (s j) (same j) []

pub varied_found : (tables : List TableRule) (outline : Outline) (suggested : Suggested) (rows number : ℕ) (instance : Instance)
    → instance ≡ map (λ t. rows_in (scanned_in outline t) (fixed_in outline t) (fillings (hints_of suggested) (table_rule tables t) t rows number) rows) (positions (length tables)) → IsVaried tables outline suggested rows number instance
varied_found tables outline suggested rows number instance is plan of_plan of_literals =
    is
    ∙ range_same _ _ 0 (length tables) (λ t h.
    let fs = fillings (hints_of suggested) (table_rule tables t) t rows number in
    let long : length fs ≡ length (table_rule tables t).columns = place_long _ 0 (table_rule tables t).columns in
    rows_same (scanned_in outline t) (is_scanned plan t) (fixed_in outline t) (fixed_value (table_rule tables t).columns plan t) fs rows (of_plan.scanned t (omega arith)) (λ c k. of_plan.fixed t c (omega arith) (omega (arith, k, long))))
    ∙ ap (λ h. varied_by h tables plan rows number) of_literals
