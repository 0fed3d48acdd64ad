-- The loop of the closure: its states, and the number of its steps.
use Rattle.std.proofs.Common.{◌≡◌, ℕ, ◌+◌, ◌<◌, ◌≤◌, Bool, true, false, cond, ◌&&◌, List, [], ◌∷◌, ◌++◌, take, drop, length, get_or, replicate, refl, sym, ◌∙◌, ap, arith, subst}
use Rattle.std.specs.List.{list_all, AllByRecursion, range_with_len, count_by, sum_by}
use Rattle.std.proofs.lemmas.List.{append-nil, drop_all, get_or-replicate, length-replicate, take_all}
use Rattle.std.proofs.lemmas.List.Recursion.{is_sum_by}
use Rattle.wd_step_facts.specs.declared.facts.Member.{Member}
use Rattle.wd_step_facts.specs.declared.facts.Member.TheVariants.{Row}
use Rattle.wd_step_facts.specs.Facts.{Fact, FactList, columns_named}
use Rattle.wd_sets.specs.Sets.{place, stands_in}
use Rattle.wd_close.specs.Closure.{IsClosure, all_members, is_named, steps_of}
use Rattle.wd_close.specs.Reached.{all_added, brought, fallen, fired, used, watching}
use Rattle.wd_close.proofs.Counts.{in_and_lacking, number_different, number_in, number_is}
use Rattle.wd_close.proofs.Lists.{all_apart, all_at, different, lacking, lacking_falls, lacking_nil}
use Rattle.wd_close.proofs.Names.{HasSplit, IsNamed, left_at, named_in}
use Rattle.wd_close.proofs.Steps.{State, occurs, sizes}
use Rattle.wd_close.proofs.Step.{done_left, fresh, now_is, stands_get, step}
use Rattle.wd_close.proofs.Ends.{complete, first_state, ready_first, started}
use Rattle.wd_close.proofs.Ready.{fired_done}
use Rattle.wd_close.proofs.Derivations.{IsDerived, brought_derived, each}
use Rattle.wd_close.proofs.Watching.{apart_left, each_length, each_long, is_watching, place_lt, put_all, put_each}

pub written : (new items : List ℕ) (len : ℕ) → length new ≡ length items → len ≡ length items → take len (new ++ drop (length new) items) ≡ new
written new items len e f = ap (λ d. take len (new ++ d)) (drop_all (length new) items (omega (arith, e))) ∙ ap (take len) (append-nil new) ∙ take_all len new (omega (arith, e, f))

pub start_state : (facts : FactList) (from : List Member) → AllByRecursion (IsNamed facts) facts.list → list_all (is_named facts) from ≡ true → (list : List Fact) (cs cs2 ready : List ℕ) (q0 q1 q2 : List Member) → list ≡ facts.list → cs ≡ sizes facts.list → cs2 ≡ sizes facts.list → ready ≡ ready_first facts.list → q0 ≡ [] → q1 ≡ all_added q0 from → q2 ≡ fired list cs2 q1 ready → State facts from 0 q2 cs
start_state facts from names from_named list cs cs2 ready q0 q1 q2 is e_cs e_cs2 e_ready e_q0 e_q1 e_q2 =
    let q1_is : q1 ≡ all_added [] from = e_q1 ∙ ap (λ q. all_added q from) e_q0 in
    let q2_is : q2 ≡ started facts.list from = e_q2 ∙ (λ i. fired (is i) (e_cs2 i) (q1_is i) (e_ready i)) ∙ fired_done facts.list (sizes facts.list) (all_added [] from) (range_with_len 0 (length facts.list)) in
    subst (λ q. State facts from 0 q cs) (sym q2_is) (subst (State facts from 0 (started facts.list from)) (sym e_cs) (first_state facts from names from_named))

module _ (facts : FactList) (from : List Member) (within : HasSplit facts) (names : AllByRecursion (IsNamed facts) facts.list) (k : ℕ) (q : List Member) (cs : List ℕ) (st : State facts from k q cs) (lt : k < length q) (W : List (List ℕ)) (is : W ≡ put_all (replicate (facts.columns + 3) []) 0 facts.list) where
  pub once_in : (i : ℕ) → i < length facts.list → occurs i (watching W q k) ≡ cond (stands_in (different (left_at facts.list i)) (get_or q k Row)) 1 0
  once_in i h = ap (λ w. occurs i (watching w q k)) is ∙ (is_watching facts).once (get_or q k Row) (st.good.named (get_or q k Row) (stands_get q k lt)) i h

  pub next_state : (cs' : List ℕ) (q' : List Member) → cs' ≡ fallen cs (watching W q k) → q' ≡ fired facts.list cs' (brought facts q (get_or q k Row)) (watching W q k) → State facts from (k + 1) q' cs'
  next_state cs' q' e f =
      subst (λ r. State facts from (k + 1) r cs') (sym (f ∙ ap (λ c. fired facts.list c (brought facts q (get_or q k Row)) (watching W q k)) e)) (subst (State facts from (k + 1) (fired facts.list (fallen cs (watching W q k)) (brought facts q (get_or q k Row)) (watching W q k))) (sym e) (step facts from within names k q cs (watching W q k) st lt once_in))

  pub next_derived : (cs' : List ℕ) (q' : List Member) (uses uses' : List ℕ) → cs' ≡ fallen cs (watching W q k) → q' ≡ fired facts.list cs' (brought facts q (get_or q k Row)) (watching W q k) → uses' ≡ used facts.list cs' (brought facts q (get_or q k Row)) uses (watching W q k) → IsDerived facts from q uses → IsDerived facts from q' uses'
  next_derived cs' q' uses uses' e f g d =
      let w = watching W q k in
      let q1 = brought facts q (get_or q k Row) in
      let all : IsDerived facts from (fired facts.list (fallen cs w) q1 w) (used facts.list (fallen cs w) q1 uses w) =
      each facts from (fallen cs w) q1 uses w (brought_derived facts from q uses (get_or q k Row) d (stands_get q k lt)) (done_left facts from within names k q cs w st lt once_in) in
      let q_is : q' ≡ fired facts.list (fallen cs w) q1 w = f ∙ ap (λ c. fired facts.list c q1 w) e in
      let uses_is : uses' ≡ used facts.list (fallen cs w) q1 uses w = g ∙ ap (λ c. used facts.list c q1 uses w) e in
      subst (λ r. IsDerived facts from r uses') (sym q_is) (subst (IsDerived facts from (fired facts.list (fallen cs w) q1 w)) (sym uses_is) all)

-- ---- the number of steps

abbrev pub holders : List Fact → Member → ℕ
holders [] m = 0
holders (f ∷ fs) m = cond (stands_in (different f.from) m) 1 0 + holders fs m

abbrev pub lacks : List Fact → List Member → ℕ
lacks [] P = 0
lacks (f ∷ fs) P = lacking (different f.from) P + lacks fs P

abbrev pub total : List Fact → ℕ
total [] = 0
total (f ∷ fs) = length (different f.from) + total fs

pub lacks_fall : (fs : List Fact) (P : List Member) (m : Member) → stands_in P m ≡ false → lacks fs P ≡ holders fs m + lacks fs (P ++ m ∷ [])
lacks_fall [] P m e = refl
lacks_fall (f ∷ fs) P m e = omega (arith, lacks_fall fs P m e, lacking_falls (different f.from) P m (apart_left f) e)

pub lacks_all : (fs : List Fact) → lacks fs [] ≡ total fs
lacks_all [] = refl
lacks_all (f ∷ fs) = omega (arith, lacks_all fs, lacking_nil (different f.from))

watched_len : (W : List (List ℕ)) (i : ℕ) (fs : List Fact) (m : Member) → place m < length W → length (get_or (put_all W i fs) (place m) []) ≡ length (get_or W (place m) []) + holders fs m
watched_len W i [] m h = omega arith
watched_len W i (f ∷ fs) m h = watched_len (put_each W i (different f.from)) (i + 1) fs m (omega (arith, h, each_long W i (different f.from))) ∙ omega (arith, each_length W i (different f.from) m h (apart_left f))

pub watching_len : (facts : FactList) (m : Member) → is_named facts m ≡ true → length (get_or (put_all (replicate (facts.columns + 3) []) 0 facts.list) (place m) []) ≡ holders facts.list m
watching_len facts m n =
    let blank : List (List ℕ) = replicate (facts.columns + 3) [] in
    let long : length blank ≡ facts.columns + 3 = length-replicate (facts.columns + 3) [] in
    let none : length (get_or blank (place m) []) ≡ 0 = ap length (get_or-replicate (facts.columns + 3) (place m) [] [] (place_lt facts m n)) in
    omega (arith, none, watched_len blank 0 facts.list m (omega (arith, long, place_lt facts m n)))

module _ (facts : FactList) (from : List Member) (within : HasSplit facts) (names : AllByRecursion (IsNamed facts) facts.list) (k : ℕ) (q : List Member) (cs : List ℕ) (st : State facts from k q cs) (lt : k < length q) (W : List (List ℕ)) (is : W ≡ put_all (replicate (facts.columns + 3) []) 0 facts.list) where
  pub next_steps : (cs' : List ℕ) (q' : List Member) (steps n : ℕ) → cs' ≡ fallen cs (watching W q k) → q' ≡ fired facts.list cs' (brought facts q (get_or q k Row)) (watching W q k) → n ≡ length (watching W q k) → steps + lacks facts.list (take k q) ≡ k + total facts.list → steps + (1 + n) + lacks facts.list (take (k + 1) q') ≡ k + 1 + total facts.list
  next_steps cs' q' steps n e f g h =
      let a : lacks facts.list (take (k + 1) q') ≡ lacks facts.list (take k q ++ get_or q k Row ∷ []) = ap (λ r. lacks facts.list (take (k + 1) r)) (f ∙ ap (λ c. fired facts.list c (brought facts q (get_or q k Row)) (watching W q k)) e) ∙ ap (lacks facts.list) (now_is facts from within names k q cs (watching W q k) st lt (once_in facts from within names k q cs st lt W is)) in
      let b = lacks_fall facts.list (take k q) (get_or q k Row) (fresh q k st.good.apart lt) in
      let d : length (watching W q k) ≡ holders facts.list (get_or q k Row) = ap (λ w. length (watching w q k)) is ∙ watching_len facts (get_or q k Row) (st.good.named (get_or q k Row) (stands_get q k lt)) in
      omega (arith, a, b, d, g, h)

abbrev number_left : (Member → Bool) → List Fact → ℕ
number_left has [] = 0
number_left has (f ∷ fs) = number_in has (different f.from) + number_left has fs

in_facts : (has : Member → Bool) (q : List Member) → ((x : Member) → has x ≡ stands_in q x) → (fs : List Fact) → number_left has fs + lacks fs q ≡ total fs
in_facts has q h [] = refl
in_facts has q h (f ∷ fs) = omega (arith, in_facts has q h fs, in_and_lacking has q h (different f.from))

-- the members of left sides that are in a set, sizes among all
abbrev number_counted : (Member → Bool) → List Member → List Fact → ℕ
number_counted has all [] = 0
number_counted has all (f ∷ fs) = number_in (λ m. has m && stands_in f.from m) all + number_counted has all fs

left_counted : (facts : FactList) (has : Member → Bool) (fs : List Fact) → AllByRecursion (IsNamed facts) fs → number_left has fs ≡ number_counted has (all_members facts.columns) fs
left_counted facts has [] a = refl
left_counted facts has (f ∷ fs) a =
    omega (arith, left_counted facts has fs a.1, number_different has (all_members facts.columns) (all_apart facts.columns) f.from (λ x e. named_in facts x (all_at (is_named facts) f.from x a.0.0 e)))

counted_is : (has : Member → Bool) (all : List Member) (fs : List Fact) → number_counted has all fs ≡ sum_by (λ (f : Fact). count_by (λ m. has m && stands_in f.from m) all) fs
counted_is has all fs = is_sum_by (number_counted has all) (λ (f : Fact). count_by (λ m. has m && stands_in f.from m) all) refl (λ f fs. ap (λ n. n + number_counted has all fs) (number_is (λ m. has m && stands_in f.from m) all)) fs

pub all_steps : (facts : FactList) (from : List Member) (k : ℕ) (q : List Member) (cs : List ℕ) (has : Member → Bool) (steps : ℕ) → AllByRecursion (IsNamed facts) facts.list → State facts from k q cs → length q ≤ k → ((x : Member) → has x ≡ stands_in q x) → steps + lacks facts.list (take k q) ≡ k + total facts.list → steps ≡ steps_of facts has
all_steps facts from k q cs has steps names st last h e =
    let a : lacks facts.list (take k q) ≡ lacks facts.list q = ap (lacks facts.list) (take_all k q last) in
    let b : number_in has (all_members facts.columns) ≡ count_by has (all_members facts.columns) = number_is has (all_members facts.columns) in
    let c = left_counted facts has facts.list names ∙ counted_is has (all_members facts.columns) facts.list in
    omega (arith, a, b, c, e, in_facts has q h facts.list, in_and_lacking has q h (all_members facts.columns), st.good.room, st.reached, last)

-- what the last state has reached is what the columns give
pub is_closure : (facts : FactList) (columns : List ℕ) (k : ℕ) (q : List Member) (cs : List ℕ) (has : Member → Bool) → HasSplit facts → AllByRecursion (IsNamed facts) facts.list → list_all (is_named facts) (columns_named columns) ≡ true → State facts (columns_named columns) k q cs → length q ≤ k → ((x : Member) → has x ≡ stands_in q x) → IsClosure facts columns has
is_closure facts columns k q cs has within names columns_in st last h m = (
  (λ e. let f : stands_in q m ≡ true = sym (h m) ∙ e in (st.good.named m f, st.good.sound m f)),
  (λ e. h m ∙ complete facts (columns_named columns) k q cs within names columns_in st last m e.0 e.1),
)
