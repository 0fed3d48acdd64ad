-- The columns that wanted lists name.
use Rattle.std.proofs.Common.{◌≡◌, ℕ, zero, suc, ◌+◌, ◌<◌, ◌≤◌, Bool, true, false, ◌||◌, ◌&&◌, List, [], ◌∷◌, length, take, get_or, refl, sym, ◌∙◌, ap, subst, arith}
use Rattle.std.proofs.Math.Bool.{or_assoc, or-false}
use Rattle.std.proofs.lemmas.List.{take_all}
use Rattle.wd_plan.specs.Plans.{has}
use Rattle.wd_candidates.specs.Marks.{MarksMore}
use Rattle.wd_candidates.specs.Origins.{is_in_wanted}
use Rattle.wd_candidates.proofs.Marked.{marks_none, marks_same, marks_both}

-- it goes by which of the lists are wanted
pub wanted_same : (lists : List (List ℕ)) (v w : ℕ → Bool) (c : ℕ) → ((n : ℕ) → n < length lists → v n ≡ w n) → is_in_wanted lists v c ≡ is_in_wanted lists w c
wanted_same [] v w c same = refl
wanted_same (columns ∷ lists) v w c same =
    let first : v 0 ≡ w 0 = same 0 (omega arith) in
    let rest : is_in_wanted lists (λ n. v (n + 1)) c ≡ is_in_wanted lists (λ n. w (n + 1)) c = wanted_same lists (λ n. v (n + 1)) (λ n. w (n + 1)) c (λ n h. same (n + 1) (omega arith)) in
    λ i. (first i && has columns c) || rest i

-- one list more
more : (lists : List (List ℕ)) (w : ℕ → Bool) (i c : ℕ) → i < length lists → is_in_wanted (take (suc i) lists) w c ≡ (is_in_wanted (take i lists) w c || (w i && has (get_or lists i []) c))
more [] w i c h = absurd (omega arith)
more (columns ∷ lists) w zero c h = or-false (w 0 && has columns c)
more (columns ∷ lists) w (suc i) c h =
    let first = w 0 && has columns c in
    let rest = more lists (λ n. w (n + 1)) i c (omega arith) in
    let next : i + 1 ≡ suc i = omega arith in
    ap (λ b. first || b) rest
    ∙ sym (or_assoc first (is_in_wanted (take i lists) (λ n. w (n + 1)) c) (w (i + 1) && has (get_or lists i []) c))
    ∙ ap (λ k. (first || is_in_wanted (take i lists) (λ n. w (n + 1)) c) || (w k && has (get_or lists i []) c)) next

more_plus : (lists : List (List ℕ)) (w : ℕ → Bool) (i c : ℕ) → i < length lists → is_in_wanted (take (i + 1) lists) w c ≡ (is_in_wanted (take i lists) w c || (w i && has (get_or lists i []) c))
more_plus lists w i c h =
    let next : suc i ≡ i + 1 = omega arith in
    subst (λ k. is_in_wanted (take k lists) w c ≡ (is_in_wanted (take i lists) w c || (w i && has (get_or lists i []) c))) next (more lists w i c h)

-- none yet
pub wanted_start : (a : List Bool) (lists : List (List ℕ)) (w : ℕ → Bool) → MarksMore a (is_in_wanted (take 0 lists) w) a
wanted_start a lists w = marks_none a (is_in_wanted (take 0 lists) w) (λ c. refl)

-- the columns of a list that is wanted
pub wanted_next : (a b d : List Bool) (lists : List (List ℕ)) (w : ℕ → Bool) (i : ℕ) (columns : List ℕ) → i < length lists → w i ≡ true → columns ≡ get_or lists i [] → MarksMore a (is_in_wanted (take i lists) w) b → MarksMore b (λ c. has columns c) d → MarksMore a (is_in_wanted (take (i + 1) lists) w) d
wanted_next a b d lists w i columns h on is m n =
    marks_both a b d (is_in_wanted (take i lists) w) (λ c. has columns c) (is_in_wanted (take (i + 1) lists) w)
    (λ c. (λ k. is_in_wanted (take i lists) w c || (sym on k && has (is k) c)) ∙ sym (more_plus lists w i c h)) m n

-- a list that is not wanted
pub wanted_passed : (a b : List Bool) (lists : List (List ℕ)) (w : ℕ → Bool) (i : ℕ) → i < length lists → w i ≡ false → MarksMore a (is_in_wanted (take i lists) w) b → MarksMore a (is_in_wanted (take (i + 1) lists) w) b
wanted_passed a b lists w i h off m =
    marks_same a b (is_in_wanted (take i lists) w) (is_in_wanted (take (i + 1) lists) w)
    (λ c k. sym (or-false (is_in_wanted (take i lists) w c)) ∙ (λ j. is_in_wanted (take i lists) w c || (sym off j && has (get_or lists i []) c)) ∙ sym (more_plus lists w i c h)) m

-- all of them
pub wanted_all : (a b : List Bool) (lists : List (List ℕ)) (w : ℕ → Bool) (i : ℕ) → length lists ≤ i → MarksMore a (is_in_wanted (take i lists) w) b → MarksMore a (is_in_wanted lists w) b
wanted_all a b lists w i h m = subst (λ l. MarksMore a (is_in_wanted l w) b) (take_all i lists h) m
