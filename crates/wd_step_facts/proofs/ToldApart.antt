-- Sets are told apart by marks of distinct columns as by all columns.
use Rattle.std.proofs.Common.{◌≡◌, ◌∙◌, ℕ, Bool, true, false, ◌&&◌, ◌||◌, if◌then◌else◌, List, [], ◌∷◌, ◌++◌, map, length, drop, min, zero, suc, ◌≤◌, nat_eq, arith, refl, sym, ap}
use Rattle.std.specs.List.{list_all, list_any}
use Rattle.std.proofs.lemmas.List.{append-nil, append_assoc, drop_all}
use Rattle.std.proofs.lemmas.Bool.{eqb-true, false≢true}
use Rattle.wd_plan.specs.Plans.{GroupCall, has}
use Rattle.wd_step_facts.specs.Apart.{are_marked_apart, differ, marks, with_new}
use Rattle.wd_step_facts.specs.Steps.{are_told_apart, differ_in, grouping_arguments, grouping_arguments_of}

-- ---- marks

differ_marks : (set other columns : List ℕ) → differ (marks columns set) (marks columns other) ≡ list_any (differ_in set other) columns
differ_marks set other [] = refl
differ_marks set other (c ∷ columns) = ap (λ b. differ_in set other c || b) (differ_marks set other columns)

each_differs : (set columns : List ℕ) (sets : List (List ℕ)) → list_all (differ (marks columns set)) (map (marks columns) sets) ≡ list_all (λ other. list_any (differ_in set other) columns) sets
each_differs set columns [] = refl
each_differs set columns (other ∷ sets) = λ i. differ_marks set other columns i && each_differs set columns sets i

pub by_marks : (columns : List ℕ) (sets : List (List ℕ)) → are_marked_apart (map (marks columns) sets) ≡ are_told_apart columns sets
by_marks columns [] = refl
by_marks columns (set ∷ sets) = λ i. each_differs set columns sets i && by_marks columns sets i

-- past the end of one row nothing differs
differ_nil : (xs : List Bool) → differ xs [] ≡ false
differ_nil [] = refl
differ_nil (x ∷ xs) = refl

pub differ_past : (n : ℕ) (xs ys : List Bool) → min (length xs) (length ys) ≤ n → differ (drop n xs) (drop n ys) ≡ false
differ_past n [] ys h = ap (λ l. differ l (drop n ys)) (drop_all n [] (omega arith))
differ_past n (x ∷ xs) [] h = ap (differ (drop n (x ∷ xs))) (drop_all n [] (omega arith)) ∙ differ_nil (drop n (x ∷ xs))
differ_past zero (x ∷ xs) (y ∷ ys) h = absurd (omega arith)
differ_past (suc n) (x ∷ xs) (y ∷ ys) h = differ_past n xs ys (omega arith)

-- ---- distinct columns

swap : (a b d : Bool) → ((a || b) || d) ≡ (a || (b || d))
swap true b d = refl
swap false b d = refl

twice : (a b : Bool) → ((a || b) || a) ≡ (a || b)
twice true b = refl
twice false true = refl
twice false false = refl

or_false : (a : Bool) → (a || false) ≡ a
or_false true = refl
or_false false = refl

any_append : (t : ℕ → Bool) (xs ys : List ℕ) → list_any t (xs ++ ys) ≡ (list_any t xs || list_any t ys)
any_append t [] ys = refl
any_append t (x ∷ xs) ys = ap (λ b. t x || b) (any_append t xs ys) ∙ sym (swap (t x) (list_any t xs) (list_any t ys))

there_step : (t : ℕ → Bool) (x c : ℕ) (xs : List ℕ) (b : Bool) → nat_eq c x ≡ b → (b || has xs c) ≡ true → (has xs c ≡ true → (list_any t xs || t c) ≡ list_any t xs) → (list_any t (x ∷ xs) || t c) ≡ list_any t (x ∷ xs)
there_step t x c xs true e h on = ap (λ y. list_any t (x ∷ xs) || t y) (eqb-true c x e) ∙ twice (t x) (list_any t xs)
there_step t x c xs false e h on = swap (t x) (list_any t xs) (t c) ∙ ap (λ b. t x || b) (on h)

-- a column that stands in a list adds nothing to what is true of some column of it
there : (t : ℕ → Bool) (xs : List ℕ) (c : ℕ) → has xs c ≡ true → (list_any t xs || t c) ≡ list_any t xs
there t [] c h = absurd (false≢true h)
there t (x ∷ xs) c h = there_step t x c xs (nat_eq c x) refl h (there t xs c)

new_step : (t : ℕ → Bool) (c : ℕ) (columns list : List ℕ) (b : Bool) → has list c ≡ b → (list_any t (if b then list else list ++ c ∷ []) || list_any t columns) ≡ (list_any t list || (t c || list_any t columns))
new_step t c columns list true e = ap (λ a. a || list_any t columns) (sym (there t list c e)) ∙ swap (list_any t list) (t c) (list_any t columns)
new_step t c columns list false e = ap (λ a. a || list_any t columns) (any_append t list (c ∷ []) ∙ ap (λ b. list_any t list || b) (or_false (t c))) ∙ swap (list_any t list) (t c) (list_any t columns)

any_new : (t : ℕ → Bool) (columns list : List ℕ) → list_any t (with_new columns list) ≡ (list_any t list || list_any t columns)
any_new t [] list = sym (or_false (list_any t list))
any_new t (c ∷ columns) list = any_new t columns (if has list c then list else list ++ c ∷ []) ∙ new_step t c columns list (has list c) refl

each_new : (set columns : List ℕ) (sets : List (List ℕ)) → list_all (λ other. list_any (differ_in set other) (with_new columns [])) sets ≡ list_all (λ other. list_any (differ_in set other) columns) sets
each_new set columns [] = refl
each_new set columns (other ∷ sets) = λ i. any_new (differ_in set other) columns [] i && each_new set columns sets i

pub by_distinct : (columns : List ℕ) (sets : List (List ℕ)) → are_told_apart (with_new columns []) sets ≡ are_told_apart columns sets
by_distinct columns [] = refl
by_distinct columns (set ∷ sets) = λ i. each_new set columns sets i && by_distinct columns sets i

-- ---- the arguments, call by call

new_append : (xs ys list : List ℕ) → with_new (xs ++ ys) list ≡ with_new ys (with_new xs list)
new_append [] ys list = refl
new_append (x ∷ xs) ys list = new_append xs ys (if has list x then list else list ++ x ∷ [])

pub arguments_next : (before : List GroupCall) (call : GroupCall) → with_new (grouping_arguments (before ++ call ∷ [])) [] ≡ with_new (grouping_arguments_of call) (with_new (grouping_arguments before) [])
arguments_next before call = ap (λ columns. with_new columns []) (in_all before) ∙ new_append (grouping_arguments before) (grouping_arguments_of call) []
  where
    in_all : (before : List GroupCall) → grouping_arguments (before ++ call ∷ []) ≡ grouping_arguments before ++ grouping_arguments_of call
    in_all [] = append-nil (grouping_arguments_of call)
    in_all (first ∷ before) = ap (λ l. grouping_arguments_of first ++ l) (in_all before) ∙ sym (append_assoc (grouping_arguments_of first) (grouping_arguments before) (grouping_arguments_of call))
