-- Comments: the place after the one that is open.
use Rattle.std.proofs.Common.{◌≡◌, ◌≢◌, ℕ, zero, suc, ◌+◌, ◌-◌, Bool, true, false, cond, eqb, ◌&&◌, ⊎_elim, List, [], ◌∷◌, ◌++◌, length, drop, codes, nat_eq, Option, Some, None, refl, sym, ap, ap₂, ◌∙◌, subst, arith, append_assoc, append-nil, length-append, eq-eqb, ne_eqb, eqb-true}
use Rattle.std.proofs.lemmas.Bool.{cases_Bool, and_parts, cond-true, cond-false}
use Rattle.std.proofs.lemmas.List.{drop-drop}
use Rattle.std.proofs.lemmas.Bool.Decides.{nat_tests}
use Rattle.std.specs.List.{starts_with}
use Rattle.wd_lex.specs.Pieces.{EndsComment, closing, character, comment}
use Rattle.wd_lex.specs.Reading.{comment_end}

-- two bytes are these
abbrev pub are : ℕ → ℕ → ℕ → ℕ → Bool
are b c first second = eqb b first && eqb c second

-- they are these, as a list
are_true : (b c first second : ℕ) → are b c first second ≡ true → b ∷ c ∷ [] ≡ first ∷ second ∷ []
are_true b c first second e = let parts = and_parts (eqb b first) (eqb c second) e in
    ap₂ (λ x y. x ∷ y ∷ []) (eqb-true b first parts.0) (eqb-true c second parts.1)

are_false : (b c first second : ℕ) → b ∷ c ∷ [] ≢ first ∷ second ∷ [] → are b c first second ≡ false
are_false b c first second ne = ⊎_elim (λ yes_are. absurd (ne (are_true b c first second yes_are))) (λ e. e) (cases_Bool (are b c first second))

are_not : (b c first second : ℕ) → are b c first second ≡ false → b ∷ c ∷ [] ≢ first ∷ second ∷ []
are_not b c first second e = λ same.
    let e₁ : b ≡ first = cc in let e₂ : c ≡ second = cc in
    let both : are b c first second ≡ true = rw (eq-eqb b first e₁, eq-eqb c second e₂) refl in cc

-- ---- one step

-- what follows a `*/` so many comments deep
abbrev pub closed : ℕ → ℕ → List ℕ → Option ℕ
closed depth at rest = cond (eqb depth 0) (Some at) (comment_end (depth - 1) at rest)

pub closed_none : (at : ℕ) (rest : List ℕ) → closed 0 at rest ≡ Some at
closed_none at rest = refl

pub closed_one : (depth at : ℕ) (rest : List ℕ) → closed (depth + 1) at rest ≡ comment_end depth at rest
closed_one depth at rest =
    let deep : eqb (depth + 1) 0 ≡ false = ne_eqb (depth + 1) 0 (λ e. omega arith) in
    let back : depth + 1 - 1 ≡ depth = omega arith in
    rw (deep, back) refl

end_close : (depth at : ℕ) (rest : List ℕ) → comment_end depth at (42 ∷ 47 ∷ rest) ≡ closed depth (at + 2) rest
end_close depth at rest = refl

end_open : (depth at : ℕ) (rest : List ℕ) → comment_end depth at (47 ∷ 42 ∷ rest) ≡ comment_end (depth + 1) (at + 2) rest
end_open depth at rest = refl

end_other : (depth at b c : ℕ) (rest : List ℕ) → are b c 42 47 ≡ false → are b c 47 42 ≡ false → comment_end depth at (b ∷ c ∷ rest) ≡ comment_end depth (at + 1) (c ∷ rest)
end_other depth at b c rest no_close no_open = rw (no_close, no_open) refl

-- ---- what ends a comment is found

pub comment_end-ends : (depth at : ℕ) (inside rest : List ℕ) → EndsComment inside → comment_end depth at (inside ++ rest) ≡ closed depth (at + length inside) rest
comment_end-ends depth at inside rest closing = refl
comment_end-ends depth at inside rest (character b c bytes no_open no_close ends) =
    let e : at + 1 + length (c ∷ bytes) ≡ at + length (b ∷ c ∷ bytes) = omega arith in
    end_other depth at b c (bytes ++ rest) (are_false b c 42 47 no_close) (are_false b c 47 42 no_open)
    ∙ comment_end-ends depth (at + 1) (c ∷ bytes) rest ends ∙ ap (λ n. closed depth n rest) e
comment_end-ends depth at inside rest (comment inner bytes opened ends) =
    let e : at + 2 + length inner + length bytes ≡ at + length (47 ∷ 42 ∷ inner ++ bytes) = omega (arith, length-append inner bytes) in
    ap (comment_end (depth + 1) (at + 2)) (append_assoc inner bytes rest)
    ∙ comment_end-ends (depth + 1) (at + 2) inner (bytes ++ rest) opened
    ∙ closed_one depth (at + 2 + length inner) (bytes ++ rest)
    ∙ comment_end-ends depth (at + 2 + length inner) bytes rest ends ∙ ap (λ n. closed depth n rest) e

-- ---- what is found ends a comment

-- the bytes end a comment, and as many more
abbrev pub Ends : ℕ → List ℕ → Type 0
Ends zero bytes = EndsComment bytes
Ends (suc depth) bytes = (first : List ℕ) × (others : List ℕ) × (bytes ≡ first ++ others) × EndsComment first × Ends depth others

pub record Finds (depth at : ℕ) (bytes : List ℕ) (end : ℕ) : Type 0 where
  pub inside : List ℕ
  pub rest : List ℕ
  pub whole : bytes ≡ inside ++ rest
  pub ends : Ends depth inside
  pub there : end ≡ at + length inside

abbrev pub FindsIf : ℕ → ℕ → List ℕ → Option ℕ → Type 0
FindsIf depth at bytes None = Unit {0}
FindsIf depth at bytes (Some end) = Finds depth at bytes end

close_more : (depth at : ℕ) (bytes : List ℕ) (found : Option ℕ) → FindsIf depth (at + 2) bytes found → FindsIf (suc depth) at (42 ∷ 47 ∷ bytes) found
close_more depth at bytes None h = tt
close_more depth at bytes (Some end) h = record {
  inside = 42 ∷ 47 ∷ h.inside;
  rest = h.rest;
  whole = ap (λ l. 42 ∷ 47 ∷ l) h.whole;
  ends = (codes "*/", h.inside, refl, closing, h.ends);
  there = omega (arith, h.there);
}

open_ends : (depth : ℕ) (inside : List ℕ) → Ends (suc depth) inside → Ends depth (47 ∷ 42 ∷ inside)
open_ends zero inside (first, others, whole, ends, more) = rw whole (comment first others ends more)
open_ends (suc depth) inside (first, others, whole, ends, (next, last, rest, ended, more)) =
    (codes "/*" ++ first ++ next, last, ap (λ l. 47 ∷ 42 ∷ l) (whole ∙ ap (λ l. first ++ l) rest ∙ sym (append_assoc first next last)), comment first next ends ended, more)

open_more : (depth at : ℕ) (bytes : List ℕ) (found : Option ℕ) → FindsIf (suc depth) (at + 2) bytes found → FindsIf depth at (47 ∷ 42 ∷ bytes) found
open_more depth at bytes None h = tt
open_more depth at bytes (Some end) h = record {
  inside = 47 ∷ 42 ∷ h.inside;
  rest = h.rest;
  whole = ap (λ l. 47 ∷ 42 ∷ l) h.whole;
  ends = open_ends depth h.inside h.ends;
  there = omega (arith, h.there);
}

-- what ends a comment isn't empty
EndsComment-nil : EndsComment [] → ⊥
EndsComment-nil ends = elim ends [ ]

Ends-nil : (depth : ℕ) → Ends depth [] → ⊥
Ends-nil zero ends = EndsComment-nil ends
Ends-nil (suc depth) (first, others, whole, ends, more) = first_nil first others whole ends
  where
    first_nil : (first others : List ℕ) → [] ≡ first ++ others → EndsComment first → ⊥
    first_nil [] others e ends = EndsComment-nil ends
    first_nil (b ∷ first) others e ends = cc

other_ends : (depth b c : ℕ) (bytes : List ℕ) → are b c 42 47 ≡ false → are b c 47 42 ≡ false → Ends depth (c ∷ bytes) → Ends depth (b ∷ c ∷ bytes)
other_ends zero b c bytes no_close no_open ends = character b c bytes (are_not b c 47 42 no_open) (are_not b c 42 47 no_close) ends
other_ends (suc depth) b c bytes no_close no_open ([], others, whole, ends, more) = absurd (EndsComment-nil ends)
other_ends (suc depth) b c bytes no_close no_open (d ∷ first, others, whole, ends, more) =
    let same : d ≡ c = cc in (
      b ∷ c ∷ first,
      others,
      (let tail : bytes ≡ first ++ others = cc in ap (λ l. b ∷ c ∷ l) tail),
      character b c first (are_not b c 47 42 no_open) (are_not b c 42 47 no_close) (rw (← same) ends),
      more,
    )

other_more : (depth at b c : ℕ) (bytes : List ℕ) (found : Option ℕ) → are b c 42 47 ≡ false → are b c 47 42 ≡ false → FindsIf depth (at + 1) (c ∷ bytes) found → FindsIf depth at (b ∷ c ∷ bytes) found
other_more depth at b c bytes None no_close no_open h = tt
other_more depth at b c bytes (Some end) no_close no_open h = other_found h.inside h.rest h.whole h.ends h.there
  where
    other_found : (inside rest : List ℕ) → c ∷ bytes ≡ inside ++ rest → Ends depth inside → end ≡ at + 1 + length inside → Finds depth at (b ∷ c ∷ bytes) end
    other_found [] rest whole ends there = absurd (Ends-nil depth ends)
    other_found (d ∷ inside) rest whole ends there =
        let same : d ≡ c = cc in
        record {
          inside = b ∷ c ∷ inside;
          rest = rest;
          whole = ap (λ l. b ∷ l) (whole ∙ ap (λ x. x ∷ inside ++ rest) same);
          ends = other_ends depth b c inside no_close no_open (rw (← same) ends);
          there = omega arith;
        }

-- a close, by how deep it stands
close_by : (depth at : ℕ) (bytes : List ℕ) → ((d : ℕ) → FindsIf d (at + 2) bytes (comment_end d (at + 2) bytes)) → FindsIf depth at (42 ∷ 47 ∷ bytes) (closed depth (at + 2) bytes)
close_by zero at bytes h = record { inside = codes "*/"; rest = bytes; whole = refl; ends = closing; there = refl }
close_by (suc depth) at bytes h =
    let e : suc depth ≡ depth + 1 = omega arith in
    let known : closed (suc depth) (at + 2) bytes ≡ comment_end depth (at + 2) bytes = ap (λ d. closed d (at + 2) bytes) e ∙ closed_one depth (at + 2) bytes in
    rw known (close_more depth at bytes (comment_end depth (at + 2) bytes) (h depth))

open_by : (depth at b c : ℕ) (bytes : List ℕ) (t : Bool) → are b c 47 42 ≡ t → are b c 42 47 ≡ false
    → FindsIf (suc depth) (at + 2) bytes (comment_end (suc depth) (at + 2) bytes) → FindsIf depth (at + 1) (c ∷ bytes) (comment_end depth (at + 1) (c ∷ bytes))
    → FindsIf depth at (b ∷ c ∷ bytes) (cond t (comment_end (depth + 1) (at + 2) bytes) (comment_end depth (at + 1) (c ∷ bytes)))
open_by depth at b c bytes true opens no_close past next =
    let e : depth + 1 ≡ suc depth = omega arith in
    subst (λ l. FindsIf depth at l (comment_end (depth + 1) (at + 2) bytes)) (ap (λ l. l ++ bytes) (sym (are_true b c 47 42 opens)))
    (rw e (open_more depth at bytes (comment_end (suc depth) (at + 2) bytes) past))
open_by depth at b c bytes false no_open no_close past next = other_more depth at b c bytes (comment_end depth (at + 1) (c ∷ bytes)) no_close no_open next

step_by : (depth at b c : ℕ) (bytes : List ℕ) (t : Bool) → are b c 42 47 ≡ t
    → ((d : ℕ) → FindsIf d (at + 2) bytes (comment_end d (at + 2) bytes)) → FindsIf depth (at + 1) (c ∷ bytes) (comment_end depth (at + 1) (c ∷ bytes))
    → FindsIf depth at (b ∷ c ∷ bytes) (cond t (closed depth (at + 2) bytes) (cond (are b c 47 42) (comment_end (depth + 1) (at + 2) bytes) (comment_end depth (at + 1) (c ∷ bytes))))
step_by depth at b c bytes true closes past next =
    subst (λ l. FindsIf depth at l (closed depth (at + 2) bytes)) (ap (λ l. l ++ bytes) (sym (are_true b c 42 47 closes))) (close_by depth at bytes past)
step_by depth at b c bytes false no_close past next = open_by depth at b c bytes (are b c 47 42) refl no_close (past (suc depth)) next

pub comment_end_is : (depth at : ℕ) (bytes : List ℕ) → FindsIf depth at bytes (comment_end depth at bytes)
comment_end_is depth at [] = tt
comment_end_is depth at (b ∷ []) = tt
comment_end_is depth at (b ∷ c ∷ bytes) = step_by depth at b c bytes (are b c 42 47) refl (λ d. comment_end_is d (at + 2) bytes) (comment_end_is depth (at + 1) (c ∷ bytes))

-- no end of a comment goes on as another
pub EndsComment_longer : (inside : List ℕ) (next : ℕ) (more : List ℕ) → EndsComment inside → EndsComment (inside ++ next ∷ more) → ⊥
EndsComment_longer inside next more shorter longer =
    let e₁ : comment_end 0 0 (inside ++ next ∷ more) ≡ Some (0 + length inside) = comment_end-ends 0 0 inside (next ∷ more) shorter in
    let e₂ : comment_end 0 0 ((inside ++ next ∷ more) ++ []) ≡ Some (0 + length (inside ++ next ∷ more)) = comment_end-ends 0 0 (inside ++ next ∷ more) [] longer in
    let e₃ : (inside ++ next ∷ more) ++ [] ≡ inside ++ next ∷ more = append-nil (inside ++ next ∷ more) in
    let same : 0 + length inside ≡ 0 + length (inside ++ next ∷ more) = cc (ap (comment_end 0 0) e₃) in
    absurd (omega (arith, same, length-append inside (next ∷ more)))

-- ---- one step, as the code tells it

starts_pair : (b c first second : ℕ) (bytes : List ℕ) → starts_with nat_eq (b ∷ c ∷ bytes) (first ∷ second ∷ []) ≡ are b c first second
starts_pair b c first second bytes = ap₂ (λ x y. x && (y && true)) (eqb_sym first b) (eqb_sym second c) ∙ ap (λ t. eqb b first && t) (and_true (eqb c second))
  where
    and_true : (t : Bool) → (t && true) ≡ t
    and_true true = refl
    and_true false = refl

    eqb_sym : (x y : ℕ) → eqb x y ≡ eqb y x
    eqb_sym x y = grind (arith, nat_tests)

pub comment_end_close : (depth at : ℕ) (bytes : List ℕ) → starts_with nat_eq bytes (codes "*/") ≡ true → comment_end depth at bytes ≡ closed depth (at + 2) (drop 2 bytes)
comment_end_close depth at [] e = absurd cc
comment_end_close depth at (b ∷ []) e = absurd (let parts = and_parts (eqb 42 b) false e in cc)
comment_end_close depth at (b ∷ c ∷ bytes) e =
    let closes : are b c 42 47 ≡ true = sym (starts_pair b c 42 47 bytes) ∙ e in
    rw closes refl

pub comment_end_open : (depth at : ℕ) (bytes : List ℕ) → starts_with nat_eq bytes (codes "*/") ≡ false → starts_with nat_eq bytes (codes "/*") ≡ true → comment_end depth at bytes ≡ comment_end (depth + 1) (at + 2) (drop 2 bytes)
comment_end_open depth at [] no_close e = absurd cc
comment_end_open depth at (b ∷ []) no_close e = absurd (let parts = and_parts (eqb 47 b) false e in cc)
comment_end_open depth at (b ∷ c ∷ bytes) no_close e =
    let other : are b c 42 47 ≡ false = sym (starts_pair b c 42 47 bytes) ∙ no_close in
    let opens : are b c 47 42 ≡ true = sym (starts_pair b c 47 42 bytes) ∙ e in
    rw (other, opens) refl

pub comment_end_other : (depth at : ℕ) (bytes : List ℕ) → starts_with nat_eq bytes (codes "*/") ≡ false → starts_with nat_eq bytes (codes "/*") ≡ false → comment_end depth at bytes ≡ comment_end depth (at + 1) (drop 1 bytes)
comment_end_other depth at [] no_close no_open = refl
comment_end_other depth at (b ∷ []) no_close no_open = refl
comment_end_other depth at (b ∷ c ∷ bytes) no_close no_open =
    end_other depth at b c bytes (sym (starts_pair b c 42 47 bytes) ∙ no_close) (sym (starts_pair b c 47 42 bytes) ∙ no_open)

pub close_step : (depth at : ℕ) (bytes : List ℕ) → starts_with nat_eq (drop at bytes) (codes "*/") ≡ true → (depth ≡ 0 → ⊥)
    → comment_end (depth - 1) (at + 2) (drop (at + 2) bytes) ≡ comment_end depth at (drop at bytes)
close_step depth at bytes closes deep = sym (
    comment_end_close depth at (drop at bytes) closes ∙ cond-false (eqb depth 0) _ _ (ne_eqb depth 0 deep) ∙ ap (comment_end (depth - 1) (at + 2)) (drop-drop 2 at bytes))

pub close_last : (depth at : ℕ) (bytes : List ℕ) → starts_with nat_eq (drop at bytes) (codes "*/") ≡ true → depth ≡ 0 → Some (at + 2) ≡ comment_end depth at (drop at bytes)
close_last depth at bytes closes last = sym (comment_end_close depth at (drop at bytes) closes ∙ cond-true (eqb depth 0) _ _ (eq-eqb depth 0 last))

pub open_step : (depth at : ℕ) (bytes : List ℕ) → starts_with nat_eq (drop at bytes) (codes "*/") ≡ false → starts_with nat_eq (drop at bytes) (codes "/*") ≡ true
    → comment_end (depth + 1) (at + 2) (drop (at + 2) bytes) ≡ comment_end depth at (drop at bytes)
open_step depth at bytes no_close opens = sym (comment_end_open depth at (drop at bytes) no_close opens ∙ ap (comment_end (depth + 1) (at + 2)) (drop-drop 2 at bytes))

pub other_step : (depth at : ℕ) (bytes : List ℕ) → starts_with nat_eq (drop at bytes) (codes "*/") ≡ false → starts_with nat_eq (drop at bytes) (codes "/*") ≡ false
    → comment_end depth (at + 1) (drop (at + 1) bytes) ≡ comment_end depth at (drop at bytes)
other_step depth at bytes no_close no_open = sym (comment_end_other depth at (drop at bytes) no_close no_open ∙ ap (comment_end depth (at + 1)) (drop-drop 1 at bytes))
