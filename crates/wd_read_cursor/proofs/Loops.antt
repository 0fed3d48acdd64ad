-- How the code's readers of many items go on.
use Rattle.std.proofs.Common.{◌≡◌, ◌<◌, ◌≤◌, ◌-◌, ◌+◌, ◌++◌, ℕ, zero, suc, List, [], ◌∷◌, map, Some, None, Ok, Err, refl, ap, sym, ◌∙◌, arith, append_assoc}
use Rattle.std.proofs.lemmas.List.{append-nil, map_push}
use Rattle.wd_lex.specs.declared.token.Terminal.{Terminal}
use Rattle.wd_read_cursor.specs.declared.refusal.Refusal.{Refusal}
use Rattle.wd_read_cursor.specs.declared.refusal.Refusal.TheVariants as r
use Rattle.wd_read_cursor.specs.Tokens.{Kinds}
use Rattle.wd_read_cursor.specs.Cursor.{◌>>=◌, Unexpected, Limit, Reads, Parser, Chance, eat, many, after, with_front}
use Rattle.wd_read_cursor.specs.Given.{Fails, MayFail}

front_none : {A : Type 0} (front : List A) (ts : Kinds) → with_front front (Ok ([], ts)) ≡ Ok (front, ts)
front_none {A} front ts = ap (λ (xs : List A). let w : Reads (List A) = Ok (xs, ts) in w) (append-nil front)

front_more : {A : Type 0} (front : List A) (a : A) (read : Reads (List A)) → with_front front (read >>= λ xs. Ok (a ∷ xs.0, xs.1)) ≡ with_front (front ++ a ∷ []) read
front_more {A} front a (Ok xs) = ap (λ (ys : List A). let w : Reads (List A) = Ok (ys, xs.1) in w) (sym (append_assoc front (a ∷ []) xs.0))
front_more front a (Err f) = refl

pub many_more : {A : Type 0} (item : Chance A) (n i : ℕ) (front : List A) (a : A) (ts rest : Kinds) (total : Reads (List A)) → i < n → item ts ≡ Some (Ok (a, rest)) → with_front front (many item (n - i) ts) ≡ total → with_front (front ++ a ∷ []) (many item (n - (i + 1)) rest) ≡ total
unfolding many
many_more item n i front a ts rest total lt e so_far =
    let k : n - i ≡ suc (n - (i + 1)) = omega arith in
    let one : with_front front (many item (n - i) ts) ≡ with_front (front ++ a ∷ []) (many item (n - (i + 1)) rest) = rw (k, e) (front_more front a (many item (n - (i + 1)) rest)) in
    sym one ∙ so_far

pub many_fail : {A : Type 0} (e : Refusal) (item : Chance A) (n i : ℕ) (front : List A) (ts : Kinds) (read : Reads A) (total : Reads (List A)) → i < n → item ts ≡ Some read → Fails e read → with_front front (many item (n - i) ts) ≡ total → Fails e total
unfolding many
many_fail r.OutOfMemory item n i front ts read total lt e h so_far = tt
many_fail {A} (r.Unexpected left) item n i front ts read total lt e h so_far =
    let k : n - i ≡ suc (n - (i + 1)) = omega arith in
    let one : with_front front (many item (n - i) ts) ≡ Err (Unexpected left) = rw (k, e, h) refl in
    sym so_far ∙ one
many_fail {A} (r.PastLimit left) item n i front ts read total lt e h so_far =
    let k : n - i ≡ suc (n - (i + 1)) = omega arith in
    let one : with_front front (many item (n - i) ts) ≡ Err (Limit left) = rw (k, e, h) refl in
    sym so_far ∙ one

pub many_may_fail : {A : Type 0} (e : Refusal) (item : Chance A) (n i : ℕ) (front : List A) (ts : Kinds) (total : Reads (List A)) → i < n → MayFail e (item ts) → with_front front (many item (n - i) ts) ≡ total → Fails e total
many_may_fail r.OutOfMemory item n i front ts total lt h so_far = tt
many_may_fail (r.Unexpected left) item n i front ts total lt h so_far = many_fail (r.Unexpected left) item n i front ts (Err (Unexpected left)) total lt h refl so_far
many_may_fail (r.PastLimit left) item n i front ts total lt h so_far = many_fail (r.PastLimit left) item n i front ts (Err (Limit left)) total lt h refl so_far

-- none begins, or there were as many turns as there may be
pub many_end : {A : Type 0} (item : Chance A) (n : ℕ) (front : List A) (ts : Kinds) (total : Reads (List A)) → (0 < n → item ts ≡ None) → with_front front (many item n ts) ≡ total → total ≡ Ok (front, ts)
unfolding many
many_end item zero front ts total ends so_far = sym so_far ∙ front_none front ts
many_end item (suc n) front ts total ends so_far =
    let one : with_front front (many item (suc n) ts) ≡ Ok (front, ts) = rw (ends (omega arith)) (front_none front ts) in
    sym so_far ∙ one

-- ---- lists with a terminal between their items

after_some : {A : Type 0} (x : Terminal) (item : Parser A) (ts following : Kinds) → eat x ts ≡ Some following → after x item ts ≡ Some (item following)
unfolding after
after_some x item ts following e = rw e refl

after_none : {A : Type 0} (x : Terminal) (item : Parser A) (ts : Kinds) → eat x ts ≡ None → after x item ts ≡ None
unfolding after
after_none x item ts e = rw e refl

pub list_more : {X A : Type 0} (view : X → A) (x : Terminal) (item : Parser A) (n i : ℕ) (xs : List X) (one : X) (ts following rest : Kinds) (total : Reads (List A)) → i < n → eat x ts ≡ Some following → item following ≡ Ok (view one, rest) → with_front (map view xs) (many (after x item) (n - i) ts) ≡ total → with_front (map view (xs ++ one ∷ [])) (many (after x item) (n - (i + 1)) rest) ≡ total
list_more {X} {A} view x item n i xs one ts following rest total lt e h so_far =
    rw (map_push view xs one) (many_more (after x item) n i (map view xs) (view one) ts rest total lt (after_some x item ts following e ∙ ap (λ (z : Reads A). Some z) h) so_far)

pub list_fail : {A : Type 0} (e : Refusal) (x : Terminal) (item : Parser A) (n i : ℕ) (front : List A) (ts following : Kinds) (total : Reads (List A)) → i < n → eat x ts ≡ Some following → Fails e (item following) → with_front front (many (after x item) (n - i) ts) ≡ total → Fails e total
list_fail e x item n i front ts following total lt h f so_far = many_fail e (after x item) n i front ts (item following) total lt (after_some x item ts following h) f so_far

pub list_end : {A : Type 0} (x : Terminal) (item : Parser A) (n : ℕ) (front : List A) (ts : Kinds) (total : Reads (List A)) → eat x ts ≡ None → with_front front (many (after x item) n ts) ≡ total → total ≡ Ok (front, ts)
list_end x item n front ts total e so_far = many_end (after x item) n front ts total (λ lt. after_none x item ts e) so_far

pub list_over : {A : Type 0} (x : Terminal) (item : Parser A) (n i : ℕ) (front : List A) (ts : Kinds) (total : Reads (List A)) → n ≤ i → with_front front (many (after x item) (n - i) ts) ≡ total → total ≡ Ok (front, ts)
list_over x item n i front ts total le so_far = many_end (after x item) (n - i) front ts total (λ lt. absurd (omega arith)) so_far
