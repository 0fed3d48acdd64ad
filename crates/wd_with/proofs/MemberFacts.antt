-- How members are read one after another, and taken out from the last to the first.
use Rattle.std.proofs.Common.{◌≡◌, ◌<◌, ◌≤◌, ◌-◌, ◌+◌, ◌++◌, ℕ, suc, List, [], ◌∷◌, Some, None, refl, ap, sym, ◌∙◌, arith, append_assoc, map}
use Rattle.std.proofs.lemmas.List.{map_push}
use Rattle.wd_lex.specs.declared.token.Token.{Token}
use Rattle.wd_with.specs.Members.{NamedQuery, Members, past_comma, member_at, members_at, with_front}
use Rattle.wd_with.specs.declared.member.Member.{Member}
use Rattle.wd_with.specs.Named.{named_query}
use Rattle.wd_with.specs.Expanded.{Said, taken_out, without}

pub without-push : (members : List NamedQuery) (member : NamedQuery) (query : Said) → without (members ++ member ∷ []) query ≡ without members (taken_out member query)
without-push [] member query = refl
without-push (first ∷ members) member query = ap (taken_out first) (without-push members member query)

-- those after others
abbrev pub following : List NamedQuery → Members → Members
following front None = None
following front (Some found) = Some (front ++ found.0, found.1)

after_front : (front : List NamedQuery) (member : NamedQuery) (found : Members) → following front (with_front member found) ≡ following (front ++ member ∷ []) found
after_front front member None = refl
after_front front member (Some found) = ap (λ (xs : List NamedQuery). let m : Members = Some (xs, found.1) in m) (sym (append_assoc front (member ∷ []) found.0))

-- no member begins there
pub members_none : (n i : ℕ) (front : List NamedQuery) (tokens : List Token) (total : Members) → i < n → member_at tokens ≡ None → following front (members_at (n - i) tokens) ≡ total → total ≡ None
unfolding members_at
members_none n i front tokens total lt e so_far =
    let k : n - i ≡ suc (n - (i + 1)) = omega arith in
    let one : following front (members_at (n - i) tokens) ≡ None = rw (k, e) refl in
    sym so_far ∙ one

-- the last member stands there
pub members_last : (n i : ℕ) (front : List NamedQuery) (member : NamedQuery) (tokens after : List Token) (total : Members) → i < n → member_at tokens ≡ Some (member, after) → past_comma after ≡ None → following front (members_at (n - i) tokens) ≡ total → total ≡ Some (front ++ member ∷ [], after)
unfolding members_at
members_last n i front member tokens after total lt e ends so_far =
    let k : n - i ≡ suc (n - (i + 1)) = omega arith in
    let one : following front (members_at (n - i) tokens) ≡ Some (front ++ member ∷ [], after) = rw (k, e, ends) refl in
    sym so_far ∙ one

-- a member stands there, and a further one after a comma
pub members_more : (n i : ℕ) (front : List NamedQuery) (member : NamedQuery) (tokens after next : List Token) (total : Members) → i < n → member_at tokens ≡ Some (member, after) → past_comma after ≡ Some next → following front (members_at (n - i) tokens) ≡ total → following (front ++ member ∷ []) (members_at (n - (i + 1)) next) ≡ total
unfolding members_at
members_more n i front member tokens after next total lt e goes so_far =
    let k : n - i ≡ suc (n - (i + 1)) = omega arith in
    let one : following front (members_at (n - i) tokens) ≡ following (front ++ member ∷ []) (members_at (n - (i + 1)) next) = rw (k, e, goes) (after_front front member (members_at (n - (i + 1)) next)) in
    sym one ∙ so_far

-- there were as many as there may be
pub members_over : (n i : ℕ) (front : List NamedQuery) (tokens : List Token) (total : Members) → n ≤ i → following front (members_at (n - i) tokens) ≡ total → total ≡ None
unfolding members_at
members_over n i front tokens total over so_far =
    let k : n - i ≡ 0 = omega arith in
    let one : following front (members_at (n - i) tokens) ≡ None = rw k refl in
    sym so_far ∙ one

-- the last member is taken out
pub without_last : (members front : List Member) (member : Member) (query total : Said) → members ≡ front ++ member ∷ [] → without (map named_query members) query ≡ total → without (map named_query front) (taken_out (named_query member) query) ≡ total
without_last members front member query total e so_far =
    let one : without (map named_query members) query ≡ without (map named_query front) (taken_out (named_query member) query) =
    rw (e, map_push named_query front member) (without-push (map named_query front) (named_query member) query) in
    sym one ∙ so_far
