-- Queries whose reading without memberships is written by hand.
use Rattle.std.specs.Prelude.{◌≡◌, codes, List, [], ◌∷◌, ◌++◌, map, Ok}
use Rattle.wd_lex.specs.declared.token.Terminal.{Terminal}
use Rattle.wd_lex.specs.declared.token.Terminal.TheVariants as m
use Rattle.wd_lex.specs.declared.token.Span.{Span}
use Rattle.wd_lex.specs.declared.token.Token.{Token}
use Rattle.wd_lex.specs.declared.token.TokenKind.{TokenKind}
use Rattle.wd_lex.specs.declared.token.TokenKind.TheVariants as t
use Rattle.wd_membership.specs.Respelled.{respelled}

abbrev pub mark : Terminal → TokenKind
mark terminal = t.Terminal terminal

abbrev pub a : TokenKind
a = t.Word (codes "a")

abbrev pub k : TokenKind
k = t.Word (codes "k")

abbrev pub n : TokenKind
n = t.Word (codes "n")

abbrev pub x : TokenKind
x = t.Word (codes "x")

abbrev pub y : TokenKind
y = t.Word (codes "y")

abbrev pub in_word : TokenKind
in_word = t.Word (codes "in")

abbrev pub in_1 : TokenKind
in_1 = t.Quoted (codes "in 1")

-- tokens that say this, all at one place
abbrev pub all_at : Span → List TokenKind → List Token
all_at at kinds = map (λ kind. let token : Token = record { kind = kind; span = at } in token) kinds

-- tokens that say the first are written as tokens that say the second
abbrev pub Becomes : List TokenKind → List TokenKind → Type 0
Becomes left right = (at : Span) → respelled (all_at at left) ≡ Ok (all_at at right)

abbrev pub its : TokenKind → TokenKind → List TokenKind
its name column = name ∷ mark m.Dot ∷ column ∷ []

-- SELECT n FROM x
abbrev pub of_x : List TokenKind
of_x = mark m.Select ∷ n ∷ mark m.From ∷ x ∷ []

-- ( query )
abbrev pub within : List TokenKind → List TokenKind
within query = mark m.LeftBracket ∷ (query ++ mark m.RightBracket ∷ [])

-- SELECT k FROM y
abbrev pub of_y : List TokenKind
of_y = mark m.Select ∷ k ∷ mark m.From ∷ y ∷ []

-- , ( SELECT DISTINCT k AS "in 1" FROM y ) AS "in 1"
abbrev pub table_of_y : List TokenKind
table_of_y = mark m.Comma ∷ (within (mark m.Select ∷ mark m.Distinct ∷ k ∷ mark m.As ∷ in_1 ∷ mark m.From ∷ y ∷ []) ++ mark m.As ∷ in_1 ∷ [])

-- n IN ( SELECT k FROM y )
abbrev pub in_y : List TokenKind
in_y = n ∷ in_word ∷ within of_y

-- n = "in 1"."in 1"
abbrev pub is_in_1 : List TokenKind
is_in_1 = n ∷ mark m.Equals ∷ its in_1 in_1

-- SELECT n FROM x WHERE n IN ( SELECT k FROM y ) OR n
abbrev pub below_or : List TokenKind
below_or = of_x ++ mark m.Where ∷ (in_y ++ mark m.Or ∷ n ∷ [])

-- SELECT n FROM x WHERE n NOT IN ( SELECT k FROM y )
abbrev pub denied : List TokenKind
denied = of_x ++ mark m.Where ∷ n ∷ mark m.Not ∷ in_word ∷ within of_y

-- SELECT * FROM x WHERE n IN ( SELECT k FROM y )
abbrev pub starred : List TokenKind
starred = mark m.Select ∷ mark m.Star ∷ mark m.From ∷ x ∷ mark m.Where ∷ in_y

-- SELECT n FROM x WHERE n BETWEEN n AND n IN ( SELECT k FROM y )
abbrev pub after_between : List TokenKind
after_between = of_x ++ mark m.Where ∷ n ∷ t.Word (codes "between") ∷ n ∷ mark m.And ∷ in_y

-- SELECT n FROM x WHERE EXISTS ( SELECT n FROM y a WHERE x.n = a.k AND a.n = a.n )
abbrev pub exists_in_y : List TokenKind
exists_in_y =
    of_x ++ mark m.Where ∷ t.Word (codes "exists") ∷ within (mark m.Select ∷ n ∷ mark m.From ∷ y ∷ a ∷ mark m.Where ∷ (its x n ++ mark m.Equals ∷ (its a k ++ mark m.And ∷ (its a n ++ mark m.Equals ∷ its a n))))

abbrev pub exists_1 : TokenKind
exists_1 = t.Quoted (codes "exists 1")

abbrev pub exists_1_1 : TokenKind
exists_1_1 = t.Quoted (codes "exists 1 1")

-- SELECT n FROM x, ( SELECT DISTINCT a.k AS "exists 1 1" FROM y a WHERE a.n = a.n ) AS "exists 1" WHERE x.n = "exists 1"."exists 1 1"
abbrev pub joined_with_y : List TokenKind
joined_with_y =
    of_x ++ mark m.Comma ∷ (within (mark m.Select ∷ mark m.Distinct ∷ (its a k ++ mark m.As ∷ exists_1_1 ∷ mark m.From ∷ y ∷ a ∷ mark m.Where ∷ (its a n ++ mark m.Equals ∷ its a n)))
    ++ mark m.As ∷ exists_1 ∷ mark m.Where ∷ (its x n ++ mark m.Equals ∷ its exists_1 exists_1_1))

pub record MembershipComesOut : Type 0 where
  -- SELECT n FROM x WHERE n IN ( SELECT k FROM y ) AND k becomes
  -- SELECT n FROM x, ( SELECT DISTINCT k AS "in 1" FROM y ) AS "in 1" WHERE n = "in 1"."in 1" AND k
  pub one : Becomes (of_x ++ mark m.Where ∷ (in_y ++ mark m.And ∷ k ∷ [])) (of_x ++ table_of_y ++ mark m.Where ∷ (is_in_1 ++ mark m.And ∷ k ∷ []))
  pub exists : Becomes exists_in_y joined_with_y
  pub below_or_stays : Becomes below_or below_or
  pub denied_stays : Becomes denied denied
  pub star_stays : Becomes starred starred
  pub after_between_stays : Becomes after_between after_between
