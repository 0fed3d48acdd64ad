-- Queries of PostgreSQL's usual SQL, respelled in the profile's by the standard's own equations.
use Rattle.std.specs.Prelude.{◌≡◌, ℕ, ◌≤◌, false, List, [], ◌∷◌, ◌++◌, length, Result, Ok, Err, Some}
use Rattle.wd_lex.specs.declared.token.Token.{Token}
use Rattle.wd_lex.specs.Lexed.{IsLexed, kinds_of}
use Rattle.wd_clauses.specs.declared.error.RespellError.{RespellError}
use Rattle.wd_clauses.specs.Given.{most_tokens}
use Rattle.wd_token_text.specs.Texts.{AreWritable}
use Rattle.wd_with.specs.Expanded.{Said}
use Rattle.wd_with.specs.Expanded as members
use Rattle.wd_inner_with.specs.Inner.{without_inner}
use Rattle.wd_distinct_on.specs.Respelled as selects
use Rattle.wd_casts.specs.Decimals.{with_literals}
use Rattle.wd_casts.specs.Masked.{masked}
use Rattle.wd_casts.specs.Terms.{has_casts}
use Rattle.wd_casts.specs.Walked.{without_casts}
use Rattle.wd_schema.specs.Tables.{TableRule}
use Rattle.wd_natural.specs.Respelled as naturals
use Rattle.wd_using.specs.Respelled as joins
use Rattle.wd_membership.specs.Respelled as memberships
use Rattle.wd_grouping.specs.Respelled as keys
use Rattle.wd_distinct_counts.specs.Respelled as counts
use Rattle.wd_equations.specs.Expanded as expressions
use Rattle.wd_moments.specs.Numbered.{with_numbers}
use Rattle.wd_qualified.specs.Unqualified.{unqualified}
use Rattle.wd_with.specs.declared.place.Place.TheVariants.{Elsewhere}
use Rattle.wd_dialect_read.specs.declared.said.Statement.{Statement}

infixl 10 ◌▹◌
-- the next step on these tokens, unless there were too many
abbrev pub ◌▹◌ : Result (List Token) RespellError → (List Token → Result (List Token) RespellError) → Result (List Token) RespellError
(Err e) ▹ next = Err e
(Ok tokens) ▹ next = next tokens

-- tokens without the schemas of tables, then without DISTINCT ON, then without NATURAL JOIN and USING over these tables, then without
-- memberships, then with columns for the keys of GROUP BY, and then without distinct counts
abbrev pub plain : List TableRule → List Token → Result (List Token) RespellError
plain tables tokens =
    selects.respelled (unqualified (Elsewhere ∷ []) tokens) ▹ naturals.respelled tables ▹ joins.respelled tables ▹ memberships.respelled ▹ keys.respelled ▹ counts.respelled

-- a query without its WITH clauses, those within brackets first, and then with the equations of `plain`; and the members that are read
-- more than once
pub record IsTakenOut (tables : List TableRule) (tokens : List Token) (said : Said) : Type 0 where
  pub inner : Said
  pub is_inner : without_inner tokens ≡ Ok inner
  pub is_plain : plain tables (members.expanded inner.tokens).tokens ≡ Ok said.tokens
  pub members : said.read_twice ≡ inner.read_twice ++ (members.expanded inner.tokens).read_twice

-- the tokens of a query by the equations, over these tables, which the statements make: WITH is taken out, then come the equations of
-- selects as above, then those of expressions, and moments become numbers; with the members of WITH that are read twice
pub record IsEquated (tables : List TableRule) (statements : List Statement) (tokens : List Token) (said : Said) : Type 0 where
  pub taken : Said
  pub is_taken : IsTakenOut tables tokens taken
  pub expressions : said.tokens ≡ with_numbers statements (expressions.expanded taken.tokens)
  pub members : said.read_twice ≡ taken.read_twice

-- the tokens without casts, of which none is left
pub record AreUncast (statements : List Statement) (tokens uncast : List Token) : Type 0 where
  pub are : uncast ≡ without_casts statements tokens
  pub none : has_casts uncast ≡ false

-- the tokens of a query by the equations: first without casts, then as above
pub record AreEquated (tables : List TableRule) (statements : List Statement) (tokens : List Token) (said : Said) : Type 0 where
  pub uncast : List Token
  pub are_uncast : AreUncast statements tokens uncast
  pub equated : IsEquated tables statements uncast said

-- the other text has the tokens that the equations give for those of the query, in which each `::` and the point in a number are masked
-- and numbers with a point are literals; and the query reads these members of WITH more than once
pub record IsRespelled (tables : List TableRule) (statements : List Statement) (query other : List ℕ) (twice : List Token) : Type 0 where
  pub text : List ℕ
  pub masked : masked query ≡ Some text
  pub tokens : List Token
  pub lexed : IsLexed text tokens
  pub said : Said
  pub equated : AreEquated tables statements (with_literals query tokens) said
  pub own : List Token
  pub read : IsLexed other own
  pub are : kinds_of own ≡ kinds_of said.tokens
  pub members : twice ≡ said.read_twice

-- at most as many tokens as a step may write
abbrev pub AreFew : List Token → Type 0
AreFew tokens = length tokens ≤ most_tokens

-- on the way through the equations a query without casts has few tokens: without WITH, with the equations of expressions, and with
-- numbers; the other steps return an error where they would write too many
pub record IsShortWay (tables : List TableRule) (statements : List Statement) (tokens : List Token) : Type 0 where
  pub outer : (inner : Said) → without_inner tokens ≡ Ok inner → AreFew (members.expanded inner.tokens).tokens
  pub expanded : (taken : Said) → IsTakenOut tables tokens taken → AreFew (expressions.expanded taken.tokens)
  pub numbered : (taken : Said) → IsTakenOut tables tokens taken → AreFew (with_numbers statements (expressions.expanded taken.tokens))

-- the equations give these tokens for those of a query, which are few without casts and on the whole way
pub record AreGiven (tables : List TableRule) (statements : List Statement) (tokens : List Token) (said : Said) : Type 0 where
  pub uncast : AreFew (without_casts statements tokens)
  pub way : IsShortWay tables statements (without_casts statements tokens)
  pub equated : AreEquated tables statements tokens said

-- the query can be respelled: the equations give other tokens for its tokens, and these can be written
pub record CanBeRespelled (tables : List TableRule) (statements : List Statement) (query : List ℕ) : Type 0 where
  pub text : List ℕ
  pub masked : masked query ≡ Some text
  pub tokens : List Token
  pub lexed : IsLexed text tokens
  pub said : Said
  pub given : AreGiven tables statements (with_literals query tokens) said
  pub others : ¬ (kinds_of said.tokens ≡ kinds_of tokens)
  pub writable : AreWritable said.tokens

-- the query is left as it is: it has no masked text or no tokens, a cast is left, the tokens would be too many, the equations change
-- nothing, or their result cannot be written
abbrev pub IsLeft : List TableRule → List Statement → List ℕ → Type 0
IsLeft tables statements query = ¬ (CanBeRespelled tables statements query)

-- over the tables of these statements the tokens of a query differ from those with its numbers in the units that they count
abbrev pub AreCounted : List Statement → List Token → Type 0
AreCounted statements tokens = ¬ (kinds_of (with_numbers statements tokens) ≡ kinds_of tokens)

-- numbers of the query count units: read as they are written, they would denote other amounts
pub record CountsUnits (statements : List Statement) (query : List ℕ) : Type 0 where
  pub tokens : List Token
  pub lexed : IsLexed query tokens
  pub counted : AreCounted statements tokens

-- respelled so, with any members read more than once
abbrev pub IsRespelledAs : List TableRule → List Statement → List ℕ → List ℕ → Type 0
IsRespelledAs tables statements query other = (twice : List Token) × IsRespelled tables statements query other twice
