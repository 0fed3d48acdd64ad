-- Sites, in terms of the tokens of their text.
use Rattle.std.specs.Prelude.{◌≡◌, ℕ, ◌<◌, ◌≤◌, List, IfSome, Option, Some, None, slice_get}
use Rattle.wd_lex.specs.declared.token.Span.{Span}
use Rattle.wd_lex.specs.declared.token.Token.{Token}
use Rattle.wd_lex.specs.declared.token.Terminal.{Terminal}
use Rattle.wd_lex.specs.declared.token.Terminal.TheVariants as m
use Rattle.wd_lex.specs.declared.token.TokenKind.TheVariants as t
use Rattle.wd_sites.specs.declared.site.KeyPlace.{KeyPlace}
use Rattle.wd_sites.specs.declared.site.PlanSite.{PlanSite}
use Rattle.wd_sites.specs.declared.site.Site.{Site}

-- the bytes from the beginning of the token with one number to the end of the token with another, which does not come before it
pub record IsSpanFrom (tokens : List Token) (first last : ℕ) (span : Span) : Type 0 where
  pub ordered : first ≤ last
  pub first_token : Token
  pub last_token : Token
  pub first_is : slice_get tokens first ≡ Some first_token
  pub last_is : slice_get tokens last ≡ Some last_token
  pub starts : span.start ≡ first_token.span.start
  pub ends : span.end ≡ last_token.span.end

-- a token ends at that byte
pub record EndsToken (tokens : List Token) (place : ℕ) : Type 0 where
  pub number : ℕ
  pub token : Token
  pub is : slice_get tokens number ≡ Some token
  pub ends : place ≡ token.span.end

-- a token begins at that byte
pub record BeginsToken (tokens : List Token) (place : ℕ) : Type 0 where
  pub number : ℕ
  pub token : Token
  pub is : slice_get tokens number ≡ Some token
  pub begins : place ≡ token.span.start

-- a key is added after a token; where there is an ORDER BY, it begins with a token
pub record IsKeyPlace (tokens : List Token) (key : KeyPlace) : Type 0 where
  pub after : EndsToken tokens key.at
  pub order : IfSome key.order (BeginsToken tokens)

-- a site is a range of whole tokens, and a key is added after a token
pub record IsSite (tokens : List Token) (site : Site) : Type 0 where
  pub first : ℕ
  pub last : ℕ
  pub span : IsSpanFrom tokens first last site.span
  pub key : IfSome site.key (IsKeyPlace tokens)

-- the token with a number is this terminal
pub record IsTerminalAt (tokens : List Token) (number : ℕ) (terminal : Terminal) : Type 0 where
  pub token : Token
  pub is : slice_get tokens number ≡ Some token
  pub kind : token.kind ≡ t.Terminal terminal

-- the site of a window call: the word OVER is one of its tokens, and neither the first nor the last
pub record IsCallSite (tokens : List Token) (site : Site) : Type 0 where
  pub first : ℕ
  pub last : ℕ
  pub over : ℕ
  pub span : IsSpanFrom tokens first last site.span
  pub is_over : IsTerminalAt tokens over m.Over
  pub after : first < over
  pub before : over < last
  pub key : IfSome site.key (IsKeyPlace tokens)

-- a call's site is that of a window call
abbrev pub IsSiteAt : List Token → Option ℕ → Site → Type 0
IsSiteAt tokens (Some call) site = IsCallSite tokens site
IsSiteAt tokens None site = IsSite tokens site

abbrev pub IsSiteOf : List Token → PlanSite → Type 0
IsSiteOf tokens found = IsSiteAt tokens found.call found.site
