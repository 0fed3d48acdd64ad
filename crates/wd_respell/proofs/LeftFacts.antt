-- Where a query cannot be respelled.
use Rattle.std.proofs.Common.{◌≡◌, ◌≢◌, ◌⊎◌, ℕ, List, Option, Some, None, Result, Ok, ⊎_elim, refl, ap, sym, ◌∙◌, subst}
use Rattle.wd_casts.specs.Decimals.{with_literals}
use Rattle.wd_casts.specs.Masked.{masked}
use Rattle.wd_clauses.specs.declared.error.RespellError.{RespellError}
use Rattle.wd_dialect_read.specs.declared.said.Statement.{Statement}
use Rattle.wd_equations.specs.Expanded as expressions
use Rattle.wd_lex.specs.Causes.{Fails}
use Rattle.wd_lex.specs.Lexed.{IsLexed, kinds_of}
use Rattle.wd_lex.specs.declared.error.LexError.{LexError}
use Rattle.wd_lex.specs.declared.error.LexError.TheVariants as e
use Rattle.wd_lex.specs.declared.token.Token.{Token}
use Rattle.wd_lex.proofs.TextLaws.{one_list_of_tokens}
use Rattle.wd_moments.specs.Numbered.{with_numbers}
use Rattle.wd_schema.specs.Tables.{TableRule}
use Rattle.wd_token_text.specs.Texts.{AreWritable}
use Rattle.wd_with.specs.Expanded.{Said}
use Rattle.wd_with.specs.Expanded as members
use Rattle.wd_respell.specs.Respelled.{AreEquated, AreGiven, AreUncast, CanBeRespelled, IsEquated, IsLeft, IsShortWay, IsTakenOut, plain}

-- ---- the equations give one list of tokens

ok_same : {A : Type 0} (x y : A) → (let r : Result A RespellError = Ok x in r) ≡ Ok y → x ≡ y
ok_same x y same = cc

some_same : {A : Type 0} (x y : A) → (let o : Option A = Some x in o) ≡ Some y → x ≡ y
some_same x y same = cc

module _ (tables : List TableRule) (statements : List Statement) where
  one_taken : (tokens : List Token) (first second : Said) → IsTakenOut tables tokens first → IsTakenOut tables tokens second → first.tokens ≡ second.tokens
  one_taken tokens first second is also =
      let inner = ok_same is.inner also.inner (sym is.is_inner ∙ also.is_inner) in
      ok_same first.tokens second.tokens (sym is.is_plain ∙ ap (λ (s : Said). plain tables (members.expanded s.tokens).tokens) inner ∙ also.is_plain)

  one_equated : (tokens : List Token) (first second : Said) → IsEquated tables statements tokens first → IsEquated tables statements tokens second → first.tokens ≡ second.tokens
  one_equated tokens first second is also =
      is.expressions ∙ ap (λ l. with_numbers statements (expressions.expanded l)) (one_taken tokens is.taken also.taken is.is_taken also.is_taken) ∙ sym also.expressions

  all_equated : (tokens : List Token) (first second : Said) → AreEquated tables statements tokens first → AreEquated tables statements tokens second → first.tokens ≡ second.tokens
  all_equated tokens first second is also =
      let same = is.are_uncast.are ∙ sym also.are_uncast.are in
      one_equated also.uncast first second (subst (λ l. IsEquated tables statements l first) same is.equated) also.equated

  -- ---- so a query is left, for one of these reasons

  pub left_unmasked : (query : List ℕ) → masked query ≡ None → IsLeft tables statements query
  left_unmasked query none can = let no : (let o : Option (List ℕ) = None in o) ≡ Some can.text = sym none ∙ can.masked in cc

  pub left_unread : (query text : List ℕ) → masked query ≡ Some text → ((tokens : List Token) → IsLexed text tokens → ⊥) → IsLeft tables statements query
  left_unread query text is unread can =
      unread can.tokens (subst (λ t. IsLexed t can.tokens) (some_same can.text text (sym can.masked ∙ is)) can.lexed)

  same_tokens : (query text : List ℕ) (tokens : List Token) → masked query ≡ Some text → IsLexed text tokens → (can : CanBeRespelled tables statements query) → can.tokens ≡ tokens
  same_tokens query text tokens is lexed can =
      one_list_of_tokens text can.tokens tokens (subst (λ t. IsLexed t can.tokens) (some_same can.text text (sym can.masked ∙ is)) can.lexed) lexed

  pub left_unequated : (query text : List ℕ) (tokens : List Token) → masked query ≡ Some text → IsLexed text tokens
      → ((said : Said) → AreGiven tables statements (with_literals query tokens) said → ⊥) → IsLeft tables statements query
  left_unequated query text tokens is lexed none can =
      none can.said (subst (λ l. AreGiven tables statements (with_literals query l) can.said) (same_tokens query text tokens is lexed can) can.given)

  pub left_unwritten : (query text : List ℕ) (tokens : List Token) (said : Said) → masked query ≡ Some text → IsLexed text tokens
      → AreEquated tables statements (with_literals query tokens) said → (kinds_of said.tokens ≡ kinds_of tokens) ⊎ (AreWritable said.tokens → ⊥) → IsLeft tables statements query
  left_unwritten query text tokens said is lexed equated why can =
      let own = same_tokens query text tokens is lexed can in
      let same = all_equated (with_literals query tokens) can.said said (subst (λ l. AreEquated tables statements (with_literals query l) can.said) own can.given.equated) equated in
      ⊎_elim (λ kinds. can.others (ap kinds_of same ∙ kinds ∙ ap kinds_of (sym own))) (λ no. no (subst AreWritable same can.writable)) why

  -- what the equations give nothing for without casts has nothing with them
  pub not_equated : (tokens uncast : List Token) (said : Said) → AreUncast statements tokens uncast
      → ((e : Said) → IsShortWay tables statements uncast → IsEquated tables statements uncast e → ⊥) → AreGiven tables statements tokens said → ⊥
  not_equated tokens uncast said is none given =
      none said (subst (IsShortWay tables statements) (sym is.are) given.way)
      (subst (λ l. IsEquated tables statements l said) (given.equated.are_uncast.are ∙ sym is.are) given.equated.equated)

-- a text that is refused has no tokens
pub no_tokens : (error : LexError) (tokens : List Token) → error ≢ e.OutOfMemory → Fails error (let found : Result (List Token) LexError = Ok tokens in found) → ⊥
no_tokens e.OutOfMemory tokens ne refused = ne refl
no_tokens error tokens ne refused = cc
