-- The pieces of SELECT DISTINCT ON ( keys ) items FROM .. [WHERE ..] [ORDER BY orders], and what follows it. No other clause may appear
-- in it.
use Rattle.std.specs.Prelude.{ℕ, ◌+◌, ◌&&◌, if◌then◌else◌, Bool, true, false, List, [], ◌∷◌, take, drop, Option, Some, None}
use Rattle.wd_lex.specs.declared.token.Token.{Token}
use Rattle.wd_clauses.specs.declared.level.Stop.TheVariants.{From, Later}
use Rattle.wd_clauses.specs.Reach.{closing, ends_level, opens, reach}
use Rattle.wd_distinct_on.specs.Kinds.{begins, is_by, is_distinct, is_from, is_on, is_order, is_select}

-- ORDER BY and its keys, or nothing, and what follows
pub record OrderPieces : Type 0 where
  pub words : List Token
  pub keys : List Token
  pub after : List Token

pub record Pieces : Type 0 where
  pub select : Token
  pub distinct : Token
  pub keys : List Token
  pub items : List Token
  pub from : List Token
  pub order : OrderPieces

abbrev pub no_order : List Token → OrderPieces
no_order tokens = record { words = []; keys = []; after = tokens }

-- [ORDER BY keys]
abbrev pub order_at : List Token → OrderPieces
order_at (order ∷ by ∷ tokens) =
    if is_order order.kind && is_by by.kind then record { words = order ∷ by ∷ []; keys = take (reach Later tokens) tokens; after = drop (reach Later tokens) tokens }
    else no_order (order ∷ by ∷ tokens)
order_at tokens = no_order tokens

-- whether tokens are at the end of their level
abbrev pub ends : List Token → Bool
ends [] = true
ends (token ∷ tokens) = ends_level token.kind

-- the select, by the FROM clause, the order, and the end of the level after its items
abbrev pub after_items : Token → Token → List Token → List Token → List Token → Option Pieces
after_items select distinct keys items tokens =
    let order = order_at (drop (reach Later tokens) tokens) in
    if begins is_from tokens && ends order.after then Some (record { select = select; distinct = distinct; keys = keys; items = items; from = take (reach Later tokens) tokens; order = order })
    else None

-- the select, by the items after the bracket that closes its keys
abbrev pub after_keys : Token → Token → List Token → Option ℕ → Option Pieces
after_keys select distinct tokens None = None
after_keys select distinct tokens (Some place) =
    let following = drop (place + 1) tokens in
    after_items select distinct (take place tokens) (take (reach From following) following) (drop (reach From following) following)

-- whether tokens begin with SELECT DISTINCT ON (
abbrev pub begins_select : List Token → Bool
begins_select (select ∷ distinct ∷ on ∷ bracket ∷ tokens) = is_select select.kind && is_distinct distinct.kind && is_on on.kind && opens bracket.kind
begins_select _ = false

-- the select with DISTINCT ON that begins here
unfoldable pub select_at : List Token → Option Pieces
select_at (select ∷ distinct ∷ on ∷ bracket ∷ tokens) =
    if is_select select.kind && is_distinct distinct.kind && is_on on.kind && opens bracket.kind then after_keys select distinct tokens (closing tokens) else None
select_at _ = None
