-- A list that is read has an item.
use Rattle.std.proofs.Common.{◌≡◌, ◌<◌, List, [], ◌∷◌, length, Ok, Err, ap, arith}
use Rattle.wd_lex.specs.declared.token.Terminal.{Terminal}
use Rattle.wd_read_cursor.specs.Tokens.{Kinds}
use Rattle.wd_read_cursor.specs.Cursor.{◌>>=◌, Parser, Reads, after, list_at, many}

-- the items that are read
abbrev items_in : {A : Type 0} → Reads (List A) → List A
items_in (Ok found) = found.0
items_in (Err fault) = []

front_some : {A : Type 0} (first : A) (read : Reads (List A)) (items : List A) (rest : Kinds) → ◌>>=◌ {B = List A × Kinds} read (λ xs. Ok (first ∷ xs.0, xs.1)) ≡ Ok (items, rest) → 0 < length items
front_some first (Ok xs) items rest e = let same : first ∷ xs.0 ≡ items = ap items_in e in omega (arith, ap length same)
front_some first (Err fault) items rest e = absurd cc

first_some : {A : Type 0} (separator : Terminal) (item : Parser A) (read : Reads A) (items : List A) (rest : Kinds)
    → ◌>>=◌ {B = List A × Kinds} read (λ a. ◌>>=◌ {B = List A × Kinds} (many (after separator item) (length a.1) a.1) (λ xs. Ok (a.0 ∷ xs.0, xs.1))) ≡ Ok (items, rest) → 0 < length items
first_some separator item (Ok a) items rest e = front_some a.0 (many (after separator item) (length a.1) a.1) items rest e
first_some separator item (Err fault) items rest e = absurd cc

pub list_some : {A : Type 0} (separator : Terminal) (item : Parser A) (kinds : Kinds) (items : List A) (rest : Kinds) → list_at separator item kinds ≡ Ok (items, rest) → 0 < length items
unfolding list_at
list_some separator item kinds items rest e = first_some separator item (item kinds) items rest e
