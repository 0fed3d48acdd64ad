-- How the tables of a FROM clause are read one after another.
use Rattle.std.proofs.Common.{◌≡◌, ◌<◌, ◌≤◌, ◌-◌, ◌+◌, ◌++◌, ◌∙◌, ℕ, suc, List, [], ◌∷◌, Option, Some, None, true, false, refl, sym, arith}
use Rattle.wd_lex.specs.declared.token.Token.{Token}
use Rattle.wd_schema.specs.Tables.{TableRule}
use Rattle.wd_distinct_on.proofs.ListFacts.{following, after_front}
use Rattle.wd_using.specs.Joins.{is_end}
use Rattle.wd_natural.specs.Naturals.{NaturalTable, joined_tables, table_at}

-- no table is read there
pub tables_none : (schema : List TableRule) (n i : ℕ) (front : List NaturalTable) (tokens : List Token) (total : Option (List NaturalTable)) → i < n → table_at schema tokens ≡ None → following front (joined_tables schema (n - i) tokens) ≡ total → total ≡ None
unfolding joined_tables
tables_none schema n i front tokens total lt none so_far =
    let k : n - i ≡ suc (n - (i + 1)) = omega arith in
    let one : following front (joined_tables schema (n - i) tokens) ≡ None = rw (k, none) refl in
    sym so_far ∙ one

-- the last table is read there
pub tables_last : (schema : List TableRule) (n i : ℕ) (front : List NaturalTable) (tokens rest : List Token) (table : NaturalTable) (total : Option (List NaturalTable)) → i < n → table_at schema tokens ≡ Some (table, rest) → is_end rest ≡ true → following front (joined_tables schema (n - i) tokens) ≡ total → total ≡ Some (front ++ table ∷ [])
unfolding joined_tables
tables_last schema n i front tokens rest table total lt read ended so_far =
    let k : n - i ≡ suc (n - (i + 1)) = omega arith in
    let one : following front (joined_tables schema (n - i) tokens) ≡ Some (front ++ table ∷ []) = rw (k, read, ended) refl in
    sym so_far ∙ one

-- a table is read there, and others follow
pub tables_more : (schema : List TableRule) (n i : ℕ) (front : List NaturalTable) (tokens rest : List Token) (table : NaturalTable) (total : Option (List NaturalTable)) → i < n → table_at schema tokens ≡ Some (table, rest) → is_end rest ≡ false → following front (joined_tables schema (n - i) tokens) ≡ total → following (front ++ table ∷ []) (joined_tables schema (n - (i + 1)) rest) ≡ total
unfolding joined_tables
tables_more schema n i front tokens rest table total lt read goes so_far =
    let k : n - i ≡ suc (n - (i + 1)) = omega arith in
    let one : following front (joined_tables schema (n - i) tokens) ≡ following (front ++ table ∷ []) (joined_tables schema (n - (i + 1)) rest) = rw (k, read, goes) (after_front front table (joined_tables schema (n - (i + 1)) rest)) in
    sym one ∙ so_far

-- there are as many as there may be
pub tables_over : (schema : List TableRule) (n i : ℕ) (front : List NaturalTable) (tokens : List Token) (total : Option (List NaturalTable)) → n ≤ i → following front (joined_tables schema (n - i) tokens) ≡ total → total ≡ None
unfolding joined_tables
tables_over schema n i front tokens total over so_far =
    let k : n - i ≡ 0 = omega arith in
    let one : following front (joined_tables schema (n - i) tokens) ≡ None = rw k refl in
    sym so_far ∙ one
