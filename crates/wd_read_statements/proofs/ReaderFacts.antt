-- The rules of a column, where it goes on, and lists of a schema that grow by an item at their end, as they are spelled.
use Rattle.std.proofs.Common.{◌≡◌, ◌≢◌, ◌∙◌, sym, Bool, true, false, List, [], ◌∷◌, ◌++◌, Some, None, refl, ap}
use Rattle.std.proofs.lemmas.Bool.{true≢false}
use Rattle.wd_lex.specs.declared.token.Terminal.{Terminal}
use Rattle.wd_lex.specs.declared.token.Terminal.TheVariants as m
use Rattle.wd_lex.specs.declared.token.TokenKind.{TokenKind}
use Rattle.wd_lex.specs.declared.token.TokenKind.TheVariants as k
use Rattle.wd_read_statements.specs.Grammar.{listed, spell_table, spell_tables, spell_stop}
use Rattle.wd_read_statements.specs.Reading.{column_rule_at, ends_column, rule_if}
use Rattle.wd_read_statements.specs.Written.{TableTree}

pub rule_goes : (kinds : List TokenKind) → ends_column kinds ≡ false → rule_if kinds ≡ Some (column_rule_at kinds)
unfolding rule_if
rule_goes kinds e = rw e refl

pub rule_ends : (kinds : List TokenKind) → ends_column kinds ≡ true → rule_if kinds ≡ None
unfolding rule_if
rule_ends kinds e = rw e refl

listed-push : {A : Type 0} (terminal : Terminal) (spell : A → List TokenKind → List TokenKind) (xs : List A) (y : A) (rest : List TokenKind) → xs ≢ [] → listed terminal spell xs (k.Terminal terminal ∷ spell y rest) ≡ listed terminal spell (xs ++ y ∷ []) rest
listed-push terminal spell [] y rest some = absurd (some refl)
listed-push terminal spell (x ∷ []) y rest some = refl
listed-push terminal spell (x ∷ z ∷ xs) y rest some = ap (λ r. spell x (k.Terminal terminal ∷ r)) (listed-push terminal spell (z ∷ xs) y rest (λ e. cc))

pub push-some : {A : Type 0} (xs : List A) (y : A) → xs ++ y ∷ [] ≢ []
push-some [] y = λ e. cc
push-some (x ∷ xs) y = λ e. cc

cons≢nil : {A : Type 0} (x : A) (xs : List A) → x ∷ xs ≢ []
cons≢nil x xs = λ e. cc

-- a further table: a semicolon stands before it, unless it is the first
pub tables-push : (tables : List TableTree) (table : TableTree) (ended : Bool) (kinds rest : List TokenKind) → (tables ≢ [] → ended ≡ false → kinds ≡ []) → (tables ≡ [] → ended ≡ false) → kinds ≡ spell_table table rest → spell_tables tables (spell_stop ended kinds) ≡ spell_tables (tables ++ table ∷ []) rest
tables-push [] table true kinds rest over fresh e = absurd (true≢false (fresh refl))
tables-push [] table false kinds rest over fresh e = e
tables-push (x ∷ xs) table false kinds rest over fresh e = absurd (cons≢nil _ _ (sym e ∙ over (λ h. cc) refl))
tables-push (x ∷ xs) table true kinds rest over fresh e = ap (λ w. spell_tables (x ∷ xs) (k.Terminal m.Semicolon ∷ w)) e ∙ listed-push m.Semicolon spell_table (x ∷ xs) table rest (λ h. cc)
