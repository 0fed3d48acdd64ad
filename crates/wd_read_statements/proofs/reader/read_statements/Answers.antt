use Rattle.std.proofs.Common.{◌≡◌, ◌≢◌, ◌∙◌, ◌<◌, sym, ap, subst, [], ◌∷◌, ◌++◌, List, map, length, arith}
use Rattle.std.proofs.lemmas.List.{length-map, map_push}
use Rattle.std.proofs.lemmas.List.Elements.{All-push, All-same}
use Rattle.wd_lex.specs.Lexed.{kinds_of}
use Rattle.wd_read_statements.specs.Grammar.{IsTable, spell_tables, spell_stop}
use Rattle.wd_read_statements.specs.Written.{TableTree, table_tree}
use Rattle.wd_read_statements.proofs.ReaderFacts.{tables-push, push-some}
use Rattle.wd_read_statements.proofs.SchemaLaws.{IsOver, IsSettled, kinds_none, kinds_some, read_is, read_last, read_longer, nothing_over, refused_as, refused_over, settled_more, settled_stops, statements_are}
use Rattle.wd_read_statements.proofs.reader.read_statements.Goals as goal

pub loop-rest-smaller : goal.loop-rest-smaller
loop-rest-smaller c =
    let lt : length (kinds_of c.in-Ok.after.now) < length (kinds_of c.loop-rest.rest.now) = read_longer (kinds_of c.loop-rest.rest.now) (table_tree c.in-Ok.statement.table, c.in-Ok.statement.semicolon) (kinds_of c.in-Ok.after.now) c.in-Ok.ensures in
    omega (arith, length-map c.in-Ok.after.now (λ token. token.kind), length-map c.loop-rest.rest.now (λ token. token.kind))

pub loop-rest-preserved : goal.loop-rest-preserved
loop-rest-preserved c =
    let before : List TableTree = map table_tree c.loop-rest.tables.items in
    let table = table_tree c.in-Ok.statement.table in
    let ended = c.in-Ok.statement.semicolon in
    let kinds = kinds_of c.loop-rest.rest.now in
    let rest = kinds_of c.in-Ok.after.now in
    let read = read_is kinds (table, ended) rest c.in-Ok.ensures in
    let some : kinds ≢ [] = kinds_some c.loop-rest.rest.now (sym c.is_empty.ensures ∙ c.loop-rest-test.true) in
    let items : map table_tree c.push.new.self.items ≡ before ++ table ∷ [] =
    ap (map table_tree) c.in_ok-push-in-Ok.ensures.items ∙ map_push table_tree c.loop-rest.tables.items c.in-Ok.statement.table in
    record {
      each = All-same IsTable (map table_tree c.push.new.self.items) (before ++ table ∷ []) items (All-push IsTable before table c.loop-rest.invariant.each read.whole);
      spelled = c.loop-rest.invariant.spelled
          ∙ tables-push before table c.loop-rest.ended kinds (spell_stop ended rest) c.loop-rest.invariant.over c.loop-rest.invariant.fresh read.spelled
          ∙ ap (λ xs. spell_tables xs (spell_stop ended rest)) (sym items);
      over = λ _ e. read_last kinds (table, ended) rest c.in-Ok.ensures e;
      fresh = λ e. absurd (push-some before table (sym items ∙ e));
      settled = subst (λ xs. IsSettled (kinds_of c.args.tokens.now) xs ended rest) (sym items)
          (settled_more (kinds_of c.args.tokens.now) before c.loop-rest.ended kinds (table, ended) rest some (c.loop-rest.invariant.over, c.loop-rest.invariant.fresh) c.in-Ok.ensures c.loop-rest.invariant.settled);
    }

pub returns-clause-statements : goal.returns-clause-statements
returns-clause-statements c =
    let none : kinds_of c.loop-rest.rest.now ≡ [] = kinds_none c.loop-rest.rest.now (sym c.is_empty.ensures ∙ c.loop-rest-test.false) in
    statements_are (kinds_of c.args.tokens.now) (map table_tree c.loop-rest.tables.items) c.loop-rest.ended (kinds_of c.loop-rest.rest.now) c.loop-rest.invariant.each c.loop-rest.invariant.spelled (c.loop-rest.invariant.over, c.loop-rest.invariant.fresh)
    (subst IsOver (sym none) nothing_over)

pub returns-in-Err-clause-unexpected : goal.returns-in-Err-clause-unexpected
returns-in-Err-clause-unexpected c =
    let kinds = kinds_of c.loop-rest.rest.now in
    let some : kinds ≢ [] = kinds_some c.loop-rest.rest.now (sym c.is_empty.ensures ∙ c.loop-rest-test.true) in
    rw c.token_place.ensures
    (settled_stops (kinds_of c.args.tokens.now) (map table_tree c.loop-rest.tables.items) c.loop-rest.ended kinds c.in-Some.left some (c.loop-rest.invariant.over, c.loop-rest.invariant.fresh) c.loop-rest.invariant.each
    (refused_as c.in-Err.refusal kinds c.in-Some.left (sym c.in-Some.ensures) c.in-Err.ensures) c.loop-rest.invariant.settled)

pub returns-in-Err-clause-statements : goal.returns-in-Err-clause-statements
returns-in-Err-clause-statements c =
    let kinds = kinds_of c.loop-rest.rest.now in
    statements_are (kinds_of c.args.tokens.now) (map table_tree c.loop-rest.tables.items) c.loop-rest.ended kinds c.loop-rest.invariant.each c.loop-rest.invariant.spelled (c.loop-rest.invariant.over, c.loop-rest.invariant.fresh)
    (refused_over kinds c.in-Some.left (refused_as c.in-Err.refusal kinds c.in-Some.left (sym c.in-Some.ensures) c.in-Err.ensures))
