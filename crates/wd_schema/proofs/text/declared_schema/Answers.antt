use Rattle.std.proofs.Common.{◌≡◌, ◌∙◌, ◌<◌, ◌+◌, sym, ap, subst, List, [], ◌∷◌, ◌++◌, map, take, length, get_or, true, false, arith, add-one}
use Rattle.std.proofs.lemmas.List.{get_or-map, length-map, length-take, map_push, take-map}
use Rattle.std.proofs.lemmas.Result.{err_from_is_err_and}
use Rattle.std.proofs.Math.Seq.{take-suc}
use Rattle.std.specs.List.{list_any}
use Rattle.std.specs.Str.{bytes_eq}
use Rattle.std.specs.String.{string_bytes}
use Rattle.wd_schema.specs.Declares.{AllKeep, Keeps, table_declared}
use Rattle.wd_schema.specs.Tables.{table_of}
use Rattle.wd_schema.specs.WellFormed.{IsWellFormed}
use Rattle.wd_read_statements.specs.Written.{TableTree, name_text, table_tree}
use Rattle.wd_schema.proofs.SchemaFacts.{found_name, insert_new, keeps_at, keeps_more, map_push_both, named_by, table_repeats}
use Rattle.wd_schema.proofs.WellFormedFacts.{well_formed}
use Rattle.wd_schema.proofs.text.declared_schema.Goals as goal

pub returns-then-contains_key-clause-refused : goal.returns-then-contains_key-clause-refused
returns-then-contains_key-clause-refused c = λ _ differ.
    let tables = c.args.tables.now in
    let t = c.loop-t.t in
    let table = c.index-tables-t.result in
    let name = name_text table.name in
    let asked : c.as_str.result.now ≡ name = c.as_str.ensures in
    let among : list_any (bytes_eq name) (map (λ e. string_bytes e.0) c.loop-t.schema.entries) ≡ true =
    sym (found_name c.loop-t.schema.entries name) ∙ rw asked at (sym c.contains_key.ensures ∙ c.if-contains_key.true) in
    let some : list_any (bytes_eq name) (map (λ (x : TableTree). name_text x.name) (take t (map table_tree tables))) ≡ true =
    rw take-map (rw c.loop-t.invariant.names at among) in
    table_repeats (map table_tree tables) t (table_tree table) (rw length-map c.loop-t-test.true)
    (get_or-map table_tree tables t table (table_tree table) c.loop-t-test.true ∙ ap table_tree (sym c.index-tables-t.is)) some differ

pub returns-in_err-declared-clause-refused : goal.returns-in_err-declared-clause-refused
returns-in_err-declared-clause-refused c =
    let tables = c.args.tables.now in
    let t = c.loop-t.t in
    let table = c.index-tables-t.result in
    let at : get_or (map table_tree tables) t (table_tree table) ≡ table_tree table = get_or-map table_tree tables t table (table_tree table) c.loop-t-test.true ∙ ap table_tree (sym c.index-tables-t.is) in
    let p = err_from_is_err_and c.from_residual.result c.from_residual.ensures.1 in
    rw (p.1, p.2) (λ ne all. c.in_err-declared.ensures.refused ne (subst (Keeps c.in_err-declared.field-0.0) at (keeps_at c.in_err-declared.field-0.0 (map table_tree tables) all t (table_tree table) (rw length-map c.loop-t-test.true))))

pub loop-t-preserved : goal.loop-t-preserved
loop-t-preserved c =
    let tables = c.args.tables.now in
    let t = c.loop-t.t in
    let table = c.index-tables-t.result in
    let name = name_text table.name in
    let old = c.loop-t.schema.entries in
    let before : List TableTree = map table_tree (take t tables) in
    let key = c.in_ok-key.key in
    let value = c.in_ok-declared.declared in
    let asked : c.as_str.result.now ≡ name = c.as_str.ensures in
    let none : list_any (bytes_eq name) (map (λ e. string_bytes e.0) old) ≡ false =
    sym (found_name old name) ∙ rw asked at (sym c.contains_key.ensures ∙ c.if-contains_key.false) in
    let named : string_bytes key ≡ name = c.in_ok-key.ensures.ok ∙ c.as_str-in-loop-t.ensures in
    let entries : c.insert.new.self.entries ≡ old ++ (key, value) ∷ [] = c.in_ok-insert.ensures.entries ∙ insert_new old key value name named none in
    let next : map table_tree (take (t + 1) tables) ≡ before ++ table_tree table ∷ [] =
    ap (map table_tree) (ap (λ n. take n tables) (add-one t) ∙ take-suc tables t table c.loop-t-test.true ∙ ap (λ y. take t tables ++ y ∷ []) (sym c.index-tables-t.is))
    ∙ map_push table_tree (take t tables) table in
    let few : length before < 64 = omega (arith, length-map (take t tables) table_tree, length-take t tables) in
    let fresh : list_any (bytes_eq name) (map (λ (x : TableTree). name_text x.name) before) ≡ false = rw c.loop-t.invariant.names at none in
    record {
      tables = rw (entries, next) (map_push_both (λ e. table_of e.1) table_declared old (key, value) before (table_tree table) c.loop-t.invariant.tables c.in_ok-declared.ensures.declared);
      names = rw (entries, next) (map_push_both (λ e. string_bytes e.0) (λ (x : TableTree). name_text x.name) old (key, value) before (table_tree table) c.loop-t.invariant.names named);
      kept = λ refusal. subst (AllKeep refusal) (sym next) (keeps_more before (table_tree table) few fresh c.in_ok-declared.ensures.allowed refusal (c.loop-t.invariant.kept refusal));
    }

pub invariant_of-result : goal.invariant_of-result
invariant_of-result c =
    let trees : List TableTree = map table_tree (take c.loop-t.t c.args.tables.now) in
    record {
      named = named_by c.loop-t.schema.entries trees c.loop-t.invariant.names c.loop-t.invariant.tables;
      well_formed = subst IsWellFormed (sym c.loop-t.invariant.tables) (well_formed trees c.loop-t.invariant.kept);
    }
