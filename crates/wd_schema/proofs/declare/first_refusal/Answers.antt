use Rattle.std.proofs.Common.{◌≡◌, ◌≤◌, ◌∙◌, sym, ap, length, List, ℕ, not, refl, arith}
use Rattle.std.proofs.lemmas.List.{length-map}
use Rattle.std.proofs.lemmas.List.Folds.{list_any_none}
use Rattle.std.specs.List.{list_any, list_all}
use Rattle.std.specs.Prelude.{is_some}
use Rattle.std.specs.Str.{bytes_eq}
use Rattle.wd_schema.specs.declared.error.SchemaError.TheVariants as e
use Rattle.wd_schema.specs.Declares.{ColumnsDiffer, Keeps, KeysNameColumns, NullsAreAllowed, SaidKey, TypesAreKnown, columns_of, is_forbidden, keys_of, names_of, type_named}
use Rattle.wd_schema.specs.Keys.{said}
use Rattle.wd_read_statements.specs.Written.{TableTree, name_text, table_tree}
use Rattle.wd_schema.proofs.MeetsFacts.{all_from_test, test_from_all, none_from_test, from_not}
use Rattle.wd_schema.proofs.RefusalFacts.{all_kept, by_test, judge_at, judge_both, judged, known_from_test, test_from_known}
use Rattle.wd_schema.proofs.declare.first_refusal.Goals as goal

pub returns : goal.returns
returns c =
    let table : TableTree = table_tree c.args.table.now in
    let names : List (List ℕ) = names_of table.elements in
    let keys : List SaidKey = keys_of table.elements in
    let twice = judge_at table (length names ≤ 256 → ColumnsDiffer table) e.ColumnTwice c.column_twice.result c.refusal_at-twice.result c.refusal_at-twice.ensures.none c.refusal_at-twice.ensures.some
    (rw (← c.requires.columns) c.column_twice.ensures.differ) (rw (← c.requires.columns) c.column_twice.ensures.twice) in
    let are_known = by_test c.unknown_column.result (list_all (λ key. list_all (λ name. list_any (bytes_eq name) names) key.columns) keys) (KeysNameColumns table)
    (rw (← c.requires.columns, ← c.requires.keys) c.unknown_column.ensures) (known_from_test names keys) (test_from_known names keys) in
    let unknown = judge_at table (Keeps e.UnknownColumn table) e.UnknownColumn c.unknown_column.result c.refusal_at-unknown.result c.refusal_at-unknown.ensures.none c.refusal_at-unknown.ensures.some are_known.0 are_known.1 in
    let second = judge_at table (Keeps e.SecondPrimaryKey table) e.SecondPrimaryKey c.second_primary.result c.refusal_at-second.result c.refusal_at-second.ensures.none c.refusal_at-second.ensures.some
    (rw (← c.requires.keys) c.second_primary.ensures.one) (rw (← c.requires.keys) c.second_primary.ensures.two) in
    let again = judge_at table (Keeps e.KeyColumnTwice table) e.KeyColumnTwice c.key_column_twice.result c.refusal_at-again.result c.refusal_at-again.ensures.none c.refusal_at-again.ensures.some
    (rw (← c.requires.keys) c.key_column_twice.ensures.differ) (rw (← c.requires.keys) c.key_column_twice.ensures.twice) in
    let width : length c.args.columns.now ≡ length (columns_of table.elements) = ap length c.requires.columns ∙ length-map (columns_of table.elements) (λ column. name_text column.name) in
    let height : length c.args.keys.now ≡ length keys = sym (length-map c.args.keys.now said) ∙ ap length c.requires.keys in
    let many = judge_at table (Keeps e.TooMany table) e.TooMany c.too_many.result c.refusal_at-many.result c.refusal_at-many.ensures.none c.refusal_at-many.ensures.some
    (rw (← width, ← height) c.too_many.ensures.few) (rw (← width, ← height) c.too_many.ensures.many) in
    let columns = columns_of table.elements in
    let are_typed = by_test c.unknown_type.result (list_all (λ column. is_some (type_named (name_text column.kind))) columns) (TypesAreKnown table)
    (rw c.deref-3.ensures.value at c.unknown_type.ensures) (all_from_test (λ column. is_some (type_named (name_text column.kind))) columns) (test_from_all (λ column. is_some (type_named (name_text column.kind))) columns) in
    let untyped = judge_at table (Keeps e.UnknownType table) e.UnknownType c.unknown_type.result c.refusal_at-untyped.result c.refusal_at-untyped.ensures.none c.refusal_at-untyped.ensures.some are_typed.0 are_typed.1 in
    let are_allowed = by_test c.forbidden_null.result (not (list_any (is_forbidden keys) columns)) (NullsAreAllowed table)
    (rw (← c.requires.keys, ← c.deref-4.ensures.value) (ap not c.forbidden_null.ensures)) (λ h. none_from_test (is_forbidden keys) columns (from_not _ h)) (λ h. rw (list_any_none (is_forbidden keys) columns h) refl) in
    let null = judge_at table (Keeps e.NullForbidden table) e.NullForbidden c.forbidden_null.result c.refusal_at-null.result c.refusal_at-null.ensures.none c.refusal_at-null.ensures.some are_allowed.0 are_allowed.1 in
    let two = judge_both table _ _ _ _ _ twice unknown c.earlier-first.ensures in
    let three = judge_both table _ _ _ _ _ two second c.earlier-first-2.ensures in
    let four = judge_both table _ _ _ _ _ three again c.earlier-first-3.ensures in
    let five = judge_both table _ _ _ _ _ four many c.earlier-first-4.ensures in
    let six = judge_both table _ _ _ _ _ five untyped c.earlier-first-5.ensures in
    let all = judge_both table _ _ _ _ _ six null c.earlier.ensures in
    let answer = judged table _ c.earlier.result (λ f. all_kept table (f.0.0.0.0.0.0 (omega (arith, f.0.0.1.0, length-map (columns_of table.elements) (λ column. name_text column.name)))) f.0.0.0.0.0.1 f.0.0.0.0.1 f.0.0.0.1 f.0.0.1 f.0.1 f.1) all in
    record { allowed = answer.0; refused = answer.1 }
