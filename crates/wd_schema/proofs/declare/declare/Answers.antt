use Rattle.std.proofs.Common.{◌≡◌, ◌≤◌, ◌∙◌, ap, map, length, arith}
use Rattle.std.proofs.lemmas.List.{length-map}
use Rattle.wd_schema.specs.declared.error.SchemaError.TheVariants as e
use Rattle.wd_schema.specs.Declares.{columns_of}
use Rattle.wd_read_statements.specs.Written.{element_tree, name_text}
use Rattle.wd_schema.proofs.declare.declare.Goals as goal

pub declared_keys-requires : goal.declared_keys-requires
declared_keys-requires c =
    let columns = columns_of (map element_tree c.args.table.now.elements.items) in
    let same : length c.deref-7.result.now ≡ length columns =
    ap length c.deref-7.ensures.value ∙ ap length c.in_ok-names.ensures ∙ ap (λ es. length (map (λ column. name_text column.name) (columns_of (map element_tree es)))) c.deref.ensures.value
    ∙ length-map columns (λ column. name_text column.name) in
    let few : length columns ≤ 256 = (c.in_default.ensures.allowed e.TooMany).0 in
    omega arith
