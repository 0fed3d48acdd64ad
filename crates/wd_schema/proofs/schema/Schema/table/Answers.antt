use Rattle.std.proofs.Common.{rules, ◌≡◌, ◌∙◌, option_map}
use Rattle.std.specs.Map.{lookup}
use Rattle.std.specs.Str.{bytes_eq}
use Rattle.std.specs.String.{string_bytes}
use Rattle.wd_schema.specs.Tables.{table_of}
use Rattle.wd_schema.proofs.SchemaFacts.{found_by_name}
use Rattle.wd_schema.proofs.schema.Schema.table.Goals as goal

pub returns : goal.returns
returns c =
    let schema = c.args.self.now in
    let name = c.args.name.now in
    let found : option_map (λ t. table_of t.now) c.get.result ≡ option_map table_of (lookup (λ k. bytes_eq name (string_bytes k)) schema.tables.entries) = search rules in
    found ∙ found_by_name schema.tables.entries name schema.named
