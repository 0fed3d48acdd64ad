use Rattle.std.proofs.Common.{◌≡◌, ◌≢◌, [], map, false, length}
use Rattle.std.specs.List.{All}
use Rattle.wd_lex.specs.Lexed.{kinds_of}
use Rattle.wd_read_statements.specs.Grammar.{IsTable, spell_tables, spell_stop}
use Rattle.wd_read_statements.specs.Written.{table_tree}
use Rattle.wd_read_statements.proofs.SchemaLaws.{IsSettled}
use Rattle.wd_read_statements.proofs.reader.read_statements.Given as goal

abbrev pub invariant-loop-rest : goal.invariant-loop-rest
invariant-loop-rest l = record {
  each : All IsTable (map table_tree l.tables.items);
  spelled : kinds_of l.fn.tokens ≡ spell_tables (map table_tree l.tables.items) (spell_stop l.ended (kinds_of l.rest));
  over : map table_tree l.tables.items ≢ [] → l.ended ≡ false → kinds_of l.rest ≡ [];
  fresh : map table_tree l.tables.items ≡ [] → l.ended ≡ false;
  settled : IsSettled (kinds_of l.fn.tokens) (map table_tree l.tables.items) l.ended (kinds_of l.rest);
}

abbrev pub decreases-loop-rest : goal.decreases-loop-rest
decreases-loop-rest l = length l.rest
