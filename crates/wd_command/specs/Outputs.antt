-- The output that the code makes.
use Rattle.std.specs.Prelude.{ℕ, List}
use Rattle.wd_command.specs.Commands.{IsOutput}
use Rattle.wd_command.specs.Files.{AllRead, File, Reads}
use Rattle.wd_report.specs.declared.verdict.Output.{Output}

-- the whole output for the words, over the files that were supplied
pub record Makes (words : List (List ℕ)) (before after : Reads) (output : Output) : Type 0 where
  pub files : List File
  pub read : AllRead before after files
  pub is : IsOutput words files output.text.items output.status
