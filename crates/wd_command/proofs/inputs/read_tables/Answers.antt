use Rattle.std.proofs.Common.{arith, ◌≡◌, ◌∙◌, ◌+◌, ◌<◌, ℕ, zero, suc, List, [], ◌∷◌, ◌++◌, ap, drop, get_or, length, map, refl, subst, sym, take, Bor}
use Rattle.std.proofs.lemmas.List.{map-append, take_more}
use Rattle.std.proofs.lemmas.Simd.{map-map}
use Rattle.wd_command.specs.Files.{AllRead, AreTableTexts, File, Reads, StandsNext}
use Rattle.wd_command.specs.Inputs.{table_by}
use Rattle.wd_command.specs.declared.task.Table.{Table}
use Rattle.wd_command.proofs.FailureLemmas.{IfErr-from_same, IsUnread-after}
use Rattle.wd_command.proofs.FilesLemmas.{AllRead-trans, StandsNext-before, StandsNext-after}
use Rattle.wd_command.proofs.inputs.read_tables.Goals as goal

abbrev named : List (Table (Bor (List ℕ))) → List (List ℕ × List ℕ)
named tables = map (table_by (λ path. path.now)) tables

abbrev paths : List (List ℕ × List ℕ) → List (List ℕ)
paths tables = map (λ t. t.1) tables

-- the paths before a place with the one there, and those after it
paths_at : (tables : List (Table (Bor (List ℕ)))) (i : ℕ) (d : Table (Bor (List ℕ))) → i < length tables
    → (paths (named (take i tables)) ++ (get_or tables i d).file.now ∷ []) ++ paths (named (drop (suc i) tables)) ≡ paths (named tables)
paths_at [] i d below = absurd (omega (arith, below))
paths_at (t ∷ tables) zero d below = refl
paths_at (t ∷ tables) (suc i) d below = ap (λ rest. t.file.now ∷ rest) (paths_at tables i d (omega (arith, below)))

abbrev file_of : List ℕ × File → File
file_of table = table.1

abbrev path_of : List ℕ × File → List ℕ × List ℕ
path_of table = (table.0, table.1.0)

-- after the tables that were read comes the next path
next_path : (tables : List (Table (Bor (List ℕ)))) (read : List (List ℕ × File)) (i : ℕ) (d : Table (Bor (List ℕ))) → i < length tables
    → map path_of read ≡ named (take i tables) → (files : List File) (path : List ℕ) → StandsNext ((get_or tables i d).file.now ∷ []) files path
    → StandsNext (paths (named tables)) (map file_of read ++ files) path
next_path tables read i d below same files path next =
    let front : map (λ (f : File). f.0) (map file_of read) ≡ paths (named (take i tables)) =
    map-map (λ (f : File). f.0) file_of read ∙ sym (map-map (λ (t : List ℕ × List ℕ). t.1) path_of read) ∙ ap paths same in
    let here = (get_or tables i d).file.now in
    subst (λ ps. StandsNext ps (map file_of read ++ files) path)
    (ap (λ before. (before ++ here ∷ []) ++ paths (named (drop (suc i) tables))) front ∙ paths_at tables i d below)
    (StandsNext-before (map (λ (f : File). f.0) (map file_of read) ++ here ∷ []) (paths (named (drop (suc i) tables))) (map file_of read ++ files) path
    (StandsNext-after (map file_of read) (here ∷ []) files path next))

pub returns-in_err-file-clause-err : goal.returns-in_err-file-clause-err
returns-in_err-file-clause-err g c =
    IfErr-from_same c.from_residual-in_err-file.result c.in_err-file.field-0.0 _ c.from_residual-in_err-file.ensures.1
    (IsUnread-after _ _ _ _ _ _ c.loop-table.invariant.read
    (next_path c.args.tables.now c.loop-table.invariant.tables c.loop-table.table-index _ c.loop-table-test.true c.loop-table.invariant.named)
    c.in_err-file.field-0.0 c.in_err-file.ensures.err)

-- one more table is read
one_more : (before middle after : Reads) (tables : List (Table (Bor (List ℕ)))) (texts : List (List ℕ × List ℕ)) (i : ℕ) (d : Table (Bor (List ℕ))) (text : List ℕ)
    → i < length tables → AreTableTexts before middle (named (take i tables)) texts → AllRead middle after (((get_or tables i d).file.now, text) ∷ [])
    → AreTableTexts before after (named (take (i + 1) tables)) (texts ++ ((get_or tables i d).name.now, text) ∷ [])
one_more before middle after tables texts i d text below h read =
    let name = (get_or tables i d).name.now in
    let path = (get_or tables i d).file.now in
    let more : List (List ℕ × File) = (name, (path, text)) ∷ [] in
    record {
      tables = h.tables ++ more;
      named = map-append path_of h.tables more ∙ ap (λ front. front ++ (name, path) ∷ []) h.named
          ∙ sym (map-append (table_by (λ (p : Bor (List ℕ)). p.now)) (take i tables) (get_or tables i d ∷ [])) ∙ ap named (sym (take_more tables i d below));
      read = subst (AllRead before after) (sym (map-append file_of h.tables more)) (AllRead-trans before middle after (map file_of h.tables) ((path, text) ∷ []) h.read read);
      are = map-append (λ (t : List ℕ × File). (t.0, t.1.1)) h.tables more ∙ ap (λ front. front ++ (name, text) ∷ []) h.are;
    }

pub loop-table-preserved : goal.loop-table-preserved
loop-table-preserved g c =
    rw (c.in_ok-push.ensures.items, map-append)
    (one_more _ _ _ c.args.tables.now _ c.loop-table.table-index _ _ c.loop-table-test.true c.loop-table.invariant c.in_ok-file.ensures.read)
