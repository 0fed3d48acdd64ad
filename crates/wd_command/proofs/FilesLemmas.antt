-- What several reads gave.
use Rattle.std.proofs.Common.{◌∙◌, ◌++◌, ℕ, List, [], ◌∷◌, Option, Some, None, ap, append_assoc, append-nil, map, refl, sym}
use Rattle.std.proofs.lemmas.List.{map-append}
use Rattle.wd_command.specs.Files.{AllRead, File, HandsOver, Reads, ReadsNothing, StandsNext}

pub HandsOver-trans : (before middle after : Option (List File)) (files more : List File) → HandsOver before middle files → HandsOver middle after more
    → HandsOver before after (files ++ more)
HandsOver-trans None middle after files more first second = tt
HandsOver-trans (Some before) middle after files more first second =
    let after_first : HandsOver (Some (before ++ files)) after more = rw first at second in
    after_first ∙ ap Some (append_assoc before files more)

pub HandsOver-nil : (before : Option (List File)) → HandsOver before before []
HandsOver-nil None = tt
HandsOver-nil (Some before) = ap Some (sym (append-nil before))

-- nothing was read yet
pub ReadsNothing-refl : (before : Reads) → ReadsNothing before before
ReadsNothing-refl before = record { handed = HandsOver-nil before.handed; none_failed = refl }

-- files were read, and then more
pub AllRead-trans : (before middle after : Reads) (files more : List File) → AllRead before middle files → AllRead middle after more → AllRead before after (files ++ more)
AllRead-trans before middle after files more first second = record {
  handed = HandsOver-trans before.handed middle.handed after.handed files more first.handed second.handed;
  none_failed = second.none_failed ∙ first.none_failed;
}

abbrev path_of : File → List ℕ
path_of file = file.0

-- what comes next among some paths comes next where more follow
pub StandsNext-before : (paths more : List (List ℕ)) (files : List File) (path : List ℕ) → StandsNext paths files path → StandsNext (paths ++ more) files path
StandsNext-before paths more files path (rest, is) =
    (rest ++ more, ap (λ ps. ps ++ more) is ∙ append_assoc (map path_of files) (path ∷ rest) more)

-- and where files were read before
pub StandsNext-after : (first : List File) (paths : List (List ℕ)) (files : List File) (path : List ℕ) → StandsNext paths files path
    → StandsNext (map path_of first ++ paths) (first ++ files) path
StandsNext-after first paths files path (rest, is) = (
  rest,
  ap (λ ps. map path_of first ++ ps) is ∙ sym (append_assoc (map path_of first) (map path_of files) (path ∷ rest)) ∙ ap (λ front. front ++ path ∷ rest) (sym (map-append path_of first files)),
)
