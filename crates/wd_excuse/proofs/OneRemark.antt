-- A text has one remark.
use Rattle.std.proofs.Common.{◌≡◌, ◌∙◌, ℕ, ◌+◌, Bool, true, ◌||◌, List, [], ◌∷◌, ◌++◌, length, Option, Some, None, sym, ap, subst, append_assoc}
use Rattle.std.proofs.lemmas.Bool.{and_parts}
use Rattle.std.specs.List.{list_all, list_any}
use Rattle.wd_lex.specs.Characters.{is_line_end}
use Rattle.wd_lex.specs.Lexed.{start_of}
use Rattle.wd_lex.specs.Pieces.{Piece, spelling, spellings, ArePieces}
use Rattle.wd_lex.proofs.TextLaws.{same_piece}
use Rattle.wd_excuse.specs.Gaps.{is_gap, HasNoGap}
use Rattle.wd_excuse.specs.Remarks.{Said, or_else, piece_says, first_said, BeginsWithGaps, IsRemark, HasOneRemark}

-- where nothing is said, no white space or comment follows
abbrev Ends : Option Said → List ℕ → Type 0
Ends None rest = HasNoGap rest
Ends (Some said) rest = Unit {0}

-- the same said of a piece, and then of the others
or_same : (first : Option Said) (a b x y : Option Said) → or_else first x ≡ a → or_else first y ≡ b → (x ≡ a → y ≡ b → a ≡ b) → a ≡ b
or_same None a b x y e f same = same e f
or_same (Some said) a b x y e f same = sym e ∙ f

same_said : (is_above : Bool) (place : ℕ) (gaps others : List Piece) (rest more : List ℕ) (a b : Option Said) → ArePieces gaps rest → ArePieces others more → spellings gaps ++ rest ≡ spellings others ++ more
    → list_all is_gap gaps ≡ true → list_all is_gap others ≡ true → Ends a rest → Ends b more → first_said is_above place gaps ≡ a → first_said is_above place others ≡ b → a ≡ b
same_said is_above place [] [] rest more a b each all same are too ends stop e f = sym e ∙ f
same_said is_above place [] (other ∷ others) rest more a b each all same are too ends stop e f =
    absurd (subst (λ x. Ends x rest) (sym e) ends other (spellings others ++ more) (and_parts _ _ too).0 all.0 (same ∙ append_assoc (spelling other) (spellings others) more))
same_said is_above place (gap ∷ gaps) [] rest more a b each all same are too ends stop e f =
    absurd (subst (λ x. Ends x more) (sym f) stop gap (spellings gaps ++ rest) (and_parts _ _ are).0 each.0 (sym same ∙ append_assoc (spelling gap) (spellings gaps) rest))
same_said is_above place (gap ∷ gaps) (other ∷ others) rest more a b each all same are too ends stop e f =
    let known = same_piece gap other (spellings gaps ++ rest) (spellings others ++ more) each.0 all.0
    (sym (append_assoc (spelling gap) (spellings gaps) rest) ∙ same ∙ append_assoc (spelling other) (spellings others) more) in
    let there : first_said is_above place (gap ∷ others) ≡ b = ap (λ g. first_said is_above place (g ∷ others)) known.0 ∙ f in
    or_same (piece_says is_above place gap) a b _ _ e there
    (λ x y. same_said (is_above || list_any is_line_end (spelling gap)) (place + length (spelling gap)) gaps others rest more a b each.1 all.1 known.1 (and_parts _ _ are).1 (and_parts _ _ too).1 ends stop x y)

-- what a remark rests on
record Rests (text : List ℕ) (is_first : Bool) (a : Option Said) : Type 0 where
  gaps : List Piece
  rest : List ℕ
  begins : BeginsWithGaps text gaps rest
  ends : Ends a rest
  said : first_said is_first (start_of text) gaps ≡ a

rests : (text : List ℕ) (is_first : Bool) (a : Option Said) → IsRemark text is_first a → Rests text is_first a
rests text is_first None h = record { gaps = h.0; rest = h.1; begins = h.2; ends = h.3; said = h.4 }
rests text is_first (Some said) h = record { gaps = h.0; rest = h.1; begins = h.2; ends = tt; said = h.3 }

pub one_remark : HasOneRemark
one_remark text is_first a b h k =
    let s = rests text is_first a h in
    let t = rests text is_first b k in
    same_said is_first (start_of text) s.gaps t.gaps s.rest t.rest a b s.begins.cut.each t.begins.cut.each (sym s.begins.cut.whole ∙ t.begins.cut.whole) s.begins.each t.begins.each s.ends t.ends s.said t.said
