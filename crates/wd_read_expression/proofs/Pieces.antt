-- What frames and the parts of sort keys and windows that hold no expression spell is read as those parts.
use Rattle.std.proofs.Common.{◌≡◌, ◌<◌, [], ◌∷◌, Option, Some, None, Ok, refl, arith}
use Rattle.wd_lex.specs.declared.token.Terminal.{Terminal}
use Rattle.wd_lex.specs.declared.token.Terminal.TheVariants as m
use Rattle.wd_lex.specs.declared.token.TokenKind.TheVariants as t
use Rattle.wd_read_cursor.specs.declared.words.KeyWord.TheVariants as k
use Rattle.wd_read_cursor.specs.declared.name.Name.{Name}
use Rattle.wd_syntax.specs.declared.frame.Frame.{Frame}
use Rattle.wd_syntax.specs.declared.frame.FrameMode.{FrameMode}
use Rattle.wd_syntax.specs.declared.frame.FrameMode.TheVariants.{Rows, Range, Groups}
use Rattle.wd_syntax.specs.declared.frame.Bound.{Bound}
use Rattle.wd_syntax.specs.declared.frame.Bound.TheVariants.{UnboundedPreceding, Preceding, CurrentRow, Following, UnboundedFollowing}
use Rattle.wd_syntax.specs.declared.frame.Extent.{Extent}
use Rattle.wd_syntax.specs.declared.frame.Extent.TheVariants.{Start, Between}
use Rattle.wd_syntax.specs.declared.frame.Exclusion.{Exclusion}
use Rattle.wd_syntax.specs.declared.frame.Exclusion.TheVariants as x
use Rattle.wd_syntax.specs.declared.expression.SortDirection.{SortDirection}
use Rattle.wd_syntax.specs.declared.expression.SortDirection.TheVariants.{Ascending, Descending}
use Rattle.wd_syntax.specs.declared.expression.NullsPlace.{NullsPlace}
use Rattle.wd_syntax.specs.declared.expression.NullsPlace.TheVariants as p
use Rattle.wd_read_cursor.specs.Tokens.{Kinds, ◌▸◌}
use Rattle.wd_syntax.specs.Spelling.{mode_onto, bound_onto, extent_onto, excluded_onto, exclusion_onto, frame_onto, direction_onto, nulls_onto, base_onto}
use Rattle.wd_read_cursor.specs.Cursor.{eat, eat_word, expect_word, number_at}
use Rattle.wd_read_expression.specs.Reading.{mode_if, mode_at, side_at, bound_at, extent_at, exclusion_words_at, exclusion_at, frame_at, direction_at, nulls_at, base_at}
use Rattle.wd_read_cursor.proofs.Eaten.{eat_same, expect_same, eat_word_same, eat_name_same}
use Rattle.wd_read_expression.proofs.TerminalFacts.{clause, clauses, clause_stops, clause_no_name, clause_no_word}

-- ---- frames

mode_same : (mode : FrameMode) (ts : Kinds) → mode_at (mode_onto mode ts) ≡ Some (mode, ts)
unfolding mode_at
mode_same Rows ts = refl
mode_same Range ts = refl
mode_same Groups ts = refl

mode_stops_at : (x : Terminal) → 7 < clause x → mode_if x ≡ None
mode_stops_at m.Rows lt = absurd (omega arith)
mode_stops_at m.Range lt = absurd (omega arith)
mode_stops_at m.Groups lt = absurd (omega arith)
mode_stops_at _ lt = refl

mode_stops : (ts : Kinds) → 7 < clauses ts → mode_at ts ≡ None
unfolding mode_at
mode_stops [] lt = refl
mode_stops (t.Terminal x ∷ ts) lt = rw (mode_stops_at x lt) refl
mode_stops (t.Word text ∷ ts) lt = refl
mode_stops (t.Quoted text ∷ ts) lt = refl
mode_stops (t.Literal text ∷ ts) lt = refl
mode_stops (t.Number n ∷ ts) lt = refl

bound_same : (bound : Bound) (ts : Kinds) → bound_at (bound_onto bound ts) ≡ Ok (bound, ts)
unfolding bound_at side_at eat_word expect_word number_at
bound_same UnboundedPreceding ts = refl
bound_same (Preceding n) ts = refl
bound_same CurrentRow ts = refl
bound_same (Following n) ts = refl
bound_same UnboundedFollowing ts = refl

bound_begins : (bound : Bound) (ts : Kinds) → eat_word k.Between (bound_onto bound ts) ≡ None
unfolding eat_word
bound_begins UnboundedPreceding ts = refl
bound_begins (Preceding n) ts = refl
bound_begins CurrentRow ts = refl
bound_begins (Following n) ts = refl
bound_begins UnboundedFollowing ts = refl

extent_same : (extent : Extent) (ts : Kinds) → extent_at (extent_onto extent ts) ≡ Ok (extent, ts)
unfolding extent_at
extent_same (Start a) ts = rw (bound_begins a ts, bound_same a ts) refl
extent_same (Between a b) ts = rw (eat_word_same k.Between (bound_onto a (m.And ▸ bound_onto b ts)), bound_same a (m.And ▸ bound_onto b ts), expect_same m.And (bound_onto b ts), bound_same b ts) refl

excluded_same : (exclusion : Exclusion) (ts : Kinds) → exclusion_words_at (excluded_onto exclusion ts) ≡ Ok (exclusion, ts)
unfolding exclusion_words_at eat eat_word expect_word
excluded_same x.CurrentRow ts = refl
excluded_same x.Group ts = refl
excluded_same x.Ties ts = refl
excluded_same x.NoOthers ts = refl

exclusion_same : (exclusion : Option Exclusion) (ts : Kinds) → 0 < clauses ts → exclusion_at (exclusion_onto exclusion ts) ≡ Ok (exclusion, ts)
unfolding exclusion_at
exclusion_same None ts lt = rw (clause_no_word k.Exclude ts lt) refl
exclusion_same (Some e) ts lt = rw (eat_word_same k.Exclude (excluded_onto e ts), excluded_same e ts) refl

pub frame_same : (frame : Option Frame) (ts : Kinds) → 7 < clauses ts → frame_at (frame_onto frame ts) ≡ Ok (frame, ts)
unfolding frame_at
frame_same None ts lt = rw (mode_stops ts lt) refl
frame_same (Some f) ts lt = rw (mode_same f.mode (extent_onto f.extent (exclusion_onto f.exclusion ts)), extent_same f.extent (exclusion_onto f.exclusion ts), exclusion_same f.exclusion ts (omega arith)) refl

mode_clause : (mode : FrameMode) (ts : Kinds) → clauses (mode_onto mode ts) ≡ 7
mode_clause Rows ts = refl
mode_clause Range ts = refl
mode_clause Groups ts = refl

pub frame_clause : (frame : Option Frame) (ts : Kinds) → 6 < clauses ts → 6 < clauses (frame_onto frame ts)
frame_clause None ts lt = lt
frame_clause (Some f) ts lt = omega (arith, mode_clause f.mode (extent_onto f.extent (exclusion_onto f.exclusion ts)))

-- ---- sort keys

direction_same_differs : (ts : Kinds) → eat m.Asc (m.Desc ▸ ts) ≡ None
unfolding eat
direction_same_differs ts = refl

pub direction_same : (direction : Option SortDirection) (ts : Kinds) → eat m.Asc ts ≡ None → eat m.Desc ts ≡ None → direction_at (direction_onto direction ts) ≡ (direction, ts)
unfolding direction_at
direction_same None ts asc desc = rw (asc, desc) refl
direction_same (Some Ascending) ts asc desc = rw (eat_same m.Asc ts) refl
direction_same (Some Descending) ts asc desc = rw (let e : eat m.Asc (m.Desc ▸ ts) ≡ None = direction_same_differs ts in e, eat_same m.Desc ts) refl

nulls_same_absent : (ts : Kinds) → eat_word k.Nulls ts ≡ None → nulls_at ts ≡ Ok (None, ts)
unfolding nulls_at
nulls_same_absent ts e = rw e refl

nulls_same_there : (place : NullsPlace) (ts : Kinds) → nulls_at (nulls_onto (Some place) ts) ≡ Ok (Some place, ts)
unfolding nulls_at eat_word expect_word
nulls_same_there p.First ts = refl
nulls_same_there p.Last ts = refl

pub nulls_same : (nulls : Option NullsPlace) (ts : Kinds) → 0 < clauses ts → nulls_at (nulls_onto nulls ts) ≡ Ok (nulls, ts)
nulls_same None ts lt = nulls_same_absent ts (clause_no_word k.Nulls ts lt)
nulls_same (Some place) ts lt = nulls_same_there place ts

nulls_begins_there : (x : Terminal) (place : NullsPlace) (ts : Kinds) → eat x (nulls_onto (Some place) ts) ≡ None
unfolding eat
nulls_begins_there x p.First ts = refl
nulls_begins_there x p.Last ts = refl

-- a word is no terminal, and what ends a clause is no direction
pub nulls_begins : (x : Terminal) (nulls : Option NullsPlace) (ts : Kinds) → clause x < clauses ts → eat x (nulls_onto nulls ts) ≡ None
nulls_begins x None ts lt = clause_stops x ts lt
nulls_begins x (Some place) ts lt = nulls_begins_there x place ts

pub base_same : (base : Option Name) (ts : Kinds) → 0 < clauses ts → base_at (base_onto base ts) ≡ (base, ts)
unfolding base_at
base_same None ts lt = rw (clause_no_name ts lt) refl
base_same (Some n) ts lt = rw (eat_name_same n ts) refl
