-- Texts whose answers are read off by hand.
use Rattle.std.proofs.Common.{◌≡◌, codes, false, [], ◌∷◌, ◌++◌, IsUtf8, refl, lit≤}
use Rattle.std.proofs.lemmas.Bool.{both_ways}
use Rattle.std.proofs.lemmas.Str.{IsUtf8-from_is_utf8, is_utf8-from_IsUtf8}
use Rattle.std.specs.Str.{is_utf8, chars}
use lib.Utf8.{encode}
use Rattle.wd_lex.specs.declared.error.LexError.TheVariants.{UnknownCharacter}
use Rattle.wd_lex.specs.Causes.{IsRefused}
use Rattle.wd_lex.specs.Examples.{TextsComeOut}
use Rattle.wd_lex.specs.Lexed.{byte_order_mark}
use Rattle.wd_lex.specs.Pieces.{LineComment}
use Rattle.wd_lex.specs.Reading.{piece_at, read_as, kind_at}
use Rattle.wd_lex.proofs.SoundReading.{piece_at_sound}

is_bad : is_utf8 (codes "--" ++ 0xFF ∷ []) ≡ false
unfolding is_utf8 chars encode
is_bad = refl

bad_utf8 : IsUtf8 (codes "--" ++ 0xFF ∷ []) → ⊥
bad_utf8 utf8 = both_ways (is_utf8 (codes "--" ++ 0xFF ∷ [])) is_bad (is_utf8-from_IsUtf8 (codes "--" ++ 0xFF ∷ []) utf8)

unknown_mark : IsRefused (UnknownCharacter 3) byte_order_mark
unfolding piece_at read_as kind_at
unknown_mark = (piece_at_sound 3 0xEF (0xBB ∷ 0xBF ∷ [])).1

pub texts_come_out : TextsComeOut
unfolding is_utf8 chars encode
texts_come_out = record {
  no_tokens = λ tokens lexed. bad_utf8 lexed.readable.utf8;
  not_utf8 = (lit≤ tt, bad_utf8);
  marked = record {
    readable = record { short = lit≤ tt; utf8 = IsUtf8-from_is_utf8 (byte_order_mark ++ codes "--") refl };
    pieces = LineComment [] ∷ [];
    cut = record { whole = refl; each = (record { is = refl; longest = tt; good = tt }, tt) };
    are = refl;
  };
  marked_twice = record {
    readable = record { short = lit≤ tt; utf8 = IsUtf8-from_is_utf8 (byte_order_mark ++ byte_order_mark) refl };
    pieces = [];
    rest = byte_order_mark;
    before = record { whole = refl; each = tt };
    there = refl;
    refused = unknown_mark;
  };
}
